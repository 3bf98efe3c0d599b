-- `serve_at` meets its contract. Assumes nothing.
use mathlib.Core.Path.{refl}
use Rattle.labels.proofs.Replying.{refused_clauses, clauses_as}
use Rattle.simulation.specs.Run.{ask_at}
use Rattle.simulation.proofs.Listing.{serve_past, serve_here}
use Rattle.simulation.proofs.serve_at.Goals as goal

pub returns-then-n-i : goal.returns-then-n-i
returns-then-n-i c =
    let a = c.args in
    refused_clauses 18 (serve_past a.t.now a.words.now a.i c.if-n-i.true) refl refl refl

pub returns : goal.returns
unfolding ask_at
returns c =
    let a = c.args in
    clauses_as (serve_here a.t.now a.words.now a.i c.if-n-i.false) c.serve.ensures
