-- `start` meets its contract. Assumes nothing.
use Prim.Native.Nat.{ℕ}
use mathlib.Core.Path.{refl, sym, ap, ◌∙◌}
use native.Mathlib.Numerals.{add-one}
use lib.ListN.{set}
use borrow.Author.Tests.{eq-eqb, ne_eqb}
use Rattle.bits.proofs.Truth.{and_intro, false_and, and_false}
use Rattle.table.specs.Reading.{owner_at, state}
use Rattle.table.proofs.Answers.{all_authorised}
use Rattle.table.proofs.Encode.{encode_state, write_owner, write_active}
use Rattle.separation.proofs.Sets.{dynamic_told}
use Rattle.masks.proofs.Refreshing.{session_shown}
use Rattle.rbac.proofs.Serving.{serve_yes, serve_no}
use Rattle.sessions.proofs.start.Goals as goal

pub returns-then-t-s-ne0 : goal.returns-then-t-s-ne0
returns-then-t-s-ne0 c = serve_no (false_and _ (ne_eqb _ 0 c.if-t-s-ne0.true)) refl

pub returns-then-not-subset : goal.returns-then-not-subset
returns-then-not-subset c =
    let a = c.args in
    let asked = c.subset.ensures ∙ all_authorised a.t.now a.u a.roles _ c.told-t c.requires.1 c.authorised_roles.ensures in
    serve_no (and_false _ (false_and _ (sym asked ∙ c.if-not-subset.true))) refl

pub returns-then-not-dynamic_fit : goal.returns-then-not-dynamic_fit
returns-then-not-dynamic_fit c =
    serve_no
    (and_false _ (and_false _ (dynamic_told _ c.told-t c.args.roles refl c.dynamic_fit.ensures ∙ c.if-not-dynamic_fit.true)))
    refl

pub returns : goal.returns
returns c =
    let a = c.args in
    let h = c.requires in
    let asked = c.subset.ensures ∙ all_authorised a.t.now a.u a.roles _ c.told-t h.1 c.authorised_roles.ensures in
    serve_yes
    (and_intro (eq-eqb _ 0 c.if-t-s-ne0.false)
    (and_intro (sym asked ∙ c.if-not-subset.false)
    (dynamic_told _ c.told-t a.roles refl c.dynamic_fit.ensures ∙ c.if-not-dynamic_fit.false)))
    (c.refresh.ensures
    ∙ session_shown _ a.s (write_active _
    (ap (λ (w : ℕ). set a.t.now (owner_at a.s) w) (add-one a.u)
    ∙ write_owner (state a.t.now) (encode_state a.t.now c.told-t) a.s _ h.0)
    a.s _ h.0) h.0)
