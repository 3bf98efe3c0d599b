-- `is_yes` meets its contract. Assumes nothing.
use Prim.Native.Nat.{ℕ}
use mathlib.Core.Path.{ap, ◌∙◌}
use lib.Dec.{eqb}
use Rattle.requests.proofs.Refusals.{yes_number}
use Rattle.labels.specs.Guard.{says_yes}
use Rattle.labels.proofs.is_yes.Goals as goal

pub returns : goal.returns
unfolding says_yes
returns c =
    let done = c.serve.ensures in
    record { answer = c.eq.ensures ∙ yes_number _ c.serve.result ∙ ap (λ (n : ℕ). eqb n 1) done.answer; table = done.table }
