-- `add_member` meets its contract. Assumes nothing.
use mathlib.Core.Logic.{⊎_elim}
use native.Mathlib.Omega.{arith}
use Rattle.ledger.proofs.Listing.{added_place, added_value, added_there, added_past}
use Rattle.ledger.proofs.add_member.Goals as goal

pub returns-then-last-i : goal.returns-then-last-i
returns-then-last-i c = ⊎_elim (added_place _ _ _ _) (λ p. added_value _ _ _ _ p.1) c.then-last-i.either

pub returns-then-at-list : goal.returns-then-at-list
returns-then-at-list c = added_there _ _ _ _ (omega arith) (omega arith) c.with.ensures

pub returns-else-at-list : goal.returns-else-at-list
returns-else-at-list c = added_past _ _ _ _ (omega arith) (omega arith) (omega arith)
