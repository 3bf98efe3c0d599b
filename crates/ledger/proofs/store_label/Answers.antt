-- `store_label` meets its contract. Assumes nothing.
use mathlib.Core.Logic.{⊎_elim}
use native.Mathlib.Omega.{arith}
use Rattle.ledger.proofs.Listing.{stored_place, stored_value, stored_there, stored_past}
use Rattle.ledger.proofs.store_label.Goals as goal

pub returns-then-i-gt63 : goal.returns-then-i-gt63
returns-then-i-gt63 c = ⊎_elim (stored_place _ _ _) (λ p. stored_value _ _ _ (omega (arith, p.1))) c.then-i-gt63.either

pub returns-then-at-list : goal.returns-then-at-list
returns-then-at-list c = stored_there _ _ _ (omega arith) (omega arith)

pub returns-else-at-list : goal.returns-else-at-list
returns-else-at-list c = stored_past _ _ _ (omega arith) (omega arith) (omega arith)
