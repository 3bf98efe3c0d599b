-- `is_bad_pair` meets its contract. Assumes nothing.
use Prim.Native.Nat.{ℕ}
use mathlib.Core.Path.{sym, ap, ◌∙◌}
use lib.Dec.{ltb}
use borrow.Author.Tests.{lt-ltb, le-ltb}
use Rattle.bits.proofs.Truth.{or_left, false_or}
use Rattle.table.proofs.Separation.{no_roles_bad, some_roles_bad}
use Rattle.separation.proofs.is_bad_pair.Goals as goal

pub returns-then-m-eq0 : goal.returns-then-m-eq0
returns-then-m-eq0 c = no_roles_bad _ _ c.if-m-eq0.true

pub returns-then-b-lt2 : goal.returns-then-b-lt2
returns-then-b-lt2 c =
    let l = lt-ltb _ 2 c.if-b-lt2.true in
    l ∙ sym (or_left _ l) ∙ some_roles_bad _ _ c.if-m-eq0.false

pub returns-else-b-lt2 : goal.returns-else-b-lt2
returns-else-b-lt2 c = ap (λ (n : ℕ). ltb n c.args.b) c.size.ensures ∙ sym (false_or _ (le-ltb _ 2 c.if-b-lt2.false)) ∙ some_roles_bad _ _ c.if-m-eq0.false
