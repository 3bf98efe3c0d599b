-- `clear_from` meets its contract. Assumes nothing.
use Prim.Native.Nat.{ℕ, ◌-◌, ◌<◌}
use mathlib.Core.Path.{◌≡◌, refl, sym, ap, ◌∙◌}
use mathlib.Core.List.{List}
use native.Mathlib.Omega.{arith}
use lib.ListN.{length, get_or, take, drop, replicate, length-take, length-drop, length-replicate, get_or-replicate}
use borrow.Rule.Slice.PartMut.{put_mid}
use borrow.Author.Tests.{lt-leb}
use Rattle.bits.proofs.Truth.{if_false}
use Rattle.bits.proofs.Tabulate.{tabulated}
use Rattle.table.specs.Answers.{cleared_from}
use Rattle.table.proofs.Answers.{length_cleared, cleared_before, cleared_after}
use Rattle.table.proofs.Written.{written_is}
use Rattle.table.proofs.clear_from.Goals as goal

-- the part that is filled
module _ (t ys : List ℕ) (at : ℕ) (h : at < length t) (g : ys ≡ replicate (length (take (length t - at) (drop at t))) 0) where
  filled : put_mid at (length t - at) t ys ≡ cleared_from t at
  filled =
      let n : length (take (length t - at) (drop at t)) ≡ length t - at = simp (length-take, length-drop) (omega arith) in
      written_is t ys at (length t - at) (simp g (length-replicate _ 0 ∙ n)) (omega arith) (length_cleared t at) (cleared_before t at)
      (λ i a b. cleared_after t at i a (omega arith) ∙ sym (ap (λ (l : List ℕ). get_or l (i - at) 0) g ∙ get_or-replicate _ (i - at) 0 0 (omega arith)))
      (λ i a b. absurd (omega arith))

pub returns-then-at-t : goal.returns-then-at-t
returns-then-at-t c = filled _ _ _ c.if-at-t.true (c.fill.ensures.after (λ y e. e))

pub returns-else-at-t : goal.returns-else-at-t
unfolding cleared_from
returns-else-at-t c = tabulated _ _ refl (λ i h. sym (if_false _ _ (lt-leb _ _ (omega arith))))
