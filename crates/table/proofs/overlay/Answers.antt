-- `overlay` meets its contract. Assumes nothing.
use Prim.Native.Nat.{ℕ, ◌-◌, ◌<◌, min}
use mathlib.Core.Path.{◌≡◌, refl, sym, ap, ◌∙◌}
use mathlib.Core.List.{List}
use native.Mathlib.Omega.{arith}
use lib.ListN.{length, get_or, take, length-take}
use lib.Seq.{get_or-take}
use borrow.Rule.Slice.PartMut.{put_mid}
use borrow.Author.Tests.{lt-leb}
use Rattle.bits.proofs.Truth.{if_false, false_and}
use Rattle.bits.proofs.Tabulate.{tabulated}
use Rattle.table.specs.Answers.{overlay}
use Rattle.table.proofs.Answers.{length_overlay, overlay_at, overlay_before, overlay_past}
use Rattle.table.proofs.Written.{written_is}
use Rattle.table.proofs.overlay.Goals as goal

-- the first n of the words are copied, as many as there is room for
module _ (t words ys : List ℕ) (at n k : ℕ) (h : at < length t) (e : n ≡ min (length words) (length t - at)) (f : k ≡ n) (g : ys ≡ take n words) where
  copied : put_mid at k t ys ≡ overlay t at words
  copied =
      written_is t ys at k (simp g (omega (arith, length-take n words))) (omega arith) (length_overlay t at words) (overlay_before t at words)
      (λ i a b. overlay_at t at words i a (omega arith) (omega arith) ∙ sym (ap (λ (l : List ℕ). get_or l (i - at) 0) g ∙ get_or-take n words (i - at) 0 (omega arith)))
      (λ i a b. overlay_past t at words i (omega arith) b)

pub returns-then-at-t : goal.returns-then-at-t
returns-then-at-t c = copied _ _ _ _ _ _ c.if-at-t.true c.min-n.ensures (omega arith) c.copy_from_slice.ensures.after

pub returns-else-at-t : goal.returns-else-at-t
unfolding overlay
returns-else-at-t c = tabulated _ _ refl (λ i h. sym (if_false _ _ (false_and _ (lt-leb _ _ (omega arith)))))
