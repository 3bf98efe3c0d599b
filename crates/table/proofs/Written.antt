-- A part of a list written anew: k words from the place at on, of a list that has them. Assumes nothing.
use Prim.Native.Nat.{ℕ, ◌+◌, ◌-◌, ◌≤◌, ◌<◌}
use mathlib.Core.Path.{◌≡◌, sym, ◌∙◌}
use mathlib.Core.List.{List}
use native.Mathlib.Omega.{arith}
use lib.Dec.{ltb}
use lib.ListN.{length, get_or}
use lib.Seq.{ext_get_or}
use borrow.Rule.Slice.PartMut.{put_mid}
use borrow.Author.Tests.{ltb-true, ltb-false}
use Rattle.std.proofs.lemmas.List.{places}
use Rattle.bits.proofs.Truth.{by_truth}

module _ (t ys : List ℕ) (at k : ℕ) (e : length ys ≡ k) (l : at + k ≤ length t) where
  long : length (put_mid at k t ys) ≡ length t
  long = grind (arith, places)

  before : (i : ℕ) → i < at → get_or (put_mid at k t ys) i 0 ≡ get_or t i 0
  before i h = grind (arith, places)

  within : (i : ℕ) → at ≤ i → i < at + k → get_or (put_mid at k t ys) i 0 ≡ get_or ys (i - at) 0
  within i h m = grind (arith, places)

  past : (i : ℕ) → at + k ≤ i → get_or (put_mid at k t ys) i 0 ≡ get_or t i 0
  past i h = grind (arith, places)

  -- it is the list that has the same words before them, these, and the same words past them
  pub written_is : {zs : List ℕ} → length zs ≡ length t → ((i : ℕ) → i < at → i < length t → get_or zs i 0 ≡ get_or t i 0)
      → ((i : ℕ) → at ≤ i → i < at + k → get_or zs i 0 ≡ get_or ys (i - at) 0)
      → ((i : ℕ) → at + k ≤ i → i < length t → get_or zs i 0 ≡ get_or t i 0) → put_mid at k t ys ≡ zs
  written_is {zs} d p q r =
      ext_get_or 0 _ zs (long ∙ sym d)
      (λ i h.
      let z = long in
      by_truth (ltb i at)
      (λ b. let c = ltb-true i at b in before i c ∙ sym (p i c (omega arith)))
      (λ b.
      let c = ltb-false i at b in
      by_truth (ltb i (at + k))
      (λ f. let g = ltb-true i (at + k) f in within i c g ∙ sym (q i c g))
      (λ f. let g = ltb-false i (at + k) f in past i g ∙ sym (r i g (omega arith)))))
