-- The masks of the sessions, one after another, as a loop writes them. Assumes nothing.
use Prim.Native.Nat.{ℕ, ◌+◌, ◌-◌, ◌*◌, ◌/◌, ◌%◌, ◌<◌}
use mathlib.Core.Path.{◌≡◌, sym, ap, ap₂, ◌∙◌}
use mathlib.Core.Bool.{true, false}
use mathlib.Core.List.{List}
use native.Mathlib.Omega.{arith}
use lib.Dec.{ltb}
use lib.ListN.{length, get_or, replicate}
use borrow.Rule.Slice.PartMut.{put_mid}
use borrow.Author.Tests.{lt-ltb, le-ltb, ltb-true, ltb-false}
use Rattle.bits.specs.Words.{when◌then◌else◌}
use Rattle.bits.proofs.Truth.{by_truth, if_true, if_false}
use Rattle.bits.proofs.Tabulate.{length_tabulate, get_d_tabulate, tabulate_cong, zeros}
use Rattle.table.specs.State.{State}
use Rattle.table.specs.Masks.{mask_of}
use Rattle.table.specs.Reading.{state}
use Rattle.table.specs.Table.{is_table}
use Rattle.table.proofs.Keeps.{no_roles_mask}
use Rattle.table.proofs.Written.{written_is}
use Rattle.masks.specs.Answers.{all_masks}
use Rattle.masks.specs.Gathered.{masks_below}

-- the mask at the place i, where its session is below n
abbrev mask_below : State → ℕ → ℕ → ℕ
mask_below S n i = when ltb (i / 8) n then mask_of S (i / 8) (i % 8) else 0

module _ (S : State) where
  -- ---- the masks of the sessions passed

  masks_at_lem : (n i : ℕ) → i < 256 → get_or (masks_below S n) i 0 ≡ mask_below S n i
  unfolding masks_below
  masks_at_lem n i h = get_d_tabulate 256 _ 0 i h

  length_masks : (n : ℕ) → length (masks_below S n) ≡ 256
  unfolding masks_below
  length_masks n = length_tabulate 256 _

  pub masks_start : replicate 256 0 ≡ masks_below S 0
  unfolding masks_below
  masks_start = zeros 256 _ (λ i h. if_false _ _ (le-ltb (i / 8) 0 (omega arith)))

  -- a session without active roles
  pub masks_skip : {out : List ℕ} (s : ℕ) → out ≡ masks_below S s → S.active s ≡ 0 → out ≡ masks_below S (s + 1)
  unfolding masks_below
  masks_skip s e z =
      e ∙ tabulate_cong 256 (λ i h.
      by_truth (ltb (i / 8) s)
      (λ b. let l = ltb-true (i / 8) s b in if_true _ _ b ∙ sym (if_true _ _ (lt-ltb (i / 8) (s + 1) (omega arith))))
      (λ b.
      let l = ltb-false (i / 8) s b in
      if_false _ _ b
      ∙ by_truth (ltb (i / 8) (s + 1))
      (λ c. let m = ltb-true (i / 8) (s + 1) c in let same : i / 8 ≡ s = omega arith in
      sym (if_true _ _ c ∙ no_roles_mask S (i / 8) (i % 8) (ap S.active same ∙ z)))
      (λ c. sym (if_false _ _ c))))

  -- the masks of session s written behind those of the sessions before it
  pub masks_write : {old : List ℕ} {k : ℕ} (words : List ℕ) (s : ℕ) → s < 32 → old ≡ masks_below S s → k ≡ 8 → length words ≡ 8
      → ((x : ℕ) → x < 8 → get_or words x 0 ≡ mask_of S s x) → put_mid (8 * s) k old words ≡ masks_below S (s + 1)
  masks_write {old} {k} words s h e n l w =
      let m = ap length e ∙ length_masks s in
      written_is old words (8 * s) k (omega arith) (omega arith) (length_masks (s + 1) ∙ sym m)
      (λ i p q. masks_at_lem (s + 1) i (omega arith) ∙ if_true _ _ (lt-ltb (i / 8) (s + 1) (omega arith))
      ∙ sym (old_at i (omega arith) ∙ if_true _ _ (lt-ltb (i / 8) s (omega arith))))
      (λ i p q. masks_at_lem (s + 1) i (omega arith) ∙ if_true _ _ (lt-ltb (i / 8) (s + 1) (omega arith))
      ∙ ap₂ (mask_of S) (omega arith) (omega arith) ∙ sym (w (i - 8 * s) (omega arith)))
      (λ i p q. masks_at_lem (s + 1) i (omega arith) ∙ if_false _ _ (le-ltb (i / 8) (s + 1) (omega arith))
      ∙ sym (old_at i (omega arith) ∙ if_false _ _ (le-ltb (i / 8) s (omega arith))))
    where
      old_at : (i : ℕ) → i < 256 → get_or old i 0 ≡ mask_below S s i
      old_at i l = ap (λ (y : List ℕ). get_or y i 0) e ∙ masks_at_lem s i l

-- ---- the answer

module _ (t : List ℕ) where
  pub all_masks_none : is_table t ≡ false → replicate 256 0 ≡ all_masks t
  unfolding all_masks
  all_masks_none e = zeros 256 _ (λ i h. if_false _ _ e)

  pub all_masks_are : {out : List ℕ} → is_table t ≡ true → out ≡ masks_below (state t) 32 → out ≡ all_masks t
  unfolding all_masks masks_below
  all_masks_are b e = e ∙ tabulate_cong 256 (λ i h. if_true _ _ (lt-ltb (i / 8) 32 (omega arith)) ∙ sym (if_true _ _ b))
