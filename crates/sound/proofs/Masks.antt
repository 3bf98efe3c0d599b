-- The masks of a table, one by one: of one without active roles, and beside those worked out. Assumes nothing.
use Prim.Native.Nat.{ℕ, zero, suc, ◌+◌, ◌*◌, ◌/◌, ◌%◌, ◌<◌}
use mathlib.Core.Path.{◌≡◌, sym, ap, ◌∙◌}
use mathlib.Core.Bool.{Bool, true}
use mathlib.Core.List.{List, []}
use native.Mathlib.Omega.{arith}
use lib.Dec.{eqb}
use borrow.Author.Tests.{eqb-true, eq-eqb}
use Rattle.std.specs.Simd.{first_chunks}
use Rattle.std.proofs.Common.{length, get_or, drop}
use Rattle.std.proofs.lemmas.List.{get_or-take, get_or-drop}
use Rattle.bits.specs.Words.{◌and◌, all, subset}
use Rattle.bits.proofs.Truth.{same_truth}
use Rattle.bits.proofs.Below.{all_intro, all_elim, all_cong}
use Rattle.table.specs.State.{State}
use Rattle.table.specs.Masks.{mask_of, masks_true}
use Rattle.table.specs.Reading.{word, state}
use Rattle.table.specs.Table.{table_length}
use Rattle.table.specs.Answers.{words_empty}
use Rattle.table.proofs.Masks.{masks_intro, masks_elim}
use Rattle.table.proofs.Keeps.{no_roles_mask}
use Rattle.table.proofs.Answers.{words_empty_are, words_empty_elim}
use Rattle.masks.specs.Answers.{all_masks}
use Rattle.masks.proofs.Refreshing.{all_masks_at, all_masks_of}
use Rattle.sound.specs.Answers.{held_within}
use Rattle.sound.specs.Tests.{roles_fit, session_fits}

-- without an active role nobody may open anything
pub found_idle : (t : List ℕ) → length t ≡ table_length → words_empty t 680 32 ≡ true → words_empty t 1096 256 ≡ masks_true (state t)
found_idle t l e =
    sym (words_empty_are t 1096 256 l (omega arith))
    ∙ same_truth
    (λ z. masks_intro (state t) (λ s x hs hx.
    ap (word t) (omega arith) ∙ eqb-true _ 0 (all_elim _ 256 z (8 * s + x) (omega arith)) ∙ sym (idle s x hs)))
    (λ z. all_intro _ 256 (λ i h. eq-eqb _ 0
    (ap (word t) (omega arith) ∙ masks_elim (state t) z (i / 8) (i % 8) (omega arith) (omega arith) ∙ idle (i / 8) (i % 8) (omega arith))))
  where
    idle : (s x : ℕ) → s < 32 → mask_of (state t) s x ≡ 0
    idle s x h = no_roles_mask (state t) s x (eqb-true _ 0 (all_elim _ 32 (words_empty_elim t 680 32 e) s h))

-- the masks as they stand in the table, beside those worked out
pub found_masks : (t : List ℕ) {masks : List ℕ} → length t ≡ table_length → masks ≡ all_masks t
    → all 256 (λ i. eqb (get_or t (1096 + i) 0) (get_or masks i 0)) ≡ masks_true (state t)
found_masks t {masks} e k =
    same_truth
    (λ z. masks_intro (state t) (λ s x hs hx.
    ap (λ (i : ℕ). get_or t i 0) (omega arith)
    ∙ eqb-true _ _ (all_elim _ 256 z (8 * s + x) (omega arith))
    ∙ ap (λ (l : List ℕ). get_or l (8 * s + x) 0) k
    ∙ all_masks_of t s x e hs hx))
    (λ z. all_intro _ 256 (λ i h. eq-eqb _ _
    (ap (λ (j : ℕ). get_or t j 0) (omega arith)
    ∙ masks_elim (state t) z (i / 8) (i % 8) (omega arith) (omega arith)
    ∙ sym (ap (λ (q : List ℕ). get_or q i 0) k ∙ all_masks_at t i e h))))

-- ---- the eight masks of one session, among all

eight_at : (k : ℕ) (xs : List ℕ) (s x : ℕ) → s < k → x < 8 → get_or (get_or (first_chunks 8 k xs) s []) x 0 ≡ get_or xs (8 * s + x) 0
eight_at zero xs s x h l = absurd (omega arith)
eight_at (suc k) xs zero x h l = get_or-take 8 xs x 0 l ∙ ap (λ (i : ℕ). get_or xs i 0) (omega arith)
eight_at (suc k) xs (suc s) x h l =
    eight_at k (drop 8 xs) s x (omega arith) l ∙ get_or-drop 8 xs (8 * s + x) 0 ∙ ap (λ (i : ℕ). get_or xs i 0) (omega arith)

pub eights_fit : (S : State) (masks : List ℕ) {eights : List (List ℕ)} → length masks ≡ 256 → eights ≡ first_chunks 8 (length masks / 8) masks
    → all 32 (λ s. session_fits S s (λ x. get_or (get_or eights s []) x 0)) ≡ all 32 (λ s. session_fits S s (λ x. get_or masks (8 * s + x) 0))
unfolding session_fits held_within
eights_fit S masks e k =
    all_cong 32 (λ s hs. ap (λ (b : Bool). roles_fit S s and b) (all_cong 8 (λ x hx. ap (subset (S.holds s x))
    (ap (λ (l : List (List ℕ)). get_or (get_or l s []) x 0) k ∙ eight_at (length masks / 8) masks s x (omega arith) hx))))
