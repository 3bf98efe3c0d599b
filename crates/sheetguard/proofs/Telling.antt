-- The reading functions' refusals in their order, and the words that they write. Assumes nothing.
use Prim.Native.Nat.{ℕ}
use mathlib.Core.Path.{◌≡◌, refl, sym, ap, ◌∙◌}
use mathlib.Core.Bool.{Bool, true, false}
use mathlib.Core.List.{List}
use native.Mathlib.Omega.{arith}
use lib.Dec.{ltb}
use lib.ListN.{length, get_or}
use lib.Seq.{ext_get_or}
use borrow.Author.Tests.{eq-eqb, ne_eqb, ltb-true}
use Rattle.bits.specs.Words.{tabulate}
use Rattle.bits.proofs.Truth.{past, stopped, if_true, if_false, and_intro, by_truth}
use Rattle.table.specs.Sound.{sound}
use Rattle.table.specs.Table.{is_table}
use Rattle.table.specs.Reading.{state}
use Rattle.table.specs.Answers.{overlay, effective_permissions}
use Rattle.table.specs.Masks.{mask_of}
use Rattle.table.proofs.Sound.{sound_masks}
use Rattle.table.proofs.Answers.{length_overlay, overlay_at, effective_permissions_are}
use Rattle.bits.proofs.Tabulate.{length_tabulate, tabulate_cong}
use Rattle.sheetguard.specs.Reading.{told, readable, read}

-- ---- the refusals

module _ (t : List ℕ) where
  pub readable_short : (known : Bool) → is_table t ≡ false → readable t known ≡ 12
  unfolding readable
  readable_short known i = stopped _ _ i

  pub readable_unsound : (known : Bool) → is_table t ≡ true → sound (state t) ≡ false → readable t known ≡ 13
  unfolding readable
  readable_unsound known i s = past _ _ i ∙ stopped _ _ s

  -- of a sound table it hangs on what is asked for
  pub readable_unknown : is_table t ≡ true → sound (state t) ≡ true → readable t false ≡ 16
  unfolding readable
  readable_unknown i s = past _ _ i ∙ past _ _ s ∙ stopped _ _ refl

  pub readable_known : is_table t ≡ true → sound (state t) ≡ true → readable t true ≡ 1
  unfolding readable
  readable_known i s = past _ _ i ∙ past _ _ s ∙ past _ _ refl

  -- 1 is answered only of a sound table in which what is asked for is there
  pub readable_elim : (known : Bool) → readable t known ≡ 1 → (is_table t ≡ true) × (sound (state t) ≡ true) × (known ≡ true)
  readable_elim known e =
      by_truth (is_table t)
      (λ i. by_truth (sound (state t))
      (λ s. by_truth known (λ k. (i, s, k)) (λ k. absurd (let h = ap (readable t) k ∙ readable_unknown i s in omega (arith, e, h))))
      (λ s. absurd (let h = readable_unsound known i s in omega (arith, e, h))))
      (λ i. absurd (let h = readable_short known i in omega (arith, e, h)))

-- ---- the words

-- the number n of an answer that says whether the words can be read
module _ (t : List ℕ) (known : Bool) (out words : List ℕ) {n : ℕ} (e : n ≡ readable t known) where
  pub read_refused : (n ≡ 1 → ⊥) → record { answer : n ≡ (read t known out words).answer; words : out ≡ (read t known out words).words }
  unfolding read told
  read_refused d = record { answer = e; words = sym (if_false words out (ne_eqb (readable t known) 1 (λ h. d (e ∙ h)))) }

  pub read_given : {written : List ℕ} → n ≡ 1 → written ≡ words → record { answer : n ≡ (read t known out words).answer; words : written ≡ (read t known out words).words }
  unfolding read told
  read_given h w = record { answer = e; words = w ∙ sym (if_true words out (eq-eqb (readable t known) 1 (sym e ∙ h))) }

-- words laid over as many
pub overlay_whole : (t words : List ℕ) → length t ≡ length words → overlay t 0 words ≡ words
overlay_whole t words e =
    ext_get_or 0 (overlay t 0 words) words (length_overlay t 0 words ∙ e)
    (λ i h.
    let l = length_overlay t 0 words in
    overlay_at t 0 words i (omega arith) (omega arith) (omega arith) ∙ ap (λ (k : ℕ). get_or words k 0) (omega arith))

-- the masks that a sound table keeps are the effective permissions
pub kept_effective : (t : List ℕ) (s : ℕ) → is_table t ≡ true → sound (state t) ≡ true → ltb s 32 ≡ true → tabulate 8 ((state t).masks s) ≡ effective_permissions t s
unfolding mask_of
kept_effective t s i e k =
    tabulate_cong 8 (λ x hx. sound_masks (state t) e s x (ltb-true s 32 k) hx) ∙ effective_permissions_are t s (and_intro i k)

-- the effective permissions are eight words
pub eight : (t : List ℕ) (s : ℕ) → length (effective_permissions t s) ≡ 8
unfolding effective_permissions
eight t s = length_tabulate 8 _
