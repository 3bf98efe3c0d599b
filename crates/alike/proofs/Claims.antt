-- The claims of specs/Claims.antt. Assumes nothing.
use Prim.Native.Nat.{ℕ}
use mathlib.Core.Path.{◌≡◌, sym, ◌∙◌}
use mathlib.Core.Bool.{true, false}
use mathlib.Core.List.{List}
use native.Mathlib.Omega.{arith}
use Rattle.bits.proofs.Truth.{by_truth}
use Rattle.table.specs.Sound.{sound}
use Rattle.table.specs.Table.{is_table}
use Rattle.table.specs.Reading.{state}
use Rattle.table.proofs.Table.{table_length_lem}
use Rattle.sound.specs.Answers.{is_sound}
use Rattle.sound.proofs.Answers.{is_sound_table}
use Rattle.alike.specs.Likeness.{same_state, likeness}
use Rattle.alike.specs.Claims.{AlikeMeans, AlikeTables, LikenessMeans, LikenessReflexive, LikenessSymmetric, LikenessTransitive}
use Rattle.alike.proofs.Likeness.{same_intro, same_elim, alike_refl, alike_sym, alike_trans, like_short, like_unsound, like_second_short, like_second_unsound, like_yes, like_no}

pub alike_means : AlikeMeans
alike_means S S' = (same_elim S S', same_intro S S')

-- ---- tables that are alike

by_soundness : {A : Type 0} (t : List ℕ) → (is_sound t ≡ true → A) → (is_table t ≡ true → sound (state t) ≡ false → A) → (is_table t ≡ false → A) → A
by_soundness t f g h = by_truth (is_table t) (λ i. by_truth (sound (state t)) (λ s. f (is_sound_table t (table_length_lem t i) s)) (g i)) h

module _ {t t' : List ℕ} where
  pub alike_elim : likeness t t' ≡ 1 → AlikeTables t t'
  alike_elim e =
      by_soundness t
      (λ f. by_soundness t'
      (λ g. by_truth (same_state (state t) (state t'))
      (λ a. record { first_sound = f; second_sound = g; alike_states = same_elim (state t) (state t') a })
      (λ a. let z = like_no t t' f g a ∙ e in absurd (omega arith)))
      (λ i s. let z = like_second_unsound t t' f i s ∙ e in absurd (omega arith))
      (λ i. let z = like_second_short t t' f i ∙ e in absurd (omega arith)))
      (λ i s. let z = like_unsound t t' i s ∙ e in absurd (omega arith))
      (λ i. let z = like_short t t' i ∙ e in absurd (omega arith))

  pub alike_intro : AlikeTables t t' → likeness t t' ≡ 1
  alike_intro a = sym (like_yes t t' a.first_sound a.second_sound (same_intro (state t) (state t') a.alike_states))

pub likeness_means : LikenessMeans
likeness_means t t' = (alike_elim, alike_intro)

pub likeness_reflexive : LikenessReflexive
likeness_reflexive t f = alike_intro (record { first_sound = f; second_sound = f; alike_states = alike_refl (state t) })

pub likeness_symmetric : LikenessSymmetric
likeness_symmetric t t' e =
    let l = alike_elim e in
    alike_intro (record { first_sound = l.second_sound; second_sound = l.first_sound; alike_states = alike_sym l.alike_states })

pub likeness_transitive : LikenessTransitive
likeness_transitive t t' t'' e e' =
    let l = alike_elim e in
    let m = alike_elim e' in
    alike_intro (record { first_sound = l.first_sound; second_sound = m.second_sound; alike_states = alike_trans l.alike_states m.alike_states })
