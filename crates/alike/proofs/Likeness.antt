-- Laws of likeness: its plain facts, an equivalence, and the order of its answers. Assumes nothing.
use Prim.Native.Nat.{ℕ, ◌+◌, ◌*◌, ◌/◌, ◌%◌, ◌<◌}
use mathlib.Core.Path.{◌≡◌, refl, sym, ap, ap₂, ◌∙◌}
use mathlib.Core.Bool.{Bool, true, false}
use mathlib.Core.List.{List}
use native.Mathlib.Omega.{arith}
use lib.Dec.{eqb}
use lib.ListN.{length}
use borrow.Author.Tests.{eq-eqb, eqb-true}
use Rattle.bits.specs.Words.{◌and◌, when◌then◌else◌, has, all, pack}
use Rattle.bits.proofs.Truth.{same_truth, and_intro, and_left, and_right, past, stopped, if_true, if_false}
use Rattle.bits.proofs.Below.{all_intro, all_elim, all_cong}
use Rattle.bits.proofs.Word.{has_pack, pack_cong}
use Rattle.table.specs.State.{State}
use Rattle.table.specs.Authority.{authorised, effective}
use Rattle.table.specs.Sound.{sound}
use Rattle.table.specs.Reading.{word, state}
use Rattle.table.specs.Table.{table_length, is_table, encode}
use Rattle.table.specs.Answers.{authorised_roles}
use Rattle.table.specs.Masks.{mask_of}
use Rattle.table.proofs.Sound.{sound_masks}
use Rattle.table.proofs.Table.{in_table}
use Rattle.table.proofs.Agree.{Agree, authorised_agree, effective_agree}
use Rattle.table.proofs.Encode.{state_encode}
use Rattle.table.proofs.Answers.{authorised_roles_are}
use Rattle.sound.specs.Answers.{is_sound}
use Rattle.sound.proofs.Answers.{sound_state, sound_table}
use Rattle.alike.specs.Likeness.{same_session, same_user, same_state, likeness, Alike}

-- ---- the plain facts

packed : (f g : ℕ → Bool) → eqb (pack 64 f) (pack 64 g) ≡ true → (i : ℕ) → i < 64 → f i ≡ g i
packed f g e i h = sym (has_pack f 64 i h) ∙ ap (λ (w : ℕ). has w i) (eqb-true _ _ e) ∙ has_pack g 64 i h

module _ (S S' : State) where
  pub same_intro : Alike S S' → same_state S S' ≡ true
  unfolding same_state same_session same_user
  same_intro a =
      and_intro
      (all_intro _ 32 (λ s hs. all_intro _ 8 (λ x hx.
      and_intro (eq-eqb _ _ (a.same_openings s x hs hx)) (eq-eqb _ _ (pack_cong 64 (λ o ho. a.same_permissions s x o hs hx ho))))))
      (all_intro _ 64 (λ u hu. eq-eqb _ _ (pack_cong 64 (λ q hq. a.same_roles u q hu hq))))

  pub same_elim : same_state S S' ≡ true → Alike S S'
  unfolding same_state same_session same_user
  same_elim e = record {
    same_openings = λ s x hs hx. eqb-true _ _ (and_left _ _ (mode s x hs hx));
    same_permissions = λ s x o hs hx ho. packed (effective S s x) (effective S' s x) (and_right _ _ (mode s x hs hx)) o ho;
    same_roles = λ u q hu hq. packed (authorised S u) (authorised S' u) (all_elim _ 64 (and_right (all 32 (λ s. same_session S S' s)) _ e) u hu) q hq;
  }
    where
      mode : (s x : ℕ) → s < 32 → x < 8 → eqb (S.holds s x) (S'.holds s x) and eqb (pack 64 (effective S s x)) (pack 64 (effective S' s x)) ≡ true
      mode s x hs hx = all_elim _ 8 (all_elim _ 32 (and_left _ _ e) s hs) x hx

-- ---- an equivalence

pub alike_refl : (S : State) → Alike S S
alike_refl S = record { same_openings = λ s x hs hx. refl; same_permissions = λ s x o hs hx ho. refl; same_roles = λ u q hu hq. refl }

module _ {S S' : State} (a : Alike S S') where
  pub alike_sym : Alike S' S
  alike_sym = record {
    same_openings = λ s x hs hx. sym (a.same_openings s x hs hx);
    same_permissions = λ s x o hs hx ho. sym (a.same_permissions s x o hs hx ho);
    same_roles = λ u q hu hq. sym (a.same_roles u q hu hq);
  }

  pub alike_trans : {S'' : State} → Alike S' S'' → Alike S S''
  alike_trans b = record {
    same_openings = λ s x hs hx. a.same_openings s x hs hx ∙ b.same_openings s x hs hx;
    same_permissions = λ s x o hs hx ho. a.same_permissions s x o hs hx ho ∙ b.same_permissions s x o hs hx ho;
    same_roles = λ u q hu hq. a.same_roles u q hu hq ∙ b.same_roles u q hu hq;
  }

-- what the tables of alike states show is alike
agree_alike : {S S' : State} → Agree S S' → Alike S S'
agree_alike a = record {
  same_openings = a.holds;
  same_permissions = λ s x o hs hx ho. effective_agree a s x o hs hx ho;
  same_roles = λ u q hu hq. authorised_agree a u q hu;
}

pub shown_alike : {S S' : State} → Alike S S' → Alike (state (encode S)) (state (encode S'))
shown_alike {S} {S'} a = alike_trans (agree_alike (state_encode S)) (alike_trans a (alike_sym (agree_alike (state_encode S'))))

-- ---- the order of the answers

module _ (first second : List ℕ) where
  pub like_short : is_table first ≡ false → 12 ≡ likeness first second
  unfolding likeness
  like_short i = sym (stopped _ _ i)

  pub like_unsound : is_table first ≡ true → sound (state first) ≡ false → 13 ≡ likeness first second
  unfolding likeness
  like_unsound i s = sym (past _ _ i ∙ stopped _ _ s)

  module _ (f : is_sound first ≡ true) where
    pub like_second_short : is_table second ≡ false → 12 ≡ likeness first second
    unfolding likeness
    like_second_short j = sym (past _ _ (sound_table first f) ∙ past _ _ (sound_state first f) ∙ stopped _ _ j)

    pub like_second_unsound : is_table second ≡ true → sound (state second) ≡ false → 13 ≡ likeness first second
    unfolding likeness
    like_second_unsound j r = sym (past _ _ (sound_table first f) ∙ past _ _ (sound_state first f) ∙ past _ _ j ∙ stopped _ _ r)

    module _ (g : is_sound second ≡ true) where
      compared : likeness first second ≡ (when same_state (state first) (state second) then 1 else 0)
      unfolding likeness
      compared =
          past _ _ (sound_table first f) ∙ past _ _ (sound_state first f) ∙ past _ _ (sound_table second g) ∙ past _ _ (sound_state second g)

      pub like_yes : same_state (state first) (state second) ≡ true → 1 ≡ likeness first second
      like_yes e = sym (compared ∙ if_true _ _ e)

      pub like_no : same_state (state first) (state second) ≡ false → 0 ≡ likeness first second
      like_no e = sym (compared ∙ if_false _ _ e)

-- ---- what the code compares

-- eight words a session, one after the other
by_sessions : (f : ℕ → Bool) → all 256 f ≡ all 32 (λ s. all 8 (λ x. f (8 * s + x)))
by_sessions f =
    same_truth
    (λ e. all_intro _ 32 (λ s hs. all_intro _ 8 (λ x hx. all_elim _ 256 e (8 * s + x) (omega arith))))
    (λ e. all_intro _ 256 (λ i h. ap f (omega arith) ∙ all_elim _ 8 (all_elim _ 32 e (i / 8) (omega arith)) (i % 8) (omega arith)))

-- the openings and the masks are the same word for word
abbrev pub same_words : List ℕ → List ℕ → ℕ → Bool
same_words t t' i = eqb (word t (712 + i)) (word t' (712 + i)) and eqb (word t (1096 + i)) (word t' (1096 + i))

-- in sound tables the masks are what is effective
pub same_words_lem : (t t' : List ℕ) → is_sound t ≡ true → is_sound t' ≡ true → all 256 (same_words t t') ≡ all 32 (λ s. same_session (state t) (state t') s)
unfolding same_session mask_of
same_words_lem t t' e e' =
    by_sessions (same_words t t')
    ∙ all_cong 32 (λ s hs. all_cong 8 (λ x hx. ap₂ ◌and◌ (ap₂ eqb (ap (word t) (omega arith)) (ap (word t') (omega arith))) (ap₂ eqb (mask t e s x hs hx) (mask t' e' s x hs hx))))
  where
    mask : (t : List ℕ) → is_sound t ≡ true → (s x : ℕ) → s < 32 → x < 8 → word t (1096 + (8 * s + x)) ≡ mask_of (state t) s x
    mask t e s x hs hx = ap (word t) (omega arith) ∙ sound_masks (state t) (sound_state t e) s x hs hx

-- the authorised roles of a user, as they are read
pub same_read : (t t' : List ℕ) (u : ℕ) {roles roles' : ℕ} → length t ≡ table_length → length t' ≡ table_length → u < 64
    → roles ≡ authorised_roles t u → roles' ≡ authorised_roles t' u → same_user (state t) (state t') u ≡ eqb roles roles'
unfolding same_user
same_read t t' u e e' h r r' =
    ap₂ eqb (authorised_roles_are t u (in_table t u 64 e h) ∙ sym r) (authorised_roles_are t' u (in_table t' u 64 e' h) ∙ sym r')
