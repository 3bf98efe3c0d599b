-- What the public functions answer, as their code finds it. Assumes nothing.
use Prim.Native.Nat.{ℕ, suc, ◌+◌, ◌*◌, ◌<◌}
use mathlib.Core.Path.{◌≡◌, sym, ap, ap₂, ◌∙◌}
use mathlib.Core.Bool.{Bool, true, false}
use mathlib.Core.List.{List}
use native.Mathlib.Numerals.{add-one}
use lib.Dec.{eqb, leb}
use lib.ListN.{length, get_or}
use borrow.Author.Tests.{leb-true, lt-ltb}
use Rattle.bits.specs.Words.{◌and◌, ◌implies◌, has, all, subset}
use Rattle.bits.specs.Sets.{each}
use Rattle.bits.proofs.Truth.{clash, is_false, by_truth, same_truth, and_intro, and_left, and_right, true_and, false_and, and_assoc}
use Rattle.bits.proofs.Below.{all_cong}
use Rattle.bits.proofs.Membership.{each_cong, subset_pack}
use Rattle.table.specs.State.{State}
use Rattle.table.specs.Authority.{authorised, may_activate, effective}
use Rattle.table.specs.Separation.{separated}
use Rattle.table.specs.Masks.{mask_of}
use Rattle.table.specs.Sound.{sound}
use Rattle.table.specs.Answers.{authorised_roles, effective_permissions, openable}
use Rattle.table.specs.Reading.{state}
use Rattle.table.specs.Table.{table_length, is_table, encode}
use Rattle.table.proofs.Agree.{Agree, authorised_agree, may_activate_agree, effective_agree, sound_agree}
use Rattle.table.proofs.Encode.{state_encode, encode_length}
use Rattle.table.proofs.Separation.{separated_intro}
use Rattle.table.proofs.Sound.{sound_ruled}
use Rattle.table.proofs.Table.{is_table_lem, in_table}
use Rattle.table.proofs.Answers.{authorised_roles_are, openable_is}
use Rattle.masks.specs.Answers.{all_masks}
use Rattle.masks.proofs.Refreshing.{all_masks_of, permissions_are}
use Rattle.sound.specs.Answers.{is_sound, openings_fit, sessions_fit, pair_fits, sessions_hold, held_within, openings_within, sessions_of, holders_of, sessions_within}
use Rattle.sound.specs.Tests.{roles_fit, session_fits}

-- an item that a sound state passes, and this one does not
pub unsound : (S : State) {b : Bool} → (sound S ≡ true → b ≡ true) → b ≡ false → false ≡ sound S
unsound S k e = sym (is_false (λ p. clash (k p) e))

-- what is left to ask where the roles are found sound
pub found_sound : (S : State) {b : Bool} → b ≡ separated S → (separated S ≡ true → sound S ≡ true) → b ≡ sound S
found_sound S e k = e ∙ same_truth k (λ p. separated_intro S (sound_ruled S p).is_separated)

-- what the test answers of a table
pub sound_state : (t : List ℕ) → is_sound t ≡ true → sound (state t) ≡ true
unfolding is_sound
sound_state t p = and_right (is_table t) _ p

pub sound_table : (t : List ℕ) → is_sound t ≡ true → is_table t ≡ true
unfolding is_sound
sound_table t p = and_left (is_table t) _ p

pub is_sound_table : (t : List ℕ) → length t ≡ table_length → sound (state t) ≡ true → is_sound t ≡ true
unfolding is_sound
is_sound_table t e p = and_intro (is_table_lem t e) p

pub unsound_state : (t : List ℕ) → length t ≡ table_length → is_sound t ≡ false → sound (state t) ≡ false
unfolding is_sound
unsound_state t e p = sym (true_and _ (is_table_lem t e)) ∙ p

-- ---- the openings of one session

-- what s holds is in masks that are those of what it may open: all of it is effective
pub within_fits : (S : State) (s : ℕ) (masks : ℕ → ℕ) → ((x : ℕ) → x < 8 → masks x ≡ mask_of S s x) → held_within S s masks ≡ openings_fit S s
unfolding held_within openings_fit mask_of
within_fits S s masks e = all_cong 8 (λ x hx. ap (subset (S.holds s x)) (e x hx) ∙ subset_pack (S.holds s x) (effective S s x))

-- ---- a table and a bound, then the test

module _ (t : List ℕ) where
  pub within_are : (s : ℕ) (masks : List ℕ) → length t ≡ table_length → s < 32 → held_within (state t) s (λ x. get_or masks x 0) ≡ openings_within t s masks
  unfolding openings_within
  within_are s masks e h = sym (true_and _ (is_table_lem t e) ∙ true_and _ (lt-ltb s 32 h))

  pub sessions_are : (u : ℕ) → length t ≡ table_length → u < 64 → sessions_fit (state t) u ≡ sessions_of t u
  unfolding sessions_of
  sessions_are u e h = sym (true_and _ (is_table_lem t e) ∙ true_and _ (lt-ltb u 64 h))

  -- the sessions of u, by the authorised roles of u
  pub sessions_by : (u : ℕ) {roles : ℕ} → length t ≡ table_length → u < 64 → roles ≡ authorised_roles t u
      → all 32 (λ s. eqb ((state t).owner s) (u + 1) implies subset ((state t).active s) roles) ≡ sessions_fit (state t) u
  unfolding sessions_fit
  sessions_by u e h r =
      let S = state t in
      all_cong 32 (λ s hs. ap₂ (λ (n w : ℕ). eqb (S.owner s) n implies subset (S.active s) w) (add-one u) (r ∙ sym (authorised_roles_are t u (in_table t u 64 e h)))
      ∙ ap (λ (b : Bool). eqb (S.owner s) (suc u) implies b) (subset_pack (S.active s) (authorised S u)))

  pub holders_are : (x o : ℕ) → length t ≡ table_length → x < 8 → o < 64 → pair_fits (state t) x o ≡ holders_of t x o
  unfolding holders_of
  holders_are x o e hx ho = sym (true_and _ (is_table_lem t e) ∙ true_and _ (lt-ltb x 8 hx) ∙ true_and _ (lt-ltb o 64 ho))

  -- the sessions that hold (x, o), by what the table says is effective
  pub pair_by : (x o : ℕ) → length t ≡ table_length → x < 8 → o < 64
      → all 32 (λ s. has ((state t).holds s x) o implies openable t s x o) ≡ pair_fits (state t) x o
  unfolding pair_fits
  pair_by x o e hx ho = all_cong 32 (λ s hs. ap (λ (b : Bool). has ((state t).holds s x) o implies b) (sym (openable_is t s x o e hs hx ho)))

-- ---- all sessions, one by one

pub sessions_within_are : (t masks : List ℕ) → length t ≡ table_length
    → all 32 (λ s. session_fits (state t) s (λ x. get_or masks (8 * s + x) 0)) ≡ sessions_within t masks
unfolding roles_fit session_fits sessions_within
sessions_within_are t masks e = all_cong 32 (λ s h. and_assoc (leb ((state t).owner s) 64) _ _) ∙ sym (true_and _ (is_table_lem t e))

-- ---- on the table of a state

module _ {S S' : State} (a : Agree S S') where
  openings_agree : (s : ℕ) → s < 32 → openings_fit S s ≡ openings_fit S' s
  unfolding openings_fit
  openings_agree s hs =
      all_cong 8 (λ x hx.
      ap (λ (w : ℕ). each w (λ o. effective S s x o)) (a.holds s x hs hx)
      ∙ each_cong (S'.holds s x) (λ o ho. effective_agree a s x o hs hx ho))

  sessions_agree : (u : ℕ) → u < 64 → sessions_fit S u ≡ sessions_fit S' u
  unfolding sessions_fit
  sessions_agree u hu =
      all_cong 32 (λ s hs.
      ap₂ (λ (v w : ℕ). eqb v (suc u) implies each w (λ r. authorised S u r)) (a.owner s hs) (a.active s hs)
      ∙ ap (λ (b : Bool). eqb (S'.owner s) (suc u) implies b) (each_cong (S'.active s) (λ r hr. authorised_agree a u r hu)))

  pair_agree : (x o : ℕ) → x < 8 → o < 64 → pair_fits S x o ≡ pair_fits S' x o
  unfolding pair_fits
  pair_agree x o hx ho =
      all_cong 32 (λ s hs. ap₂ (λ (w : ℕ) (b : Bool). has w o implies b) (a.holds s x hs hx) (effective_agree a s x o hs hx ho))

  roles_agree : (s : ℕ) → s < 32 → roles_fit S s ≡ roles_fit S' s
  unfolding roles_fit
  roles_agree s h =
      by_truth (leb (S.owner s) 64)
      (λ k.
      ap₂ (λ (b : Bool) (w : ℕ). b and each w (λ r. may_activate S s r)) known (a.active s h)
      ∙ ap (λ (b : Bool). leb (S'.owner s) 64 and b) (each_cong (S'.active s) (λ r l. may_activate_agree a s r h (leb-true (S.owner s) 64 k))))
      (λ k. false_and _ k ∙ sym (false_and _ (sym known ∙ k)))
    where
      known : leb (S.owner s) 64 ≡ leb (S'.owner s) 64
      known = ap (λ (w : ℕ). leb w 64) (a.owner s h)

  sessions_hold_agree : sessions_hold S ≡ sessions_hold S'
  unfolding roles_fit sessions_hold
  sessions_hold_agree =
      all_cong 32 (λ s h. sym (and_assoc (leb (S.owner s) 64) _ _) ∙ ap₂ ◌and◌ (roles_agree s h) (openings_agree s h) ∙ and_assoc (leb (S'.owner s) 64) _ _)

module _ {t : List ℕ} (S : State) (e : t ≡ encode S) where
  shows : Agree (state t) S
  shows = rw e (state_encode S)

  long : length t ≡ table_length
  long = ap length e ∙ encode_length S

  pub within_shown : (s : ℕ) (masks : List ℕ) → s < 32 → masks ≡ effective_permissions t s → openings_within t s masks ≡ openings_fit S s
  within_shown s masks hs e =
      sym (within_are t s masks long hs)
      ∙ within_fits (state t) s (λ x. get_or masks x 0) (λ x hx. ap (λ (l : List ℕ). get_or l x 0) e ∙ permissions_are t s x long hs hx)
      ∙ openings_agree shows s hs

  pub sessions_shown : (u : ℕ) → u < 64 → sessions_of t u ≡ sessions_fit S u
  sessions_shown u hu = sym (sessions_are t u long hu) ∙ sessions_agree shows u hu

  pub holders_shown : (x o : ℕ) → x < 8 → o < 64 → holders_of t x o ≡ pair_fits S x o
  holders_shown x o hx ho = sym (holders_are t x o long hx ho) ∙ pair_agree shows x o hx ho

  pub sessions_within_shown : (masks : List ℕ) → masks ≡ all_masks t → sessions_within t masks ≡ sessions_hold S
  unfolding sessions_within sessions_hold
  sessions_within_shown masks e =
      true_and _ (is_table_lem t long)
      ∙ all_cong 32 (λ s h. ap (λ (b : Bool). leb ((state t).owner s) 64 and each ((state t).active s) (may_activate (state t) s) and b)
      (within_fits (state t) s (λ x. get_or masks (8 * s + x) 0) (λ x hx. ap (λ (l : List ℕ). get_or l (8 * s + x) 0) e ∙ all_masks_of t s x long h hx)))
      ∙ sessions_hold_agree shows

  pub shown_sound : is_sound t ≡ sound S
  unfolding is_sound
  shown_sound = true_and _ (is_table_lem t long) ∙ sound_agree shows
