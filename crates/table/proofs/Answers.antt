-- What the public functions answer, as their code finds it. Assumes nothing.
use Prim.Native.Nat.{ℕ, ◌+◌, ◌-◌, ◌≤◌, ◌<◌}
use mathlib.Core.Path.{◌≡◌, sym, ap, ◌∙◌}
use mathlib.Core.Bool.{true, false}
use mathlib.Core.List.{List, [], ◌∷◌}
use native.Mathlib.Nat.{zero-add}
use lib.Dec.{eqb, leb, ltb}
use lib.ListN.{length, get_or}
use borrow.Author.Tests.{leb-true, le-leb, lt-leb, ltb-true, lt-ltb, le-ltb}
use Rattle.bits.specs.Words.{◌and◌, when◌then◌else◌, has, all, subset, pack, tabulate}
use Rattle.bits.specs.Sets.{each, overlap}
use Rattle.bits.proofs.Truth.{clash, is_false, and_intro, and_left, and_right, true_and, false_and, and_false, if_true, if_false}
use Rattle.bits.proofs.Word.{has_zero, has_all, pack_cong, pack_none}
use Rattle.bits.proofs.Membership.{subset_pack, overlap_elim}
use Rattle.table.specs.State.{State}
use Rattle.table.specs.Authority.{permission, covers, authorised, may_activate, effective}
use Rattle.table.specs.Reading.{word, state}
use Rattle.table.specs.Table.{table_length, is_table}
use Rattle.table.specs.Answers.{covered_roles, senior_roles, authorised_roles, effective_permissions, activatable, openable, words_empty, overlay, cleared_from}
use Rattle.table.proofs.State.{effective_is}
use Rattle.table.proofs.Table.{is_table_lem, table_length_lem}
use Rattle.bits.proofs.Tabulate.{length_tabulate, get_d_tabulate, tabulate_cong}

-- the permissions of mode x that are granted to the roles, where these are the active roles and their juniors
pub granted_effective : {w : ℕ} (S : State) (s x roles : ℕ) → roles ≡ pack 64 (covers S (S.active s))
    → w ≡ pack 64 (λ o. permission S x o and overlap (S.granted x o) roles) → w ≡ pack 64 (effective S s x)
granted_effective S s x roles e k =
    k ∙ pack_cong 64 (λ o h. ap (λ (w : ℕ). permission S x o and overlap (S.granted x o) w) e ∙ sym (effective_is S s x o))

-- to no role nothing is granted
pub granted_none : (S : State) (x roles : ℕ) → roles ≡ 0 → 0 ≡ pack 64 (λ o. permission S x o and overlap (S.granted x o) roles)
granted_none S x roles e =
    sym (pack_none 64 (λ o h. and_false (permission S x o) (is_false (λ m.
    let f = overlap_elim (S.granted x o) roles m in
    clash f.holds (ap (λ (w : ℕ). has w f.at) e ∙ has_zero f.at)))))

-- where all objects are permissions nothing else is asked
pub granted_all : (S : State) (x roles : ℕ) → S.permitted x ≡ 18446744073709551615
    → pack 64 (λ o. overlap (S.granted x o) roles) ≡ pack 64 (λ o. permission S x o and overlap (S.granted x o) roles)
granted_all S x roles e = pack_cong 64 (λ o h. sym (true_and _ (ap (λ (w : ℕ). has w o) e ∙ has_all o h)))

module _ (t : List ℕ) where
  pub covered_roles_are : (roles : ℕ) → is_table t ≡ true → pack 64 (covers (state t) roles) ≡ covered_roles t roles
  unfolding covered_roles
  covered_roles_are roles e = sym (if_true _ _ e)

  pub covered_roles_none : (roles : ℕ) → is_table t ≡ false → 0 ≡ covered_roles t roles
  unfolding covered_roles
  covered_roles_none roles e = sym (if_false _ _ e)

  pub senior_roles_are : (roles : ℕ) → is_table t ≡ true → pack 64 (λ r. overlap (word t (0 + r)) roles) ≡ senior_roles t roles
  unfolding senior_roles
  senior_roles_are roles e = pack_cong 64 (λ r h. ap (λ (i : ℕ). overlap (word t i) roles) (zero-add r)) ∙ sym (if_true _ _ e)

  pub senior_roles_none : (roles : ℕ) → is_table t ≡ false → 0 ≡ senior_roles t roles
  unfolding senior_roles
  senior_roles_none roles e = sym (if_false _ _ e)

  pub authorised_roles_are : (u : ℕ) → is_table t and ltb u 64 ≡ true → pack 64 (authorised (state t) u) ≡ authorised_roles t u
  unfolding authorised_roles
  authorised_roles_are u e = sym (if_true _ _ e)

  pub authorised_roles_none : (u : ℕ) → is_table t and ltb u 64 ≡ false → 0 ≡ authorised_roles t u
  unfolding authorised_roles
  authorised_roles_none u e = sym (if_false _ _ e)

  -- the roles are among those of user u: each of them is authorised
  pub all_authorised : (u roles w : ℕ) → length t ≡ table_length → u < 64 → w ≡ authorised_roles t u
      → subset roles w ≡ each roles (authorised (state t) u)
  all_authorised u roles w e h k =
      ap (subset roles) (k ∙ sym (authorised_roles_are u (and_intro (is_table_lem t e) (lt-ltb u 64 h)))) ∙ subset_pack roles (authorised (state t) u)

  pub effective_permissions_are : (s : ℕ) → is_table t and ltb s 32 ≡ true
      → tabulate 8 (λ x. pack 64 (effective (state t) s x)) ≡ effective_permissions t s
  unfolding effective_permissions
  effective_permissions_are s e = tabulate_cong 8 (λ x h. sym (if_true _ _ e))

  pub effective_permissions_none : (s : ℕ) → is_table t and ltb s 32 ≡ false
      → 0 ∷ 0 ∷ 0 ∷ 0 ∷ 0 ∷ 0 ∷ 0 ∷ 0 ∷ [] ≡ effective_permissions t s
  unfolding effective_permissions tabulate when◌then◌else◌
  effective_permissions_none s e = rw e

-- ---- the tests of one role and of one pair

pub record Activatable (t : List ℕ) (s r : ℕ) : Type 0 where
  pub a_table : length t ≡ table_length
  pub session : s < 32
  pub role : r < 64
  pub known : (state t).owner s ≤ 64
  pub allowed : may_activate (state t) s r ≡ true

pub record Openable (t : List ℕ) (s x o : ℕ) : Type 0 where
  pub a_table : length t ≡ table_length
  pub session : s < 32
  pub mode : x < 8
  pub object : o < 64
  pub allowed : effective (state t) s x o ≡ true

module _ (t : List ℕ) where
  pub activatable_elim : (s r : ℕ) → activatable t s r ≡ true → Activatable t s r
  unfolding activatable
  activatable_elim s r e1 =
      let e2 = and_right (is_table t) _ e1 in
      let e3 = and_right (ltb s 32) _ e2 in
      let e4 = and_right (ltb r 64) _ e3 in
      record {
        a_table = table_length_lem t (and_left (is_table t) _ e1);
        session = ltb-true s 32 (and_left (ltb s 32) _ e2);
        role = ltb-true r 64 (and_left (ltb r 64) _ e3);
        known = leb-true ((state t).owner s) 64 (and_left (leb ((state t).owner s) 64) _ e4);
        allowed = and_right (leb ((state t).owner s) 64) _ e4;
      }

  -- within its bounds the answer is the definition's
  pub activatable_is : (s r : ℕ) → length t ≡ table_length → s < 32 → r < 64 → (state t).owner s ≤ 64 → may_activate (state t) s r ≡ activatable t s r
  unfolding activatable
  activatable_is s r e hs hr k =
      sym (true_and _ (is_table_lem t e) ∙ true_and _ (lt-ltb s 32 hs) ∙ true_and _ (lt-ltb r 64 hr) ∙ true_and _ (le-leb ((state t).owner s) 64 k))

  pub activatable_known : (s r : ℕ) → length t ≡ table_length → s < 32 → r < 64
      → leb ((state t).owner s) 64 and may_activate (state t) s r ≡ activatable t s r
  unfolding activatable
  activatable_known s r e hs hr = sym (true_and _ (is_table_lem t e) ∙ true_and _ (lt-ltb s 32 hs) ∙ true_and _ (lt-ltb r 64 hr))

  pub openable_elim : (s x o : ℕ) → openable t s x o ≡ true → Openable t s x o
  unfolding openable
  openable_elim s x o e1 =
      let e2 = and_right (is_table t) _ e1 in
      let e3 = and_right (ltb s 32) _ e2 in
      let e4 = and_right (ltb x 8) _ e3 in
      record {
        a_table = table_length_lem t (and_left (is_table t) _ e1);
        session = ltb-true s 32 (and_left (ltb s 32) _ e2);
        mode = ltb-true x 8 (and_left (ltb x 8) _ e3);
        object = ltb-true o 64 (and_left (ltb o 64) _ e4);
        allowed = and_right (ltb o 64) _ e4;
      }

  pub openable_is : (s x o : ℕ) → length t ≡ table_length → s < 32 → x < 8 → o < 64 → effective (state t) s x o ≡ openable t s x o
  unfolding openable
  openable_is s x o e hs hx ho =
      sym (true_and _ (is_table_lem t e) ∙ true_and _ (lt-ltb s 32 hs) ∙ true_and _ (lt-ltb x 8 hx) ∙ true_and _ (lt-ltb o 64 ho))

  -- an answer that a bound forbids
  pub not_activatable : (s r : ℕ) → (Activatable t s r → ⊥) → false ≡ activatable t s r
  not_activatable s r k = sym (is_false (λ e. k (activatable_elim s r e)))

  pub not_openable : (s x o : ℕ) → (Openable t s x o → ⊥) → false ≡ openable t s x o
  not_openable s x o k = sym (is_false (λ e. k (openable_elim s x o e)))

-- ---- words that are 0

module _ (t : List ℕ) (at n : ℕ) where
  pub words_empty_are : length t ≡ table_length → at + n ≤ table_length → all n (λ i. eqb (word t (at + i)) 0) ≡ words_empty t at n
  unfolding words_empty
  words_empty_are e h = sym (true_and _ (is_table_lem t e) ∙ true_and _ (le-leb (at + n) table_length h))

  pub words_empty_elim : words_empty t at n ≡ true → all n (λ i. eqb (word t (at + i)) 0) ≡ true
  unfolding words_empty
  words_empty_elim e = and_right (leb (at + n) table_length) _ (and_right (is_table t) _ e)

  -- an answer that the length or a bound forbids
  pub not_words_empty : (length t ≡ table_length → at + n ≤ table_length → ⊥) → false ≡ words_empty t at n
  unfolding words_empty
  not_words_empty k =
      sym (is_false (λ e. k (table_length_lem t (and_left _ _ e)) (leb-true (at + n) table_length (and_left _ _ (and_right (is_table t) _ e)))))

-- ---- the words that the writing functions leave

module _ (t : List ℕ) (at : ℕ) where
  pub length_cleared : length (cleared_from t at) ≡ length t
  unfolding cleared_from
  length_cleared = length_tabulate (length t) _

  pub cleared_before : (i : ℕ) → i < at → i < length t → get_or (cleared_from t at) i 0 ≡ get_or t i 0
  unfolding cleared_from
  cleared_before i h l = get_d_tabulate (length t) _ 0 i l ∙ if_false _ _ (lt-leb at i h)

  pub cleared_after : (i : ℕ) → at ≤ i → i < length t → get_or (cleared_from t at) i 0 ≡ 0
  unfolding cleared_from
  cleared_after i h l = get_d_tabulate (length t) _ 0 i l ∙ if_true _ _ (le-leb at i h)

  module _ (words : List ℕ) where
    pub length_overlay : length (overlay t at words) ≡ length t
    unfolding overlay
    length_overlay = length_tabulate (length t) _

    pub overlay_at : (i : ℕ) → at ≤ i → i < at + length words → i < length t → get_or (overlay t at words) i 0 ≡ get_or words (i - at) 0
    unfolding overlay
    overlay_at i h k l =
        get_d_tabulate (length t) _ 0 i l ∙ if_true _ _ (and_intro (le-leb at i h) (lt-ltb i (at + length words) k))

    pub overlay_past : (i : ℕ) → at + length words ≤ i → i < length t → get_or (overlay t at words) i 0 ≡ get_or t i 0
    unfolding overlay
    overlay_past i h l = get_d_tabulate (length t) _ 0 i l ∙ if_false _ _ (and_false (leb at i) (le-ltb i (at + length words) h))

    pub overlay_before : (i : ℕ) → i < at → i < length t → get_or (overlay t at words) i 0 ≡ get_or t i 0
    unfolding overlay
    overlay_before i h l = get_d_tabulate (length t) _ 0 i l ∙ if_false _ _ (false_and _ (lt-leb at i h))
