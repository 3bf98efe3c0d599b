-- The separation sets, as the code goes about them: user by user, and session by session. Assumes nothing.
use Prim.Native.Nat.{ℕ, ◌+◌, ◌*◌, ◌<◌}
use mathlib.Core.Path.{◌≡◌, sym, ap, ap₂, ◌∙◌}
use mathlib.Core.Bool.{Bool, true}
use mathlib.Core.List.{List}
use native.Mathlib.Nat.{zero-add}
use native.Mathlib.Omega.{arith}
use lib.ListN.{length}
use borrow.Author.Tests.{eqb-true, le-leb, lt-ltb}
use Rattle.bits.specs.Words.{◌and◌, has, all, pack}
use Rattle.bits.proofs.Truth.{same_truth, and_right, true_and, and_assoc, and_comm}
use Rattle.bits.proofs.Below.{all_intro, all_elim, all_cong}
use Rattle.bits.proofs.Word.{has_pack}
use Rattle.table.specs.State.{State}
use Rattle.table.specs.Authority.{covers, authorised}
use Rattle.table.specs.Separation.{mask, bound, fewer, static_sets_hold, dynamic_sets_hold, pairs_good, sets_empty, separated}
use Rattle.table.specs.Table.{table_length, is_table, encode}
use Rattle.table.specs.Reading.{word, state}
use Rattle.table.specs.Answers.{authorised_roles, words_empty}
use Rattle.table.proofs.Separation.{no_roles_fewer, fewer_cong, separated_parts}
use Rattle.table.proofs.Agree.{Agree, authorised_agree}
use Rattle.table.proofs.Table.{is_table_lem, in_table}
use Rattle.table.proofs.Encode.{state_encode, encode_length}
use Rattle.table.proofs.Answers.{authorised_roles_are, words_empty_elim}
use Rattle.separation.specs.Answers.{separated_of, sets_fit, pair_holds, sets_empty_of, static_fit_of, dynamic_fit_of, pair_holds_of, static_sets_of}

-- ---- roles gathered in a word

pub packed_fewer : (m b roles : ℕ) (f : ℕ → Bool) → roles ≡ pack 64 f → fewer m b (has roles) ≡ fewer m b f
packed_fewer m b roles f e = fewer_cong m b (has roles) f (λ r h. ap (λ (w : ℕ). has w r) e ∙ has_pack f 64 r h)

pub packed_fit : (S : State) (first roles : ℕ) (f : ℕ → Bool) → roles ≡ pack 64 f → sets_fit S first (has roles) ≡ sets_fit S first f
packed_fit S first roles f r = all_cong 16 (λ n l. packed_fewer _ _ roles f r)

-- ---- what the public functions answer of a table

module _ (t : List ℕ) (e : length t ≡ table_length) where
  pub authorised_fewer : (m b u roles : ℕ) → u < 64 → roles ≡ authorised_roles t u
      → fewer m b (has roles) ≡ fewer m b (authorised (state t) u)
  authorised_fewer m b u roles h r = packed_fewer m b roles _ (r ∙ sym (authorised_roles_are t u (in_table t u 64 e h)))

  pub authorised_fit : (u roles : ℕ) → u < 64 → roles ≡ authorised_roles t u → sets_fit (state t) 0 (has roles) ≡ sets_fit (state t) 0 (authorised (state t) u)
  authorised_fit u roles h r = all_cong 16 (λ n l. authorised_fewer _ _ u roles h r)

  pub static_fit_are : (roles : ℕ) → sets_fit (state t) 0 (covers (state t) roles) ≡ static_fit_of t roles
  unfolding static_fit_of
  static_fit_are roles = sym (true_and _ (is_table_lem t e))

  pub dynamic_fit_are : (roles : ℕ) → sets_fit (state t) 16 (has roles) ≡ dynamic_fit_of t roles
  unfolding dynamic_fit_of
  dynamic_fit_are roles = sym (true_and _ (is_table_lem t e))

  -- as the two functions tell it, of a word that is w
  pub static_told : {b : Bool} (w : ℕ) {roles : ℕ} → roles ≡ w → b ≡ static_fit_of t roles → sets_fit (state t) 0 (covers (state t) w) ≡ b
  static_told w {roles} r k = ap (λ (v : ℕ). sets_fit (state t) 0 (covers (state t) v)) (sym r) ∙ static_fit_are roles ∙ sym k

  pub dynamic_told : {b : Bool} (w : ℕ) {roles : ℕ} → roles ≡ w → b ≡ dynamic_fit_of t roles → sets_fit (state t) 16 (has w) ≡ b
  dynamic_told w {roles} r k = ap (λ (v : ℕ). sets_fit (state t) 16 (has v)) (sym r) ∙ dynamic_fit_are roles ∙ sym k

  pub sets_empty_are : sets_empty_of t ≡ sets_empty (state t)
  unfolding sets_empty_of
  sets_empty_are = true_and _ (is_table_lem t e)

  pub pair_holds_are : (n m b : ℕ) → n < 32 → pair_holds (state t) n m b ≡ pair_holds_of t n m b
  unfolding pair_holds_of
  pair_holds_are n m b h = sym (true_and _ (is_table_lem t e) ∙ true_and _ (lt-ltb n 32 h))

  pub static_sets_are : static_sets_hold (state t) ≡ static_sets_of t
  unfolding static_sets_of
  static_sets_are = sym (true_and _ (is_table_lem t e))

  pub separated_are : separated (state t) ≡ separated_of t
  unfolding separated_of
  separated_are = sym (true_and _ (is_table_lem t e))

module _ (t : List ℕ) where
  -- the 64 words of the sets are in every table
  pub sets_empty_is : words_empty t 968 64 ≡ sets_empty_of t
  unfolding words_empty sets_empty_of
  sets_empty_is = ap (λ (b : Bool). is_table t and b) (true_and _ (le-leb 1032 table_length (omega arith)))

  pub empty_state : sets_empty_of t ≡ true → sets_empty (state t) ≡ true
  unfolding sets_empty_of
  empty_state e = and_right (is_table t) _ e

  -- where the words of the 16 pairs from first on are 0
  pub unused_fit : (first : ℕ) (f : ℕ → Bool) → words_empty t (968 + 2 * first) 32 ≡ true → sets_fit (state t) first f ≡ true
  unused_fit first f e =
      all_intro _ 16 (λ n h. no_roles_fewer _ _ f
      (ap (λ (i : ℕ). word t i) (omega arith) ∙ eqb-true _ 0 (all_elim _ 32 (words_empty_elim t (968 + 2 * first) 32 e) (2 * n) (omega arith))))

-- ---- all sets

-- set by set, or one by one of those who are asked
by_set : (n : ℕ) (f : ℕ → ℕ → Bool) → all n (λ i. all 16 (λ k. f k i)) ≡ all 16 (λ k. all n (λ i. f k i))
by_set n f =
    same_truth
    (λ e. all_intro _ 16 (λ k hk. all_intro _ n (λ i hi. all_elim _ 16 (all_elim _ n e i hi) k hk)))
    (λ e. all_intro _ n (λ i hi. all_intro _ 16 (λ k hk. all_elim _ n (all_elim _ 16 e k hk) i hi)))

module _ (S : State) where
  pub users_is : all 64 (λ u. sets_fit S 0 (authorised S u)) ≡ static_sets_hold S
  users_is =
      by_set 64 (λ n u. fewer (mask S (0 + n)) (bound S (0 + n)) (authorised S u))
      ∙ all_cong 16 (λ n h. ap (λ (k : ℕ). all 64 (λ u. fewer (mask S k) (bound S k) (authorised S u))) (zero-add n))

  pub sessions_is : all 32 (λ s. sets_fit S 16 (has (S.active s))) ≡ dynamic_sets_hold S
  sessions_is = by_set 32 (λ n s. fewer (mask S (16 + n)) (bound S (16 + n)) (has (S.active s)))

  pub separated_is : separated S ≡ (pairs_good S and static_sets_hold S) and dynamic_sets_hold S
  separated_is = separated_parts S ∙ sym (and_assoc (static_sets_hold S) _ _) ∙ and_comm _ (pairs_good S) ∙ sym (and_assoc (pairs_good S) _ _)

-- ---- on the table of a state

static_agree : (S S' : State) → Agree S S' → static_sets_hold S ≡ static_sets_hold S'
static_agree S S' a =
    all_cong 16 (λ n h. all_cong 64 (λ u l.
    ap₂ (λ (m b : ℕ). fewer m b (authorised S u)) (a.sets (2 * n) (omega arith)) (a.sets (2 * n + 1) (omega arith))
    ∙ fewer_cong _ _ (authorised S u) (authorised S' u) (λ q k. authorised_agree a u q l)))

pub static_sets_shown : {t : List ℕ} (S : State) → t ≡ encode S → static_sets_of t ≡ static_sets_hold S
static_sets_shown {t} S e = sym (static_sets_are t (ap length e ∙ encode_length S)) ∙ static_agree (state t) S (rw e (state_encode S))
