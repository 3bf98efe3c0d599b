-- Separation of duties and its plain facts: each from the other. Nothing else opens the definitions. Assumes nothing.
use Prim.Native.Nat.{ℕ, ◌+◌, ◌*◌, ◌<◌}
use mathlib.Core.Path.{◌≡◌, refl, sym, ap, subst, ◌∙◌}
use mathlib.Core.Bool.{Bool, true, false, not}
use native.Mathlib.Omega.{arith}
use lib.Dec.{eqb, ltb}
use borrow.Author.Tests.{eqb-false, eq-eqb, ne_eqb, ltb-true, ltb-false, lt-ltb, not-true}
use Rattle.bits.specs.Words.{◌and◌, ◌or◌, has}
use Rattle.bits.specs.Sets.{size, meet}
use Rattle.bits.proofs.Truth.{clash, by_truth, is_false, not_intro, and_intro, and_left, and_right, true_and, false_and, and_false, or_left, or_right, or_elim, false_or}
use Rattle.bits.proofs.Below.{all_intro, all_elim}
use Rattle.bits.proofs.Word.{has_zero}
use Rattle.bits.proofs.Counting.{count_le, count_cong, count_none, size_meet}
use Rattle.table.specs.State.{State}
use Rattle.table.specs.Authority.{authorised}
use Rattle.table.specs.Separation.{mask, bound, empty_pair, bad_pair, included, fewer, static_sets_hold, dynamic_sets_hold, pairs_good, sets_empty, separated, Fewer, GoodPair, Separated}

-- ---- one pair

module _ (m b : ℕ) where
  -- a mask without roles, and one with some
  pub no_roles_fewer : (f : ℕ → Bool) → m ≡ 0 → fewer m b f ≡ true
  unfolding fewer empty_pair included
  no_roles_fewer f e =
      by_truth (eqb b 0)
      (λ z. or_left _ (and_intro (eq-eqb m 0 e) z))
      (λ z.
      let none = count_none 64 {f = λ r. has m r and f r} (λ r h. false_and _ (ap (λ (w : ℕ). has w r) e ∙ has_zero r)) in
      let n = eqb-false b 0 z in
      or_right _ (lt-ltb _ b (omega arith)))

  some_roles : (m ≡ 0 → ⊥) → empty_pair m b ≡ false
  unfolding empty_pair
  some_roles n = false_and _ (ne_eqb m 0 n)

  pub some_roles_fewer : (roles : ℕ) → (m ≡ 0 → ⊥) → ltb (size (meet m roles)) b ≡ fewer m b (has roles)
  unfolding fewer included
  some_roles_fewer roles n = ap (λ (k : ℕ). ltb k b) (size_meet m roles) ∙ sym (false_or _ (some_roles n))

  pub no_roles_bad : m ≡ 0 → not (eqb b 0) ≡ bad_pair m b
  unfolding bad_pair empty_pair size
  no_roles_bad e =
      by_truth (eqb b 0)
      (λ z. ap not z ∙ sym (false_and _ (ap not (and_intro (eq-eqb m 0 e) z))))
      (λ z.
      let none = count_none 64 {f = has m} (λ r h. ap (λ (w : ℕ). has w r) e ∙ has_zero r) in
      let n = eqb-false b 0 z in
      ap not z ∙ sym (and_intro (ap not (and_false (eqb m 0) z)) (or_right (ltb b 2) (lt-ltb _ b (omega arith)))))

  pub some_roles_bad : (m ≡ 0 → ⊥) → ltb b 2 or ltb (size m) b ≡ bad_pair m b
  unfolding bad_pair
  some_roles_bad n = sym (true_and _ (ap not (some_roles n)))

  pub fewer_elim : (f : ℕ → Bool) → fewer m b f ≡ true → Fewer m b f
  unfolding fewer
  fewer_elim f e n = or_elim (empty_pair m b) _ e (λ z. clash z n) (ltb-true (included m f) b)

  pub fewer_intro : (f : ℕ → Bool) → Fewer m b f → fewer m b f ≡ true
  unfolding fewer
  fewer_intro f k = by_truth (empty_pair m b) (or_left _) (λ n. or_right _ (lt-ltb (included m f) b (k n)))

  -- what holds of fewer roles includes no more
  pub less_fewer : (f g : ℕ → Bool) → ((r : ℕ) → r < 64 → g r ≡ true → f r ≡ true) → Fewer m b f → Fewer m b g
  unfolding included
  less_fewer f g k l n =
      let h = count_le 64 {f = λ r. has m r and g r} {g = λ r. has m r and f r}
      (λ r h e. and_intro (and_left (has m r) _ e) (k r h (and_right (has m r) _ e))) in
      let d = l n in
      omega arith

  pub fewer_cong : (f g : ℕ → Bool) → ((r : ℕ) → r < 64 → f r ≡ g r) → fewer m b f ≡ fewer m b g
  unfolding fewer included
  fewer_cong f g k =
      ap (λ (n : ℕ). empty_pair m b or ltb n b) (count_cong 64 (λ r h. ap (λ (c : Bool). has m r and c) (k r h)))

  pub good_elim : bad_pair m b ≡ false → GoodPair m b
  unfolding bad_pair
  good_elim e n = (
    by_truth (ltb b 2) (λ l. clash (and_intro (ap not n) (or_left _ l)) e) (ltb-false b 2),
    by_truth (ltb (size m) b) (λ l. clash (and_intro (ap not n) (or_right _ l)) e) (ltb-false (size m) b),
  )

  pub good_intro : GoodPair m b → bad_pair m b ≡ false
  unfolding bad_pair
  good_intro k = is_false (λ e.
      let g = k (not-true _ (and_left (not (empty_pair m b)) _ e)) in
      or_elim (ltb b 2) _ (and_right (not (empty_pair m b)) _ e)
      (λ l. let h = ltb-true b 2 l in let d = g.0 in omega arith) (λ l. let h = ltb-true (size m) b l in let d = g.1 in omega arith))

-- ---- all of them

module _ (S : State) where
  pub separated_elim : separated S ≡ true → Separated S
  unfolding separated
  separated_elim e =
      let d = and_right (static_sets_hold S) _ e in
      record {
        static_holds = λ n u hn hu. fewer_elim _ _ _ (all_elim _ 64 (all_elim _ 16 (and_left (static_sets_hold S) _ e) n hn) u hu);
        dynamic_holds = λ n s hn hs. fewer_elim _ _ _ (all_elim _ 32 (all_elim _ 16 (and_left (dynamic_sets_hold S) _ d) n hn) s hs);
        pairs_good = λ n h. good_elim _ _ (not-true _ (all_elim _ 32 (and_right (dynamic_sets_hold S) _ d) n h));
      }

  pub separated_intro : Separated S → separated S ≡ true
  unfolding separated
  separated_intro f =
      and_intro (all_intro _ 16 (λ n hn. all_intro _ 64 (λ u hu. fewer_intro _ _ _ (f.static_holds n u hn hu))))
      (and_intro (all_intro _ 16 (λ n hn. all_intro _ 32 (λ s hs. fewer_intro _ _ _ (f.dynamic_holds n s hn hs))))
      (all_intro _ 32 (λ n h. not_intro (good_intro _ _ (f.pairs_good n h)))))

  pub separated_parts : separated S ≡ static_sets_hold S and (dynamic_sets_hold S and pairs_good S)
  unfolding separated
  separated_parts = refl

  -- without sets
  pub empty_separated : sets_empty S ≡ true → separated S ≡ true
  unfolding empty_pair
  empty_separated e = separated_intro (record {
    static_holds = λ n u hn hu d. clash (empty_pair_lem n (omega arith)) d;
    dynamic_holds = λ n s hn hs d. clash (empty_pair_lem (16 + n) (omega arith)) d;
    pairs_good = λ n h d. clash (empty_pair_lem n h) d;
  })
    where
      empty_pair_lem : (n : ℕ) → n < 32 → empty_pair (mask S n) (bound S n) ≡ true
      empty_pair_lem n h = and_intro (all_elim _ 64 e (2 * n) (omega arith)) (all_elim _ 64 e (2 * n + 1) (omega arith))

-- a state with the same sets, where no user has more authorised roles and no session more active ones
pub separated_less : (S S' : State) → Separated S → ((i : ℕ) → i < 64 → S.sets i ≡ S'.sets i)
    → ((u q : ℕ) → u < 64 → q < 64 → authorised S' u q ≡ true → authorised S u q ≡ true)
    → ((s r : ℕ) → s < 32 → r < 64 → has (S'.active s) r ≡ true → has (S.active s) r ≡ true) → Separated S'
separated_less S S' f e k l = record {
  static_holds = λ n u hn hu.
      less_fewer _ _ (authorised S u) (authorised S' u) (λ q h. k u q hu h)
      (same n (λ m b. Fewer m b (authorised S u)) (omega arith) (f.static_holds n u hn hu));
  dynamic_holds = λ n s hn hs.
      less_fewer _ _ (has (S.active s)) (has (S'.active s)) (λ r. l s r hs)
      (same (16 + n) (λ m b. Fewer m b (has (S.active s))) (omega arith) (f.dynamic_holds n s hn hs));
  pairs_good = λ n h. same n GoodPair h (f.pairs_good n h);
}
  where
    same : (n : ℕ) (P : ℕ → ℕ → Type 0) → n < 32 → P (mask S n) (bound S n) → P (mask S' n) (bound S' n)
    same n P h p =
        subst (P (mask S' n)) (e (2 * n + 1) (omega arith)) (subst (λ (m : ℕ). P m (bound S n)) (e (2 * n) (omega arith)) p)
