-- What chains of iterators come to in the words of this crate's definitions: a test of all numbers below n, a list made from the
-- number of each place, and a test of each or of some member of a word. Assumes nothing.
use Prim.Native.Nat.{ℕ, zero, suc, ◌+◌, ◌^◌, ◌≤◌, ◌<◌}
use mathlib.Core.Path.{◌≡◌, refl, sym, ap, subst, ◌∙◌}
use mathlib.Core.Bool.{Bool, true, false}
use mathlib.Core.List.{List, [], ◌∷◌}
use mathlib.Core.Logic.{⊎_elim}
use native.Mathlib.Nat.{eq-or-lt_of_le}
use native.Mathlib.Omega.{arith}
use denote.Param.Members.{Mut, Called}
use denote.Ref.{Bor}
use lib.ListN.{length, get_or}
use Rattle.std.specs.Prelude.{Option, Some, None, MatchOption, cond}
use Rattle.std.specs.declared.ops.Range.{Range}
use Rattle.std.specs.Bool.{MatchBool}
use Rattle.std.specs.List.{FoldsTo, All, AllWithin, HoldsAt, filter, range_with_len}
use Rattle.std.specs.Fn.{CalledAt}
use Rattle.std.specs.Iterator.{Yields, YieldsThen}
use Rattle.std.specs.Iterator.Adapters.{filter_source, filter_callee, filter_steps}
use Rattle.std.specs.declared.iter.Filter.{Filter}
use Rattle.std.proofs.iter.Yields.{nat_range_steps}
use Rattle.std.proofs.lemmas.Iterator.{YieldsList, cases_from_all, YieldsList-from_range}
use Rattle.std.proofs.lemmas.Iterator.Consumers.{YieldsList-from_filter}
use Rattle.std.proofs.lemmas.List.Elements.{All-nil, All-cons, All-head, All-tail, All-from_all_within, All-filter, filter_passes}
use Rattle.std.proofs.lemmas.List.FromFn.{length-range_with_len, get_or-range_with_len}
use Rattle.std.specs.Array.{IsFromFnResult, IsFromFnResultFrom}
use Rattle.bits.specs.Words.{◌implies◌, all, tabulate}
use Rattle.bits.specs.Sets.{each, some, IsLowest, IsRest, Takes}
use Rattle.bits.specs.declared.Members.{Members}
use Rattle.bits.proofs.Truth.{clash, by_truth, implies_intro, implies_fails}
use Rattle.bits.proofs.Below.{all_intro, all_fails}
use Rattle.bits.proofs.Walk.{Testing, test_start, test_step, test_fails, test_end, Seeking, seek_start, seek_step, seek_found, seek_end}
use Rattle.bits.proofs.Tabulate.{tabulated}

-- ---- `(0..n).all(..)`: a test of all numbers below n

at_place : (n i : ℕ) → i < n → get_or (range_with_len 0 n) i 0 ≡ i
at_place n i h = get_or-range_with_len 0 n i 0 h ∙ omega arith

decided : (n : ℕ) (p : ℕ → Bool) (b : Bool)
    → MatchBool b (AllWithin (λ x. x < n → p x ≡ true) (range_with_len 0 n) 0 (length (range_with_len 0 n)))
    ((k : ℕ) × (k < length (range_with_len 0 n)) × HoldsAt (λ x. x < n → p x ≡ false) (range_with_len 0 n) k) → b ≡ all n p
decided n p true m =
    let l = length-range_with_len 0 n in
    sym (all_intro p n (λ i h. let e = at_place n i h in sym (ap p e) ∙ m i 0 (omega arith) (omega arith) (omega arith)))
decided n p false m =
    let l = length-range_with_len 0 n in
    let a = m.1 in
    let h : m.0 < n = omega arith in
    let e = at_place n m.0 h in
    sym (all_fails p n m.0 h (sym (ap p e) ∙ m.2 0 (omega arith)))

module _ {F : Type 0} {g : Mut F (ℕ × Unit {0}) Bool} {n : ℕ} {f : F} {u : Range ℕ} {r : Bool} (p : ℕ → Bool) where
  pub all_is : (xs : List ℕ) × (o : Option ℕ) × (j : F) × YieldsThen nat_range_steps (record { start = 0; end = n }) xs o u
      × FoldsTo (λ s x t. Called g s (x, tt) true t) f xs j
      × MatchOption o (r ≡ true) (λ x. (r ≡ false) × ((h : F) × Called g j (x, tt) false h))
      → ((x : ℕ) (q : F) → Called g f (x, tt) true q → (q ≡ f) × (x < n → p x ≡ true))
      → ((x : ℕ) (q : F) → Called g f (x, tt) false q → x < n → p x ≡ false)
      → r ≡ all n p
  all_is ran pass fail = decided n p r (cases_from_all u f r _ _ ran (YieldsList-from_range 0 n n refl (omega arith)) pass fail)

-- ---- `(0..n).filter(..).all(..)`: a test of those numbers below n that are picked

picked : (p : ℕ → Bool) (P : ℕ → Type 0) (xs : List ℕ) → All P (filter p xs) → All (λ x. p x ≡ true → P x) xs
picked p P [] a = All-nil (λ x. p x ≡ true → P x)
picked p P (x ∷ xs) a =
    by_truth (p x)
    (λ e.
    let b = subst (λ (t : Bool). All P (cond t (x ∷ filter p xs) (filter p xs))) e a in
    All-cons (λ x. p x ≡ true → P x) x xs (λ o. All-head P x (filter p xs) b) (picked p P xs (All-tail P x (filter p xs) b)))
    (λ e.
    let b = subst (λ (t : Bool). All P (cond t (x ∷ filter p xs) (filter p xs))) e a in
    All-cons (λ x. p x ≡ true → P x) x xs (λ o. clash o e) (picked p P xs b))

decided_picked : (n : ℕ) (p q : ℕ → Bool) (b : Bool) → let xs = filter p (range_with_len 0 n) in
    MatchBool b (AllWithin (λ x. q x ≡ true) xs 0 (length xs)) ((k : ℕ) × (k < length xs) × HoldsAt (λ x. q x ≡ false) xs k)
    → b ≡ all n (λ i. p i implies q i)
decided_picked n p q true m =
    let xs = range_with_len 0 n in
    let l = length-range_with_len 0 n in
    sym (all_intro _ n (λ i h. implies_intro _ _ (λ o.
    let e = at_place n i h in
    sym (ap q e) ∙ picked p (λ x. q x ≡ true) xs (All-from_all_within (λ x. q x ≡ true) (filter p xs) m) i 0 (omega arith) (ap p e ∙ o))))
decided_picked n p q false m =
    let xs = range_with_len 0 n in
    let l = length-range_with_len 0 n in
    let within : All (λ x. x < n) xs = λ k d h. omega (arith, get_or-range_with_len 0 n k d (omega arith)) in
    sym (all_fails _ n (get_or (filter p xs) m.0 0) (All-filter p (λ x. x < n) xs within m.0 0 m.1)
    (implies_fails (filter_passes p xs m.0 0 m.1) (m.2 0)))

module _ {F G : Type 0} {g : Mut F (ℕ × Unit {0}) Bool} {h : Mut G (Bor ℕ × Unit {0}) Bool} {n : ℕ} {f : F} {k : G} {s u : Filter (Range ℕ) G} {r : Bool} (p q : ℕ → Bool) where
  pub all_picked_is : filter_source s ≡ record { start = 0; end = n } → filter_callee s ≡ k
      → ((x : ℕ) (b : Bool) (j : G) → CalledAt h k x b j → (j ≡ k) × (b ≡ p x))
      → (xs : List ℕ) × (o : Option ℕ) × (j : F) × YieldsThen (filter_steps nat_range_steps h) s xs o u
      × FoldsTo (λ s x t. Called g s (x, tt) true t) f xs j
      × MatchOption o (r ≡ true) (λ x. (r ≡ false) × ((t : F) × Called g j (x, tt) false t))
      → ((x : ℕ) (j : F) → Called g f (x, tt) true j → (j ≡ f) × (q x ≡ true))
      → ((x : ℕ) (j : F) → Called g f (x, tt) false j → q x ≡ false)
      → r ≡ all n (λ i. p i implies q i)
  all_picked_is from callee pick ran pass fail =
      let source : YieldsList nat_range_steps (λ x. x) (filter_source s) (range_with_len 0 n) = rw from (YieldsList-from_range 0 n n refl (omega arith)) in
      decided_picked n p q r (cases_from_all u f r _ _ ran
      (YieldsList-from_filter h p source callee pick) pass fail)

-- ---- `array::from_fn(..)`: a list made from the number of each place

at_or_above : {A : Type 0} (i j : ℕ) → i ≤ j → (j ≡ i → A) → (i < j → A) → A
at_or_above i j a at above = ⊎_elim (λ z. at (sym z)) above (eq-or-lt_of_le a)

module _ {F : Type 0} {g : Mut F (ℕ × Unit {0}) ℕ} (f : F) (h : ℕ → ℕ) (n : ℕ)
    (gives : (i y : ℕ) (q : F) → Called g f (i, tt) y q → (q ≡ f) × (i < n → y ≡ h i)) where
  made_from : (ys : List ℕ) (k i : ℕ) (p : F) → p ≡ f → i + k ≤ n → IsFromFnResultFrom g p ys i k → (j : ℕ) → i ≤ j → j < i + k → get_or ys j 0 ≡ h j
  made_from ys zero i p e l m j a b = absurd (omega arith)
  made_from ys (suc k) i p e l m j a b =
      let q = m.0 in
      let y = m.1 in
      let told = gives i y q (subst (λ (x : F). Called g x (i, tt) y q) e m.3) in
      at_or_above i j a
      (λ z. ap (λ (x : ℕ). get_or ys x 0) z ∙ m.2.1 0 ∙ told.1 (omega arith) ∙ ap h (sym z))
      (λ z. made_from ys k (i + 1) q told.0 (omega arith) m.4 j (omega arith) (omega arith))

  pub made_is : {ys : List ℕ} → IsFromFnResult g f ys n → ys ≡ tabulate n h
  made_is {ys} m = tabulated n h m.long (λ i l. made_from ys n 0 f refl (omega arith) m.each i (omega arith) (omega arith))

-- ---- `Members::of(..).all(..)` and `.any(..)`: a test of each member of a word, and a search for one

abbrev gives : Members → Option ℕ → Members → Type 0
gives before given after = Takes before.left given after.left

module _ {F : Type 0} {g : Mut F (ℕ × Unit {0}) Bool} {f : F} (p : ℕ → Bool) (b : Bool)
    (same : (x : ℕ) (q : F) → Called g f (x, tt) b q → (q ≡ f) × (x < 64 → p x ≡ b))
    (P : ℕ → Type 0) (more : (m q m' : ℕ) → P m → (m ≡ 0 → ⊥) → IsLowest m q → IsRest m m' → p q ≡ b → P m') where
  -- what holds of the word holds of what is left of it, where the members before were all answered b
  kept : (xs : List ℕ) (s t : Members) (h j : F) → h ≡ f → Yields gives s xs t → FoldsTo (λ h x k. Called g h (x, tt) b k) h xs j
      → P s.left → P t.left × (j ≡ f)
  kept [] s t h j e y c k = (subst (λ (m : Members). P m.left) y k, sym c ∙ e)
  kept (x ∷ xs) s t h j e (i, (n, l, d), y) (q, a, c) k =
      let told = same x q (subst (λ (h : F). Called g h (x, tt) b q) e a) in
      kept xs i t q j told.0 y c (more s.left x i.left k n l d (told.1 l.below))

module _ {F : Type 0} {g : Mut F (ℕ × Unit {0}) Bool} {f : F} {s u : Members} {r : Bool} (w : ℕ) (p : ℕ → Bool) (e : s.left ≡ w) (l : w < 2 ^ 64) where
  pub each_is : (xs : List ℕ) × (o : Option ℕ) × (j : F) × YieldsThen gives s xs o u × FoldsTo (λ h x k. Called g h (x, tt) true k) f xs j
      × MatchOption o (r ≡ true) (λ x. (r ≡ false) × ((h : F) × Called g j (x, tt) false h))
      → ((x : ℕ) (q : F) → Called g f (x, tt) true q → (q ≡ f) × (x < 64 → p x ≡ true))
      → ((x : ℕ) (q : F) → Called g f (x, tt) false q → x < 64 → p x ≡ false)
      → r ≡ each w p
  each_is (xs, o, j, (t, y, z), c, m) pass fail =
      let k = kept p true pass (Testing w p) (λ m q m' k n l d h. test_step k n l d h) xs s t f j refl y c (subst (Testing w p) (sym e) (test_start l)) in
      ended o z m k.0 k.1
    where
      ended : (o : Option ℕ) → gives t o u → MatchOption o (r ≡ true) (λ x. (r ≡ false) × ((h : F) × Called g j (x, tt) false h))
          → Testing w p t.left → j ≡ f → r ≡ each w p
      ended None z m k e = m ∙ sym (test_end k z.0)
      ended (Some x) (n, l, d) (m, (h, a)) k e = m ∙ sym (test_fails k n l (fail x h (subst (λ (j : F). Called g j (x, tt) false h) e a) l.below))

  pub some_is : (xs : List ℕ) × (o : Option ℕ) × (j : F) × YieldsThen gives s xs o u × FoldsTo (λ h x k. Called g h (x, tt) false k) f xs j
      × MatchOption o (r ≡ false) (λ x. (r ≡ true) × ((h : F) × Called g j (x, tt) true h))
      → ((x : ℕ) (q : F) → Called g f (x, tt) false q → (q ≡ f) × (x < 64 → p x ≡ false))
      → ((x : ℕ) (q : F) → Called g f (x, tt) true q → x < 64 → p x ≡ true)
      → r ≡ some w p
  some_is (xs, o, j, (t, y, z), c, m) pass fail =
      let k = kept p false pass (Seeking w p) (λ m q m' k n l d h. seek_step k n l d h) xs s t f j refl y c (subst (Seeking w p) (sym e) (seek_start l)) in
      ended o z m k.0 k.1
    where
      ended : (o : Option ℕ) → gives t o u → MatchOption o (r ≡ false) (λ x. (r ≡ true) × ((h : F) × Called g j (x, tt) true h))
          → Seeking w p t.left → j ≡ f → r ≡ some w p
      ended None z m k e = m ∙ sym (seek_end k z.0)
      ended (Some x) (n, l, d) (m, (h, a)) k e = m ∙ sym (seek_found k n l (fail x h (subst (λ (j : F). Called g j (x, tt) true h) e a) l.below))
