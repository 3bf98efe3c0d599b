-- The closure holds the direct juniors, is reflexive and transitive, and is no more than what a chain of links reaches.
-- After the roles below k were gone through, a row has what is reached by way of those. Assumes nothing.
use Prim.Native.Nat.{ℕ, zero, suc, ◌+◌, ◌^◌, ◌≤◌, ◌<◌}
use mathlib.Core.Path.{◌≡◌, refl, sym, ap, subst, ◌∙◌}
use mathlib.Core.Bool.{Bool, true}
use mathlib.Core.List.{List}
use native.Mathlib.Numerals.{add-one}
use native.Mathlib.Omega.{arith}
use lib.Dec.{eqb}
use lib.ListN.{length, get_or}
use lib.Seq.{ext_get_or}
use borrow.Author.Tests.{eqb-true, eqb-false}
use Rattle.bits.specs.Words.{◌and◌, ◌or◌, when◌then◌else◌, has, ◌with◌, tabulate}
use Rattle.bits.specs.Sets.{◌without◌, join}
use Rattle.bits.proofs.Truth.{by_truth, is_false, and_intro, and_left, and_right, or_left, or_right, or_elim, or_false, true_and, false_and, if_true, if_false}
use Rattle.bits.proofs.Word.{same_members, without_keeps, has_join, join_lt, with_lt, with_new, with_old, with_elim, without_with}
use Rattle.bits.proofs.Membership.{not_empty}
use Rattle.bits.proofs.Tabulate.{length_tabulate, get_d_tabulate, tabulate_cong}
use Rattle.closure.specs.Closure.{via, through, closure, Reaches, here, link}

-- role r has q
abbrev row : List ℕ → ℕ → ℕ → Bool
row rows r q = has (get_or rows r 0) q

via_row : (k : ℕ) (rows : List ℕ) (r q : ℕ) → r < 64 → q < 64 → row (via k rows) r q ≡ row rows r q or (row rows r k and row rows k q)
unfolding via
via_row k rows r q lr lq =
    ap (λ (w : ℕ). has w q) (get_d_tabulate 64 _ 0 r lr)
    ∙ by_truth (row rows r k)
    (λ e. ap (λ (w : ℕ). has w q) (if_true _ _ e) ∙ has_join (get_or rows r 0) (get_or rows k 0) q lq
    ∙ sym (ap (λ (b : Bool). row rows r q or b) (true_and _ e)))
    (λ e. ap (λ (w : ℕ). has w q) (if_false _ _ e) ∙ sym (or_false _ (false_and _ e)))

module _ (rows : List ℕ) where
  -- a way by the roles up to k: by those below k, or to k and on from it
  split : {A : Type 0} (k r q : ℕ) → r < 64 → q < 64 → row (through (suc k) rows) r q ≡ true
      → (row (through k rows) r q ≡ true → A) → (row (through k rows) r k ≡ true → row (through k rows) k q ≡ true → A) → A
  unfolding through
  split k r q lr lq h f g =
      or_elim _ _ (sym (via_row k (through k rows) r q lr lq) ∙ h) f (λ e. g (and_left _ _ e) (and_right _ _ e))

  grow : (k r q : ℕ) → r < 64 → q < 64 → row (through k rows) r q ≡ true → row (through (suc k) rows) r q ≡ true
  unfolding through
  grow k r q lr lq h = via_row k (through k rows) r q lr lq ∙ or_left _ h

  by_way : (k r q : ℕ) → r < 64 → q < 64 → row (through k rows) r k ≡ true → row (through k rows) k q ≡ true → row (through (suc k) rows) r q ≡ true
  unfolding through
  by_way k r q lr lq h j = via_row k (through k rows) r q lr lq ∙ or_right _ (and_intro h j)

  -- k adds nothing to the ways to k and from k
  to_k : (k r : ℕ) → k < 64 → r < 64 → row (through (suc k) rows) r k ≡ true → row (through k rows) r k ≡ true
  to_k k r lk lr h = split k r k lr lk h (λ a. a) (λ a b. a)

  from_k : (k q : ℕ) → k < 64 → q < 64 → row (through (suc k) rows) k q ≡ true → row (through k rows) k q ≡ true
  from_k k q lk lq h = split k k q lk lq h (λ a. a) (λ a b. b)

  -- two ways that meet in a role below k are one way
  compose : (k : ℕ) → k ≤ 64 → (r p q : ℕ) → r < 64 → p < k → q < 64
      → row (through k rows) r p ≡ true → row (through k rows) p q ≡ true → row (through k rows) r q ≡ true
  compose zero lk r p q lr lp lq a b = absurd (omega arith)
  compose (suc k) lk r p q lr lp lq a b =
      let ih : (r p q : ℕ) → r < 64 → p < k → q < 64
      → row (through k rows) r p ≡ true → row (through k rows) p q ≡ true → row (through k rows) r q ≡ true =
      compose k (omega arith) in
      let l : k < 64 = omega arith in
      by_truth (eqb p k)
      (λ e.
      let z = eqb-true p k e in
      by_way k r q lr lq
      (to_k k r l lr (subst (λ (n : ℕ). row (through (suc k) rows) r n ≡ true) z a))
      (from_k k q l lq (subst (λ (n : ℕ). row (through (suc k) rows) n q ≡ true) z b)))
      (λ e.
      let n = eqb-false p k e in
      let m : p < k = omega (arith, n) in
      split k r p lr (omega arith) a
      (λ x. split k p q (omega arith) lq b
      (λ y. grow k r q lr lq (ih r p q lr m lq x y))
      (λ y z. by_way k r q lr lq (ih r p k lr m l x y) z))
      (λ x y. split k p q (omega arith) lq b
      (λ z. by_way k r q lr lq x (ih k p q l m lq y z))
      (λ z w. by_way k r q lr lq x w)))

  keeps : (k r q : ℕ) → r < 64 → q < 64 → row rows r q ≡ true → row (through k rows) r q ≡ true
  unfolding through
  keeps zero r q lr lq h = h
  keeps (suc k) r q lr lq h = grow k r q lr lq (keeps k r q lr lq h)

  -- nothing that is not in every transitive relation with the rows
  least : (P : ℕ → ℕ → Type 0) → ((r p q : ℕ) → P r p → P p q → P r q) → ((r q : ℕ) → r < 64 → q < 64 → row rows r q ≡ true → P r q)
      → (k : ℕ) → k ≤ 64 → (r q : ℕ) → r < 64 → q < 64 → row (through k rows) r q ≡ true → P r q
  unfolding through
  least P tr base zero lk r q lr lq h = base r q lr lq h
  least P tr base (suc k) lk r q lr lq h =
      let ih : (r q : ℕ) → r < 64 → q < 64 → row (through k rows) r q ≡ true → P r q = least P tr base k (omega arith) in
      split k r q lr lq h (λ a. ih r q lr lq a) (λ a b. tr r k q (ih r k lr (omega arith) a) (ih k q (omega arith) lq b))

module _ (direct : List ℕ) where
  first : List ℕ
  first = tabulate 64 (λ r. get_or direct r 0 with r)

  first_row : (r q : ℕ) → r < 64 → row first r q ≡ has (get_or direct r 0 with r) q
  unfolding first
  first_row r q lr = ap (λ (w : ℕ). has w q) (get_d_tabulate 64 _ 0 r lr)

  pub closure_reflexive : (r : ℕ) → r < 64 → row (closure direct) r r ≡ true
  unfolding closure first
  closure_reflexive r l = keeps first 64 r r l l (first_row r r l ∙ with_new (get_or direct r 0) r l)

  pub closure_direct : (r q : ℕ) → r < 64 → q < 64 → row direct r q ≡ true → row (closure direct) r q ≡ true
  unfolding closure first
  closure_direct r q lr lq h = keeps first 64 r q lr lq (first_row r q lr ∙ with_old (get_or direct r 0) r q lq h)

  pub closure_transitive : (r p q : ℕ) → r < 64 → p < 64 → q < 64 → row (closure direct) r p ≡ true → row (closure direct) p q ≡ true
      → row (closure direct) r q ≡ true
  unfolding closure first
  closure_transitive r p q lr lp lq a b = compose first 64 (omega arith) r p q lr lp lq a b

  -- ---- reaching

  pub reaches_through : {r p q : ℕ} → Reaches direct r p → Reaches direct p q → Reaches direct r q
  reaches_through here b = b
  reaches_through (link l e a) b = link l e (reaches_through a b)

  pub closure_reaches : (r q : ℕ) → r < 64 → q < 64 → row (closure direct) r q ≡ true → Reaches direct r q
  unfolding closure first
  closure_reaches r q lr lq h =
      least first (Reaches direct) (λ r p q. reaches_through)
      (λ r q lr lq e. with_elim (get_or direct r 0) r q lq (sym (first_row r q lr) ∙ e)
      (λ z. subst (Reaches direct r) (sym z) here)
      (λ d. link lq d here))
      64 (omega arith) r q lr lq h

  pub reaches_closure : (r q : ℕ) → r < 64 → q < 64 → Reaches direct r q → row (closure direct) r q ≡ true
  reaches_closure r q lr lq here = closure_reflexive r lr
  reaches_closure r q lr lq (link {p = p} l e a) =
      closure_transitive r p q lr l lq (closure_direct r p lr l e) (reaches_closure p q l lq a)

-- ---- as the code goes about it

-- row r once k was gone through
abbrev pub passed : List ℕ → ℕ → ℕ → ℕ
passed rows k r = when has (get_or rows r 0) k then join (get_or rows r 0) (get_or rows k 0) else get_or rows r 0

-- one role more
pub through_more : {rows rows' : List ℕ} (first : List ℕ) (k : ℕ) → rows ≡ through k first → rows' ≡ via k rows → rows' ≡ through (k + 1) first
unfolding through
through_more first k e d = d ∙ ap (via k) e ∙ sym (ap (λ (n : ℕ). through n first) (add-one k))

pub through_none : (rows : List ℕ) → rows ≡ through 0 rows
unfolding through
through_none rows = refl

pub closed : {rows : List ℕ} (direct : List ℕ) (k : ℕ) → rows ≡ through k (tabulate 64 (λ r. get_or direct r 0 with r)) → k ≡ 64 → rows ≡ closure direct
unfolding closure
closed direct k e n = e ∙ ap (λ (i : ℕ). through i (tabulate 64 (λ r. get_or direct r 0 with r))) n

pub closure_length : (direct : List ℕ) → length (closure direct) ≡ 64
unfolding closure through via
closure_length direct = length_tabulate 64 _

-- a role without juniors hands nothing on
pub via_none : (k : ℕ) (rows : List ℕ) → length rows ≡ 64 → ((r : ℕ) → get_or rows r 0 < 2 ^ 64) → get_or rows k 0 without k ≡ 0 → rows ≡ via k rows
unfolding via
via_none k rows e w z =
    ext_get_or 0 rows _ (e ∙ sym (length_tabulate 64 _)) (λ r h.
    sym (get_d_tabulate 64 (passed rows k) 0 r (let l = e in omega arith) ∙ by_truth (row rows r k)
    (λ a. if_true _ _ a ∙ same_members (join (get_or rows r 0) (get_or rows k 0)) (get_or rows r 0) (join_lt _ _) (w r) (λ q hq. has_join _ _ q hq ∙ nothing r q a hq))
    (λ a. if_false _ _ a)))
  where
    nothing : (r q : ℕ) → row rows r k ≡ true → q < 64 → row rows r q or row rows k q ≡ row rows r q
    nothing r q a hq =
        by_truth (eqb q k)
        (λ b. let d = ap (row rows r) (eqb-true q k b) ∙ a in or_left _ d ∙ sym d)
        (λ b. or_false _ (is_false (λ m. not_empty _ q (without_keeps (get_or rows k 0) k q hq (eqb-false q k b) m) z)))

-- its rows are words
through_word : (rows : List ℕ) → ((r : ℕ) → r < 64 → get_or rows r 0 < 2 ^ 64) → (k r : ℕ) → r < 64 → get_or (through k rows) r 0 < 2 ^ 64
unfolding through via
through_word rows w zero r h = w r h
through_word rows w (suc k) r h =
    subst (λ (n : ℕ). n < 2 ^ 64) (sym (get_d_tabulate 64 (passed (through k rows) k) 0 r h)) (by_truth (row (through k rows) r k)
    (λ e. subst (λ (n : ℕ). n < 2 ^ 64) (sym (if_true _ _ e)) (join_lt _ _))
    (λ e. subst (λ (n : ℕ). n < 2 ^ 64) (sym (if_false _ _ e)) (through_word rows w k r h)))

pub closure_word : (direct : List ℕ) (r : ℕ) → r < 64 → get_or (closure direct) r 0 < 2 ^ 64
unfolding closure
closure_word direct r h =
    through_word _ (λ q l. subst (λ (n : ℕ). n < 2 ^ 64) (sym (get_d_tabulate 64 (λ p. get_or direct p 0 with p) 0 q l)) (with_lt _ _)) 64 r h

-- own bits among the direct juniors do not matter
pub closure_own : (direct : List ℕ) → closure (tabulate 64 (λ r. get_or direct r 0 without r)) ≡ closure direct
unfolding closure
closure_own direct =
    ap (through 64) (tabulate_cong 64 (λ r h.
    ap (λ (w : ℕ). w with r) (get_d_tabulate 64 (λ p. get_or direct p 0 without p) 0 r h) ∙ without_with (get_or direct r 0) r))
