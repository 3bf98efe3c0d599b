-- Codes and arguments: what a code from 1 to 14 decodes to, with arguments in range. Assumes nothing.
use Prim.Native.Nat.{ℕ, zero, suc, ◌+◌, ◌≤◌, ◌<◌, suc-le-suc}
use mathlib.Core.Path.{◌≡◌, sym, subst, ◌∙◌}
use mathlib.Core.Bool.{true, false}
use mathlib.Core.List.{List}
use native.Mathlib.Omega.{arith}
use lib.Arith.{lt_of_le-ne}
use lib.Dec.{eqb}
use lib.ListN.{get_or}
use borrow.Author.Tests.{eqb-true, eqb-false, eq-eqb, ne_eqb, leb-true, le-leb}
use Rattle.bits.proofs.Truth.{by_truth, is_false, and_intro, and_left, and_right, true_and, false_and, or_left, or_right, false_or}
use Rattle.table.specs.Separation.{bad_pair, GoodPair}
use Rattle.table.proofs.Separation.{good_elim}
use Rattle.requests.specs.Request.{Ask, ask, within}
use Rattle.requests.proofs.Arguments.{within_elim}
use Rattle.rbac.specs.Roles.{Request, opens, closes, starts, ends, activates, drops, assigns, deassigns, grants, revokes, separates, links, unlinks, is_code, limits, in_range, carries_bad_pair, decode}
use Rattle.rbac.specs.Served.{Ranged}

-- ---- the code

-- a code is none of the n codes after k, as the last arm of a match finds it
unfoldable pub NoneOf : ℕ → ℕ → ℕ → Type 0
NoneOf k zero code = Unit
NoneOf k (suc n) code = NoneOf k n code × (code ≡ suc (k + n) → ⊥)

-- from those on it is above them
above : (k n : ℕ) {code : ℕ} → k < code → NoneOf k n code → k + n < code
unfolding NoneOf
above k zero l none = omega arith
above k (suc n) l none =
    let h : suc (k + n) < _ = lt_of_le-ne (above k n l none.0) (λ e. none.1 (sym e)) in omega arith

-- of these codes there is none left
pub none_left : (k n : ℕ) {code : ℕ} → NoneOf k n code → (k < code) × (code ≤ k + n) → ⊥
none_left k n none c = let h = above k n c.0 none in omega arith

-- the code after k, and those above it
pub next_code : {code : ℕ} (P : ℕ → Type 0) (k : ℕ) → P (suc k) → (suc k < code → P code) → k < code → P code
next_code {code} P k p f l =
    by_truth (eqb code (suc k))
    (λ e. subst P (sym (eqb-true code (suc k) e)) p)
    (λ e. let d = eqb-false code (suc k) e in f (omega arith))

module _ (q : Ask) where
  pub is_code_lem : 1 ≤ q.code → q.code ≤ 14 → is_code q ≡ true
  unfolding is_code
  is_code_lem l h = and_intro (le-leb 1 q.code l) (le-leb q.code 14 h)

  pub is_code_elim : is_code q ≡ true → (1 ≤ q.code) × (q.code ≤ 14)
  unfolding is_code
  is_code_elim e = (leb-true 1 q.code (and_left _ _ e), leb-true q.code 14 (and_right _ _ e))

  pub code_below : q.code < 1 → is_code q ≡ false
  code_below l = is_false (λ e. let k = (is_code_elim e).0 in omega arith)

  pub code_above : 14 < q.code → is_code q ≡ false
  code_above l = is_false (λ e. let k = (is_code_elim e).1 in omega arith)

  -- only codes 11 and 12 carry a pair
  pub no_pair : q.code ≤ 10 → carries_bad_pair q ≡ false
  unfolding carries_bad_pair
  no_pair h = false_and _ (false_or _ (ne_eqb q.code 11 (λ e. omega arith)) ∙ ne_eqb q.code 12 (λ e. omega arith))

  pub no_pair_past : 13 ≤ q.code → carries_bad_pair q ≡ false
  unfolding carries_bad_pair
  no_pair_past h = false_and _ (false_or _ (ne_eqb q.code 11 (λ e. omega arith)) ∙ ne_eqb q.code 12 (λ e. omega arith))

  pub pair_carried : 11 ≤ q.code → q.code ≤ 12 → carries_bad_pair q ≡ bad_pair q.b q.c
  unfolding carries_bad_pair
  pair_carried l h =
      true_and _ (by_truth (eqb q.code 11) (or_left _) (λ e. let d = eqb-false q.code 11 e in or_right _ (eq-eqb q.code 12 (omega arith))))

-- ---- the arguments

module _ (a b c : ℕ) where
  one : (code : ℕ) (largest : List ℕ) → within largest (ask code a b c) ≡ true → a < suc (get_or largest 0 0)
  one code largest e = suc-le-suc (within_elim code a b c largest e).first

  two : (code : ℕ) (largest : List ℕ) → within largest (ask code a b c) ≡ true → (a < suc (get_or largest 0 0)) × (b < suc (get_or largest 1 0))
  two code largest e = (one code largest e, suc-le-suc (within_elim code a b c largest e).second)

  three : (code : ℕ) (largest : List ℕ) → within largest (ask code a b c) ≡ true
      → (a < suc (get_or largest 0 0)) × (b < suc (get_or largest 1 0)) × (c < suc (get_or largest 2 0))
  three code largest e = let w = within_elim code a b c largest e in (suc-le-suc w.first, suc-le-suc w.second, suc-le-suc w.third)

-- what a request that passed refusals 16 and 21 names is there
pub ranged : (code a b c : ℕ) → 1 ≤ code → code ≤ 14 → in_range (ask code a b c) ≡ true → carries_bad_pair (ask code a b c) ≡ false
    → Ranged (decode (ask code a b c))
unfolding in_range limits decode
ranged code a b c l h =
    next_code P 0 (λ e g. three a b c 1 _ e)
    (next_code P 1 (λ e g. three a b c 2 _ e)
    (next_code P 2 (λ e g. two a b c 3 _ e)
    (next_code P 3 (λ e g. one a b c 4 _ e)
    (next_code P 4 (λ e g. two a b c 5 _ e)
    (next_code P 5 (λ e g. two a b c 6 _ e)
    (next_code P 6 (λ e g. two a b c 7 _ e)
    (next_code P 7 (λ e g. two a b c 8 _ e)
    (next_code P 8 (λ e g. three a b c 9 _ e)
    (next_code P 9 (λ e g. three a b c 10 _ e)
    (next_code P 10 (λ e g. (let k = one a b c 11 _ e in omega arith, good 11 (omega arith) (omega arith) g))
    (next_code P 11 (λ e g. (let k = one a b c 12 _ e in omega arith, good 12 (omega arith) (omega arith) g))
    (next_code P 12 (λ e g. two a b c 13 _ e)
    (next_code P 13 (λ e g. two a b c 14 _ e)
    (λ m. absurd (omega arith))))))))))))))) l
  where
    P : ℕ → Type 0
    P k = in_range (ask k a b c) ≡ true → carries_bad_pair (ask k a b c) ≡ false → Ranged (decode (ask k a b c))

    good : (k : ℕ) → 11 ≤ k → k ≤ 12 → carries_bad_pair (ask k a b c) ≡ false → GoodPair b c
    good k l h g = good_elim b c (sym (pair_carried (ask k a b c) l h) ∙ g)

-- ---- the request of each code

-- what is asked is this request, and no pair of error 21
pub record Asks (p : Ask) (q : Request) : Type 0 where
  pub request : decode p ≡ q
  pub pair : carries_bad_pair p ≡ false

module _ {code : ℕ} (a b c : ℕ) where
  pub open_code : code ≡ 1 → Asks (ask code a b c) (opens a b c)
  unfolding decode
  open_code e = record { request = rw e; pair = no_pair _ (omega arith) }

  pub close_code : code ≡ 2 → Asks (ask code a b c) (closes a b c)
  unfolding decode
  close_code e = record { request = rw e; pair = no_pair _ (omega arith) }

  pub start_code : code ≡ 3 → Asks (ask code a b c) (starts a b c)
  unfolding decode
  start_code e = record { request = rw e; pair = no_pair _ (omega arith) }

  pub end_code : code ≡ 4 → Asks (ask code a b c) (ends a)
  unfolding decode
  end_code e = record { request = rw e; pair = no_pair _ (omega arith) }

  pub activate_code : code ≡ 5 → Asks (ask code a b c) (activates a b)
  unfolding decode
  activate_code e = record { request = rw e; pair = no_pair _ (omega arith) }

  pub drop_code : code ≡ 6 → Asks (ask code a b c) (drops a b)
  unfolding decode
  drop_code e = record { request = rw e; pair = no_pair _ (omega arith) }

  pub assign_code : code ≡ 7 → Asks (ask code a b c) (assigns a b)
  unfolding decode
  assign_code e = record { request = rw e; pair = no_pair _ (omega arith) }

  pub deassign_code : code ≡ 8 → Asks (ask code a b c) (deassigns a b)
  unfolding decode
  deassign_code e = record { request = rw e; pair = no_pair _ (omega arith) }

  pub grant_code : code ≡ 9 → Asks (ask code a b c) (grants a b c)
  unfolding decode
  grant_code e = record { request = rw e; pair = no_pair _ (omega arith) }

  pub revoke_code : code ≡ 10 → Asks (ask code a b c) (revokes a b c)
  unfolding decode
  revoke_code e = record { request = rw e; pair = no_pair _ (omega arith) }

  pub static_code : code ≡ 11 → bad_pair b c ≡ false → Asks (ask code a b c) (separates a b c)
  unfolding decode
  static_code e n = record { request = rw e; pair = pair_carried _ (omega arith) (omega arith) ∙ n }

  pub dynamic_code : code ≡ 12 → bad_pair b c ≡ false → Asks (ask code a b c) (separates (16 + a) b c)
  unfolding decode
  dynamic_code e n = record { request = rw e; pair = pair_carried _ (omega arith) (omega arith) ∙ n }

  pub link_code : code ≡ 13 → Asks (ask code a b c) (links a b)
  unfolding decode
  link_code e = record { request = rw e; pair = no_pair_past _ (omega arith) }

  pub unlink_code : code ≡ 14 → Asks (ask code a b c) (unlinks a b)
  unfolding decode
  unlink_code e = record { request = rw e; pair = no_pair_past _ (omega arith) }
