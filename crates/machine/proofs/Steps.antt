-- What a request on the machine comes to, case by case. Assumes nothing.
use Prim.Native.Nat.{ℕ, zero, suc, ◌≤◌, ◌<◌, suc-le-suc}
use mathlib.Core.Path.{◌≡◌, refl, sym, ap, ◌∙◌}
use mathlib.Core.Bool.{true, false, not}
use native.Mathlib.Nat.{le_of_suc-le-suc}
use native.Mathlib.Omega.{arith}
use lib.Dec.{eqb}
use borrow.Author.Tests.{leb-true}
use Rattle.bits.specs.Words.{◌and◌, when◌then◌else◌, all}
use Rattle.bits.proofs.Truth.{by_truth, and_intro, and_left, and_right, past, stopped}
use Rattle.requests.specs.Request.{Ask, ask, Outcome, refuse, decide}
use Rattle.requests.proofs.Outcome.{decide_yes, decide_no}
use Rattle.requests.proofs.Arguments.{within_elim, within_intro}
use Rattle.machine.proofs.Order.{dominates}
use Rattle.machine.specs.Machine.{Machine, idle, at, is_idle, may_open, fits, with_seat, with_openings, with_held, with_clearance, Request, opening, closing, starting, ending, reclearing, is_code, limits, in_range, decode, allowed, next, figure, act, step}

-- ---- codes and arguments

-- the request that a code from 1 to 5 stands for, with arguments in range
pub data Decoded (q : Ask) : Request → Type 0 where
  is_opening : q.code ≡ 1 → q.a < 32 → q.b < 64 → q.c < 2 → Decoded q (opening q.a q.b q.c)
  is_closing : q.code ≡ 2 → q.a < 32 → q.b < 64 → q.c < 2 → Decoded q (closing q.a q.b q.c)
  is_starting : q.code ≡ 3 → q.a < 32 → q.b < 64 → q.c < 32 → Decoded q (starting q.a q.b q.c)
  is_ending : q.code ≡ 4 → q.a < 32 → q.b ≡ 0 → q.c ≡ 0 → Decoded q (ending q.a)
  is_reclearing : q.code ≡ 5 → q.a < 64 → q.b < 32 → q.c ≡ 0 → Decoded q (reclearing q.a q.b)

pub code_elim : (q : Ask) → is_code q ≡ true → (1 ≤ q.code) × (q.code ≤ 5)
unfolding is_code
code_elim q e = (leb-true 1 q.code (and_left _ _ e), leb-true q.code 5 (and_right _ _ e))

by_number : (code a b c : ℕ) → 1 ≤ code → code ≤ 5 → in_range (ask code a b c) ≡ true → Decoded (ask code a b c) (decode (ask code a b c))
unfolding in_range limits decode
by_number zero a b c l h e = absurd (omega arith)
by_number (suc zero) a b c l h e =
    let w = within_elim _ a b c _ e in is_opening refl (suc-le-suc w.first) (suc-le-suc w.second) (suc-le-suc w.third)
by_number (suc (suc zero)) a b c l h e =
    let w = within_elim _ a b c _ e in is_closing refl (suc-le-suc w.first) (suc-le-suc w.second) (suc-le-suc w.third)
by_number (suc (suc (suc zero))) a b c l h e =
    let w = within_elim _ a b c _ e in is_starting refl (suc-le-suc w.first) (suc-le-suc w.second) (suc-le-suc w.third)
by_number (suc (suc (suc (suc zero)))) a b c l h e =
    let w = within_elim _ a b c _ e in
    let k = w.second in
    let j = w.third in
    is_ending refl (suc-le-suc w.first) (omega arith) (omega arith)
by_number (suc (suc (suc (suc (suc zero))))) a b c l h e =
    let w = within_elim _ a b c _ e in
    let j = w.third in
    is_reclearing refl (suc-le-suc w.first) (suc-le-suc w.second) (omega arith)
by_number (suc (suc (suc (suc (suc (suc k)))))) a b c l h e = absurd (omega arith)

pub decoded : (q : Ask) → is_code q ≡ true → in_range q ≡ true → Decoded q (decode q)
decoded q c r = let k = code_elim q c in by_number q.code q.a q.b q.c k.0 k.1 r

-- ---- the step

module _ (m : Machine) (q : Ask) where
  pub step_code : is_code q ≡ false → step m q ≡ refuse 15 m
  unfolding step
  step_code e = stopped _ _ e

  pub step_argument : is_code q ≡ true → in_range q ≡ false → step m q ≡ refuse 16 m
  unfolding step
  step_argument c e = past _ _ c ∙ stopped _ _ e

  pub step_act : is_code q ≡ true → in_range q ≡ true
      → step m q ≡ decide (allowed m (decode q)) (figure m (decode q) true) (figure m (decode q) false) (next m (decode q)) m
  unfolding step act
  step_act c e = past _ _ c ∙ past _ _ e

  pub step_does : is_code q ≡ true → in_range q ≡ true → step m q ≡ act m (decode q)
  unfolding step
  step_does c e = past _ _ c ∙ past _ _ e

-- the state stays after a no or a refusal; after a yes it is the next one
pub data Case (m : Machine) (q : Ask) (o : Outcome Machine) : Type 0 where
  stays : (o.answer ≡ 1 → ⊥) → o.state ≡ m → Case m q o
  goes : {r : Request} → Decoded q r → allowed m r ≡ true → o.answer ≡ 1 → o.state ≡ next m r → Case m q o

pub cases : (m : Machine) (q : Ask) → Case m q (step m q)
cases m q =
    by_truth (is_code q)
    (λ c. by_truth (in_range q)
    (λ r. by_truth (allowed m (decode q))
    (λ a. let e = step_act m q c r ∙ decide_yes _ _ _ m a in goes (decoded q c r) a (ap (λ (o : Outcome Machine). o.answer) e) (ap (λ (o : Outcome Machine). o.state) e))
    (λ a. left 0 _ (omega arith) (step_act m q c r ∙ decide_no _ _ _ m a)))
    (λ r. left 16 0 (omega arith) (step_argument m q c r)))
    (λ c. left 15 0 (omega arith) (step_code m q c))
  where
    left : (n f : ℕ) → (n ≡ 1 → ⊥) → step m q ≡ record { answer = n; spent = f; state = m } → Case m q (step m q)
    left n f k e = stays (λ z. k (sym (ap (λ (o : Outcome Machine). o.answer) e) ∙ z)) (ap (λ (o : Outcome Machine). o.state) e)

-- ---- as code finds them

module _ (a b c : ℕ) where
  pub opening_code : {code : ℕ} → code ≡ 1 → decode (ask code a b c) ≡ opening a b c
  unfolding decode
  opening_code e = rw e

  pub closing_code : {code : ℕ} → code ≡ 2 → decode (ask code a b c) ≡ closing a b c
  unfolding decode
  closing_code e = rw e

  pub starting_code : {code : ℕ} → code ≡ 3 → decode (ask code a b c) ≡ starting a b c
  unfolding decode
  starting_code e = rw e

  pub ending_code : {code : ℕ} → code ≡ 4 → decode (ask code a b c) ≡ ending a
  unfolding decode
  ending_code e = rw e

  pub reclearing_code : {code : ℕ} → code ≡ 5 → decode (ask code a b c) ≡ reclearing a b
  unfolding decode
  reclearing_code e = rw e

-- the level of a start and the user of a reclear are there
level_below : {q : Ask} {r : Request} → Decoded q r → q.code ≡ 3 → q.c < 32
level_below (is_opening d i j k) e = absurd (omega arith)
level_below (is_closing d i j k) e = absurd (omega arith)
level_below (is_starting d i j k) e = k
level_below (is_ending d i j k) e = absurd (omega arith)
level_below (is_reclearing d i j k) e = absurd (omega arith)

user_below : {q : Ask} {r : Request} → Decoded q r → q.code ≡ 5 → q.a < 64
user_below (is_opening d i j k) e = absurd (omega arith)
user_below (is_closing d i j k) e = absurd (omega arith)
user_below (is_starting d i j k) e = absurd (omega arith)
user_below (is_ending d i j k) e = absurd (omega arith)
user_below (is_reclearing d i j k) e = i

module _ (code a b c : ℕ) (l : 1 ≤ code) (h : code ≤ 5) (r : in_range (ask code a b c) ≡ true) where
  pub start_level : code ≡ 3 → c < 32
  start_level e = level_below (by_number code a b c l h r) e

  pub reclear_user : code ≡ 5 → a < 64
  reclear_user e = user_below (by_number code a b c l h r) e

-- a code that is none of the first four is the fifth
pub fifth : {code : ℕ} → 1 ≤ code → code ≤ 5 → (code ≡ 1 → ⊥) → (code ≡ 2 → ⊥) → (code ≡ 3 → ⊥) → (code ≡ 4 → ⊥) → code ≡ 5
fifth l h n1 n2 n3 n4 = omega arith

-- ---- each request, in the terms of the state alone

module _ (m : Machine) where
  pub act_opening : (s o x : ℕ) → act m (opening s o x) ≡ decide (may_open (m.seat s) (m.label o) x) 1 1 (with_held m s o x true) m
  unfolding act allowed figure next
  act_opening s o x = refl

  pub act_closing : (s o x : ℕ) → act m (closing s o x) ≡ decide true 1 1 (with_held m s o x false) m
  unfolding act allowed figure next
  act_closing s o x = refl

  pub act_starting : (s u y : ℕ)
      → act m (starting s u y) ≡ decide (is_idle (m.seat s) and dominates (m.clearance u) y) 1 1 (with_seat m s (at u y)) m
  unfolding act allowed figure next
  act_starting s u y = refl

  pub act_ending : (s : ℕ) → act m (ending s) ≡ decide (not (is_idle (m.seat s))) 1 1 (with_openings (with_seat m s idle) s (λ o x. false)) m
  unfolding act allowed figure next
  act_ending s = refl

  pub act_reclearing : (u c : ℕ)
      → act m (reclearing u c)
      ≡ decide (all 32 (λ s. fits u c (m.seat s))) (when eqb (m.clearance u) c then 0 else 2) (when eqb (m.clearance u) c then 0 else 3)
      (with_clearance m u c) m
  unfolding act allowed figure next when◌then◌else◌
  act_reclearing u c = refl

-- ---- a yes, as it is asked for

module _ (m : Machine) (s : ℕ) (hs : s < 32) where
  pub opens : (o x : ℕ) → o < 64 → x < 2 → may_open (m.seat s) (m.label o) x ≡ true → (step m (ask 1 s o x)).state ≡ with_held m s o x true
  unfolding is_code in_range limits decode ◌and◌
  opens o x ho hx a =
      ap (λ (r : Outcome Machine). r.state)
      (step_does m (ask 1 s o x) refl (within_intro _ 1 s o x (le_of_suc-le-suc hs) (le_of_suc-le-suc ho) (le_of_suc-le-suc hx))
      ∙ act_opening m s o x
      ∙ decide_yes 1 1 (with_held m s o x true) m a)

  pub starts : (u y : ℕ) → u < 64 → y < 32 → is_idle (m.seat s) ≡ true → dominates (m.clearance u) y ≡ true
      → (step m (ask 3 s u y)).state ≡ with_seat m s (at u y)
  unfolding is_code in_range limits decode ◌and◌
  starts u y hu hy i d =
      ap (λ (r : Outcome Machine). r.state)
      (step_does m (ask 3 s u y) refl (within_intro _ 3 s u y (le_of_suc-le-suc hs) (le_of_suc-le-suc hu) (le_of_suc-le-suc hy))
      ∙ act_starting m s u y
      ∙ decide_yes _ _ (with_seat m s (at u y)) m (and_intro i d))
