-- The wall: along the traces of the machine no column is carried into one whose label does not dominate the first. Assumes
-- nothing.
use Prim.Native.Nat.{ℕ}
use mathlib.Core.Path.{◌≡◌, refl, sym, ap, subst, ◌∙◌}
use mathlib.Core.Bool.{Bool, true, false}
use mathlib.Core.List.Memᴰ
use mathlib.Core.List.{List, [], ◌∷◌, Memᴰ}
use native.Mathlib.Omega.{arith}
use lib.Dec.{eqb}
use borrow.Author.Tests.{eq-eqb, eqb-true}
use Rattle.bits.specs.Words.{◌and◌, when◌then◌else◌}
use Rattle.bits.proofs.Truth.{clash, and_intro, and_left, and_right}
use Rattle.bits.proofs.Upd.{upd_same, upd_other}
use Rattle.requests.specs.Request.{Ask, Outcome}
use Rattle.machine.specs.Machine.{Machine, idle, at, is_idle, may_open, Request, opening, closing, starting, ending, reclearing, allowed, next, step}
use Rattle.machine.specs.Wall.{Event, trace, yes_to, up_to_end, lives, opened, same, through}
use Rattle.machine.specs.Claims.{Walled}
use Rattle.machine.proofs.Order.{dominates_refl, dominates_trans}
use Rattle.machine.proofs.Tracing.{event}
use Rattle.machine.proofs.Steps.{is_opening, is_closing, is_starting, is_ending, is_reclearing, Case, stays, goes, cases}

-- ---- one request

-- labels are fixed
label_next : (m : Machine) (r : Request) → (next m r).label ≡ m.label
unfolding next
label_next m (opening s o x) = refl
label_next m (closing s o x) = refl
label_next m (starting s u y) = refl
label_next m (ending s) = refl
label_next m (reclearing u c) = refl

module _ (m : Machine) (q : Ask) where
  label_fixed : {o : Outcome Machine} → Case m q o → o.state.label ≡ m.label
  label_fixed (stays n e) = ap (λ (k : Machine). k.label) e
  label_fixed (goes {r} d a y e) = ap (λ (k : Machine). k.label) e ∙ label_next m r

  -- a yes to an opening says what the rule says
  open_yes : {o : Outcome Machine} → Case m q o → q.code ≡ 1 → o.answer ≡ 1 → may_open (m.seat q.a) (m.label q.b) q.c ≡ true
  unfolding allowed
  open_yes (stays n e) c y = absurd (n y)
  open_yes (goes (is_opening d i j k) a y e) c z = a
  open_yes (goes (is_closing d i j k) a y e) c z = absurd (omega arith)
  open_yes (goes (is_starting d i j k) a y e) c z = absurd (omega arith)
  open_yes (goes (is_ending d i j k) a y e) c z = absurd (omega arith)
  open_yes (goes (is_reclearing d i j k) a y e) c z = absurd (omega arith)

  -- after a yes to a start the session has its user and level
  start_yes : {o : Outcome Machine} → Case m q o → q.code ≡ 3 → o.answer ≡ 1 → o.state.seat q.a ≡ at q.b q.c
  unfolding next
  start_yes (stays n e) c y = absurd (n y)
  start_yes (goes (is_opening d i j k) a y e) c z = absurd (omega arith)
  start_yes (goes (is_closing d i j k) a y e) c z = absurd (omega arith)
  start_yes (goes (is_starting d i j k) a y e) c z = ap (λ (n : Machine). n.seat q.a) e ∙ upd_same m.seat q.a (at q.b q.c)
  start_yes (goes (is_ending d i j k) a y e) c z = absurd (omega arith)
  start_yes (goes (is_reclearing d i j k) a y e) c z = absurd (omega arith)

  -- a session keeps its user and level until an end of it answered yes
  keeps : (s u y : ℕ) {o : Outcome Machine} → Case m q o → m.seat s ≡ at u y
      → (q.code ≡ 4 → q.a ≡ s → o.answer ≡ 1 → ⊥) → o.state.seat s ≡ at u y
  unfolding next allowed is_idle
  keeps s u y (stays n e) b not_ended = ap (λ (k : Machine). k.seat s) e ∙ b
  keeps s u y (goes (is_opening d i j k) a z e) b not_ended = ap (λ (n : Machine). n.seat s) e ∙ b
  keeps s u y (goes (is_closing d i j k) a z e) b not_ended = ap (λ (n : Machine). n.seat s) e ∙ b
  keeps s u y (goes (is_starting d i j k) a z e) b not_ended =
      ap (λ (n : Machine). n.seat s) e
      ∙ upd_other m.seat q.a (at q.b q.c) s (λ p. clash (and_left _ _ a) (ap is_idle (ap m.seat (sym p) ∙ b)))
      ∙ b
  keeps s u y (goes (is_ending d i j k) a z e) b not_ended =
      ap (λ (n : Machine). n.seat s) e ∙ upd_other m.seat q.a idle s (λ p. not_ended d (sym p) z) ∙ b
  keeps s u y (goes (is_reclearing d i j k) a z e) b not_ended = ap (λ (n : Machine). n.seat s) e ∙ b

-- ---- one life

not_ended : (s : ℕ) (e : Event) → yes_to 4 s e ≡ false → e.asked.code ≡ 4 → e.asked.a ≡ s → e.answer ≡ 1 → ⊥
unfolding yes_to
not_ended s e h p q r = clash (and_intro (eq-eqb _ _ p) (and_intro (eq-eqb _ _ q) (eq-eqb _ _ r))) h

opens_here : (m : Machine) (q : Ask) (s u y o x n : ℕ) → m.seat s ≡ at u y → opened s o x n ≡ event q (step m q)
    → may_open (at u y) (m.label o) x ≡ true
opens_here m q s u y o x n e p =
    let c : 1 ≡ q.code = ap (λ (v : Event). v.asked.code) p in
    let a : s ≡ q.a = ap (λ (v : Event). v.asked.a) p in
    let b : o ≡ q.b = ap (λ (v : Event). v.asked.b) p in
    let d : x ≡ q.c = ap (λ (v : Event). v.asked.c) p in
    let z : 1 ≡ (step m q).answer = ap (λ (v : Event). v.answer) p in
    rw (← e, a, b, d) (open_yes m q (cases m q) (sym c) (sym z))

-- what a life opens fits its level
in_life : (s u y o x n : ℕ) (m : Machine) (qs : List Ask) → m.seat s ≡ at u y
    → Memᴰ (opened s o x n) (up_to_end s (trace step m qs)) → may_open (at u y) (m.label o) x ≡ true
unfolding up_to_end trace when◌then◌else◌
in_life s u y o x n m [] e h = absurd (Memᴰ.not-nil h)
in_life s u y o x n m (q ∷ qs) e h = go (λ e'. in_life s u y o x n (step m q).state qs e') (yes_to 4 s (event q (step m q))) refl h
  where
    rest : List Event
    rest = up_to_end s (trace step (step m q).state qs)

    go : ((step m q).state.seat s ≡ at u y → Memᴰ (opened s o x n) rest → may_open (at u y) ((step m q).state.label o) x ≡ true)
        → (b : Bool) → yes_to 4 s (event q (step m q)) ≡ b → Memᴰ (opened s o x n) (when b then [] else event q (step m q) ∷ rest)
        → may_open (at u y) (m.label o) x ≡ true
    go below true b k = absurd (Memᴰ.not-nil k)
    go below false b (Memᴰ.head p) = opens_here m q s u y o x n e p
    go below false b (Memᴰ.tail k) =
        rw (label_fixed m q (cases m q)) at (below (keeps m q s u y (cases m q) e (not_ended s (event q (step m q)) b)) k)

-- a life has one user and level that all it opens fits
record Level (label : ℕ → ℕ) (s : ℕ) (life : List Event) : Type 0 where
  user : ℕ
  level : ℕ
  fitting : (o x n : ℕ) → Memᴰ (opened s o x n) life → may_open (at user level) (label o) x ≡ true

started : (s : ℕ) (m : Machine) (q : Ask) → yes_to 3 s (event q (step m q)) ≡ true → (step m q).state.seat s ≡ at q.b q.c
unfolding yes_to
started s m q h =
    let k : eqb q.a s and eqb (step m q).answer 1 ≡ true = and_right _ _ h in
    let a : q.a ≡ s = eqb-true _ _ (and_left _ _ k) in
    rw (← a) (start_yes m q (cases m q) (eqb-true _ _ (and_left _ _ h)) (eqb-true _ _ (and_right _ _ k)))

life_level : (s : ℕ) (m : Machine) (qs : List Ask) (life : List Event) → Memᴰ life (lives s (trace step m qs)) → Level m.label s life
unfolding lives trace when◌then◌else◌
life_level s m [] life h = absurd (Memᴰ.not-nil h)
life_level s m (q ∷ qs) life h =
    rw (label_fixed m q (cases m q)) at (go (life_level s (step m q).state qs life) (yes_to 3 s (event q (step m q))) refl h)
  where
    after : Machine
    after = (step m q).state

    es : List Event
    es = trace step after qs

    go : (Memᴰ life (lives s es) → Level after.label s life)
        → (b : Bool) → yes_to 3 s (event q (step m q)) ≡ b → Memᴰ life (when b then up_to_end s es ∷ lives s es else lives s es)
        → Level after.label s life
    go below true b (Memᴰ.head p) = record {
      user = q.b;
      level = q.c;
      fitting = λ o x n k. in_life s q.b q.c o x n after qs (started s m q b) (subst (Memᴰ (opened s o x n)) p k);
    }
    go below true b (Memᴰ.tail k) = below k
    go below false b k = below k

-- ---- the chain

pub walled : Walled
unfolding may_open when◌then◌else◌
walled m qs c d same = dominates_refl (m.label c)
walled m qs c d (through {e = e} {i = i} {j = j} h s life k r w) =
    let l = life_level s m qs life k in
    dominates_trans (m.label d) l.level (m.label c) (l.fitting d 1 j w)
    (dominates_trans l.level (m.label e) (m.label c) (l.fitting e 0 i r) (walled m qs c e h))
