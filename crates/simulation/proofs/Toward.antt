-- States on the way from the start of the machine to a given one. Assumes nothing.
use Prim.Native.Nat.{ℕ, zero, suc, ◌<◌}
use mathlib.Core.Path.{◌≡◌, sym, ap, subst, ◌∙◌}
use mathlib.Core.Bool.{true}
use mathlib.Core.List.{List, [], ◌∷◌, ◌++◌}
use native.Mathlib.Omega.{arith}
use lib.Dec.{eqb}
use borrow.Author.Tests.{eqb-true, eqb-false}
use Rattle.bits.proofs.Truth.{by_truth}
use Rattle.bits.specs.Words.{tabulate}
use Rattle.requests.specs.Request.{Ask}
use Rattle.machine.specs.Machine.{Machine, idle, step, begin}
use Rattle.machine.specs.Wall.{final}
use Rattle.machine.proofs.Tracing.{final_last}
use Rattle.simulation.proofs.Simulation.{Good, next_good}

module _ (m : Machine) where
  abbrev pub clearances : List ℕ
  clearances = tabulate 64 m.clearance

  abbrev pub labels : List ℕ
  labels = tabulate 64 m.label

  -- a state on the way to m: no session has another seat or other openings
  pub record Toward (n : Machine) : Type 0 where
    pub requests : List Ask
    pub reached : final step (begin clearances labels) requests ≡ n
    pub good : Good n
    pub same_clearances : (u : ℕ) → u < 64 → n.clearance u ≡ m.clearance u
    pub same_labels : (o : ℕ) → o < 64 → n.label o ≡ m.label o
    pub seats : (s : ℕ) → s < 32 → (n.seat s ≡ idle → ⊥) → n.seat s ≡ m.seat s
    pub openings : (s o x : ℕ) → s < 32 → o < 64 → x < 2 → n.held s o x ≡ true → m.held s o x ≡ true

  -- what a has of m is there in b
  pub record Kept (a b : Machine) : Type 0 where
    pub seats : (s : ℕ) → s < 32 → a.seat s ≡ m.seat s → b.seat s ≡ m.seat s
    pub openings : (s o x : ℕ) → s < 32 → o < 64 → x < 2 → a.held s o x ≡ true → b.held s o x ≡ true

  -- from n on, a state of which C holds
  pub record Further (n : Machine) (C : Machine → Type 0) : Type 0 where
    pub next : Machine
    pub toward : Toward next
    pub kept : Kept n next
    pub has : C next

  pub stay : {C : Machine → Type 0} {n : Machine} → Toward n → C n → Further n C
  stay {C} {n} t c = record { next = n; toward = t; kept = record { seats = λ s h e. e; openings = λ s o x hs ho hx e. e }; has = c }

  pub through : {a b c : Machine} → Kept a b → Kept b c → Kept a c
  through k l = record {
    seats = λ s h e. l.seats s h (k.seats s h e);
    openings = λ s o x hs ho hx e. l.openings s o x hs ho hx (k.openings s o x hs ho hx e);
  }

  -- what can be had of each number below top, and is kept, can be had of all
  pub sweep : (C : ℕ → Machine → Type 0) (top : ℕ) → ((i : ℕ) → i < top → (a b : Machine) → Kept a b → C i a → C i b)
      → (base : Machine) → ((i : ℕ) → i < top → (n : Machine) → Toward n → Kept base n → Further n (C i))
      → Toward base → Further base (λ n. (i : ℕ) → i < top → C i n)
  sweep C zero k base w t = stay t (λ i h. absurd (omega arith))
  sweep C (suc top) k base w t =
      let a = sweep C top (λ i h. k i (omega arith)) base (λ i h. w i (omega arith)) t in
      let b = w top (omega arith) a.next a.toward a.kept in
      record {
        next = b.next;
        toward = b.toward;
        kept = through a.kept b.kept;
        has = λ i h. by_truth (eqb i top)
            (λ e. subst (λ (j : ℕ). C j b.next) (sym (eqb-true i top e)) b.has)
            (λ e. let n = eqb-false i top e in k i (omega arith) a.next b.next b.kept (a.has i (omega arith)));
      }

  -- one more request
  pub asked : {n k : Machine} (t : Toward n) (q : Ask) → (step n q).state ≡ k → final step (begin clearances labels) (t.requests ++ (q ∷ [])) ≡ k
  asked t q e = final_last step t.requests q (begin clearances labels) ∙ ap (λ (n : Machine). (step n q).state) t.reached ∙ e

  pub good_after : {n k : Machine} → Toward n → (q : Ask) → (step n q).state ≡ k → Good k
  good_after {n} t q e = subst Good e (next_good n t.good q)
