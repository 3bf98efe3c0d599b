-- What is safe is reached: the sessions are started one after the other, and each opens what it holds. Assumes nothing.
use Prim.Native.Nat.{ℕ, ◌<◌}
use mathlib.Core.Path.{◌≡◌, refl, sym, ap, ap₂, subst, ◌∙◌}
use mathlib.Core.Bool.{Bool, true}
use mathlib.Core.List.{List, [], ◌∷◌, ◌++◌}
use lib.Dec.{eqb}
use borrow.Author.Tests.{eq-eqb, eqb-true, lt-ltb}
use Rattle.bits.specs.Words.{◌and◌, when◌then◌else◌, tabulate}
use Rattle.bits.proofs.Truth.{clash, by_truth, same_truth, if_true, if_false, and_intro, and_left, and_right}
use Rattle.bits.proofs.Below.{all_intro}
use Rattle.table.proofs.Agree.{by_upd, upd_same}
use Rattle.bits.proofs.Tabulate.{length_tabulate, get_d_tabulate}
use Rattle.requests.specs.Request.{ask, Outcome}
use Rattle.machine.proofs.Order.{dominates}
use Rattle.machine.specs.Machine.{Machine, Seat, idle, at, is_idle, may_open, with_held, with_seat, step, begin}
use Rattle.machine.proofs.Seats.{idle_at}
use Rattle.machine.proofs.Steps.{opens, starts}
use Rattle.machine.proofs.Tracing.{final_none}
use Rattle.image.specs.SetUp.{are_labels}
use Rattle.image.specs.Claims.{Ranged, Safe}
use Rattle.image.proofs.Beginning.{accepted, begin_ranged, begin_safe}
use Rattle.simulation.specs.Claims.{Same, Reachable}
use Rattle.simulation.proofs.Toward.{clearances, labels, Toward, Further, stay, through, sweep, asked, good_after}

-- what is open after one opening was changed
by_held : (n : Machine) (s o x : ℕ) (b : Bool) (P : Bool → Type 0) (p q y : ℕ) → (p ≡ s → q ≡ o → y ≡ x → P b)
    → ((p ≡ s → q ≡ o → y ≡ x → ⊥) → P (n.held p q y)) → P ((with_held n s o x b).held p q y)
by_held n s o x b P p q y f g =
    by_upd n.held s (λ q y. when eqb q o and eqb y x then b else n.held s q y) (λ (h : ℕ → ℕ → Bool). P (h q y)) p
    (λ i. by_truth (eqb q o and eqb y x)
    (λ c. subst P (sym (if_true b (n.held s q y) c)) (f i (eqb-true q o (and_left _ _ c)) (eqb-true y x (and_right (eqb q o) _ c))))
    (λ c. subst P (sym (if_false b (n.held s q y) c))
    (subst (λ (k : ℕ). P (n.held k q y)) i (g (λ d j k. clash (and_intro (eq-eqb q o j) (eq-eqb y x k)) c)))))
    (λ d. g (λ i j k. d i))

module _ (m : Machine) (g : Ranged m) (f : Safe m) where
  -- session s opens o in mode x
  module _ (s o x : ℕ) (hs : s < 32) (ho : o < 64) (hx : x < 2) (n : Machine) (t : Toward m n) (e : n.seat s ≡ m.seat s) where
    open_held : m.held s o x ≡ true → Further m n (λ k. m.held s o x ≡ true → k.held s o x ≡ true)
    open_held h = record {
      next = with_held n s o x true;
      toward = record {
        requests = t.requests ++ (ask 1 s o x ∷ []);
        reached = asked m t (ask 1 s o x) opened;
        good = good_after m t (ask 1 s o x) opened;
        same_clearances = t.same_clearances;
        same_labels = t.same_labels;
        seats = t.seats;
        openings = λ p q y hp hq hy. by_held n s o x true (λ (b : Bool). b ≡ true → m.held p q y ≡ true) p q y
            (λ i j k z. rw (i, j, k) h)
            (λ d. t.openings p q y hp hq hy);
      };
      kept = record {
        seats = λ p l z. z;
        openings = λ p q y hp hq hy z. by_held n s o x true (λ (b : Bool). b ≡ true) p q y (λ i j k. refl) (λ d. z);
      };
      has = λ z. by_held n s o x true (λ (b : Bool). b ≡ true) s o x (λ i j k. refl) (λ d. absurd (d refl refl refl));
    }
      where
        opened : (step n (ask 1 s o x)).state ≡ with_held n s o x true
        opened =
            opens n s hs o x ho hx
            (ap₂ (λ (k : Seat) (l : ℕ). may_open k l x) e (t.same_labels o ho) ∙ f.openings s o x hs ho hx h)

    open_one : Further m n (λ k. m.held s o x ≡ true → k.held s o x ≡ true)
    open_one = by_truth (m.held s o x) open_held (λ h. stay m t (λ z. clash z h))

  -- session s is started where it is not idle in m
  module _ (s : ℕ) (hs : s < 32) (n : Machine) (t : Toward m n) where
    start_at : (u y : ℕ) → m.seat s ≡ at u y → n.seat s ≡ idle → Further m n (λ k. k.seat s ≡ m.seat s)
    start_at u y e i = record {
      next = with_seat n s (at u y);
      toward = record {
        requests = t.requests ++ (ask 3 s u y ∷ []);
        reached = asked m t (ask 3 s u y) started;
        good = good_after m t (ask 3 s u y) started;
        same_clearances = t.same_clearances;
        same_labels = t.same_labels;
        seats = λ p h. by_upd n.seat s (at u y) (λ (k : Seat). (k ≡ idle → ⊥) → k ≡ m.seat p) p
            (λ q z. sym (ap m.seat q ∙ e))
            (λ q z. t.seats p h z);
        openings = t.openings;
      };
      kept = record {
        seats = λ p h z. by_upd n.seat s (at u y) (λ (k : Seat). k ≡ m.seat p) p (λ q. sym (ap m.seat q ∙ e)) (λ q. z);
        openings = λ p o x hp ho hx z. z;
      };
      has = upd_same n.seat s (at u y) ∙ sym e;
    }
      where
        started : (step n (ask 3 s u y)).state ≡ with_seat n s (at u y)
        started =
            let r = g.seats s u y hs e in
            starts n s hs u y r.0 r.1 (ap is_idle i ∙ unfold is_idle in refl)
            (ap (λ (c : ℕ). dominates c y) (t.same_clearances u r.0) ∙ f.cleared s u y hs e)

    start_one : (j k : Seat) → n.seat s ≡ j → m.seat s ≡ k → Further m n (λ a. a.seat s ≡ m.seat s)
    start_one (at u y) k d e = stay m t (t.seats s hs (λ z. idle_at u y (sym z ∙ d)))
    start_one idle idle d e = stay m t (d ∙ sym e)
    start_one idle (at u y) d e = start_at u y e d

  abbrev Holds : ℕ → ℕ → ℕ → Machine → Type 0
  Holds s o x n = m.held s o x ≡ true → n.held s o x ≡ true

  abbrev HoldsAll : ℕ → ℕ → Machine → Type 0
  HoldsAll s o n = (x : ℕ) → x < 2 → Holds s o x n

  record Session (s : ℕ) (n : Machine) : Type 0 where
    seat : n.seat s ≡ m.seat s
    openings : (o : ℕ) → o < 64 → HoldsAll s o n

  -- session s opens all that it holds in m
  open_all : (s : ℕ) → s < 32 → (n : Machine) → n.seat s ≡ m.seat s → Toward m n → Further m n (λ k. (o : ℕ) → o < 64 → HoldsAll s o k)
  open_all s hs n e =
      sweep m (HoldsAll s) 64 (λ o ho a b k w x hx h. k.openings s o x hs ho hx (w x hx h)) n (λ o ho a t k.
      sweep m (Holds s o) 2 (λ x hx a b k w h. k.openings s o x hs ho hx (w h)) a (λ x hx b t l.
      open_one s o x hs ho hx b t (l.seats s hs (k.seats s hs e))) t)

  serve_one : (s : ℕ) → s < 32 → (n : Machine) → Toward m n → Further m n (Session s)
  serve_one s hs n t =
      let a = start_one s hs n t (n.seat s) (m.seat s) refl refl in
      let b = open_all s hs a.next a.has a.toward in
      record {
        next = b.next;
        toward = b.toward;
        kept = through m a.kept b.kept;
        has = record { seat = b.kept.seats s hs a.has; openings = b.has };
      }

  serve_all : (n : Machine) → Toward m n → Further m n (λ k. (s : ℕ) → s < 32 → Session s k)
  serve_all n =
      sweep m Session 32 (λ s hs a b k w. record {
        seat = k.seats s hs w.seat;
        openings = λ o ho x hx h. k.openings s o x hs ho hx (w.openings o ho x hx h);
      }) n (λ s hs k t l. serve_one s hs k t)

  are_labels_lem : (v : ℕ → ℕ) → ((i : ℕ) → i < 64 → v i < 32) → are_labels (tabulate 64 v) ≡ true
  unfolding are_labels
  are_labels_lem v h = all_intro _ 64 (λ i l. lt-ltb _ 32 (subst (λ (n : ℕ). n < 32) (sym (get_d_tabulate 64 v 0 i l)) (h i l)))

  begins : Toward m (begin (clearances m) (labels m))
  unfolding begin
  begins = record {
    requests = [];
    reached = final_none step (begin (clearances m) (labels m));
    good = record {
      ranged = begin_ranged (clearances m) (labels m) (are_labels_lem m.clearance g.clearances) (are_labels_lem m.label g.labels);
      safe = begin_safe (clearances m) (labels m);
    };
    same_clearances = get_d_tabulate 64 m.clearance 0;
    same_labels = get_d_tabulate 64 m.label 0;
    seats = λ s h n. absurd (n refl);
    openings = λ s o x hs ho hx e. clash e refl;
  }

  pub safe_reached : Reachable m
  safe_reached =
      let a = serve_all (begin (clearances m) (labels m)) begins in
      let t = a.toward in
      record {
        clearances = clearances m;
        labels = labels m;
        accepted = λ t i. ap (λ (o : Outcome (List ℕ)). o.answer) (accepted t (clearances m) (labels m) (record {
          table = i;
          long_clearances = length_tabulate 64 m.clearance;
          long_labels = length_tabulate 64 m.label;
          clearances_known = are_labels_lem m.clearance g.clearances;
          labels_known = are_labels_lem m.label g.labels;
        }));
        requests = t.requests;
        reached = subst (Same m) (sym t.reached) (record {
          clearances = λ u h. sym (t.same_clearances u h);
          labels = λ o h. sym (t.same_labels o h);
          seats = λ s h. sym (a.has s h).seat;
          openings = λ s o x hs ho hx. same_truth ((a.has s hs).openings o ho x hx) (t.openings s o x hs ho hx);
        });
      }
