-- The claims of specs/Claims.antt. Assumes nothing.
use Prim.Native.Nat.{ℕ}
use mathlib.Core.Path.{◌≡◌, sym, ap, ◌∙◌}
use mathlib.Core.Bool.{true, false}
use mathlib.Core.List.{List}
use native.Mathlib.Omega.{arith}
use lib.Dec.{eqb}
use lib.ListN.{length}
use borrow.Author.Tests.{eqb-true, eqb-false, not-true}
use Rattle.bits.specs.Words.{◌and◌}
use Rattle.bits.proofs.Truth.{by_truth, is_false, and_left, and_right, implies_elim, implies_counter}
use Rattle.bits.proofs.Below.{all_elim, all_counter}
use Rattle.bits.proofs.Membership.{each_elim, each_counter}
use Rattle.table.specs.Table.{is_table, encode}
use Rattle.table.proofs.Table.{is_table_lem, table_length_lem}
use Rattle.sound.proofs.Answers.{shown_sound}
use Rattle.requests.specs.Request.{Outcome, refuse, accept}
use Rattle.closure.specs.Closure.{closure, acyclic}
use Rattle.setup.specs.SetUp.{fresh, role_set_up}
use Rattle.setup.specs.Claims.{Cycle, CycleRefused, SetUpSound, SetUpRefused, OldContents}
use Rattle.closure.proofs.Closure.{closure_reaches, reaches_closure}
use Rattle.setup.proofs.Fresh.{fresh_sound}
use Rattle.setup.proofs.SetUp.{set_up_short, set_up_lists, set_up_cycle, set_up_accepted}

-- what an accepted set-up has passed
record Passed (t direct permissions : List ℕ) : Type 0 where
  table : is_table t ≡ true
  long : length direct ≡ 64
  long_permissions : length permissions ≡ 8
  no_cycle : acyclic (closure direct) ≡ true

module _ (t direct permissions : List ℕ) where
  abbrev outcome : Outcome (List ℕ)
  outcome = role_set_up t direct permissions

  by_outcome : {A : Type 0} → ((n : ℕ) → (n ≡ 1 → ⊥) → outcome ≡ refuse n t → A) → (Passed t direct permissions → A) → A
  by_outcome f g =
      by_truth (is_table t)
      (λ i. by_truth (eqb (length direct) 64 and eqb (length permissions) 8)
      (λ l.
      let d = eqb-true (length direct) 64 (and_left _ _ l) in
      let p = eqb-true (length permissions) 8 (and_right _ _ l) in
      by_truth (acyclic (closure direct))
      (λ a. g (record { table = i; long = d; long_permissions = p; no_cycle = a }))
      (λ a. f 20 (λ z. omega arith) (set_up_cycle t direct permissions i d p a)))
      (λ l. f 18 (λ z. omega arith) (set_up_lists t direct permissions i l)))
      (λ i. f 12 (λ z. omega arith) (set_up_short t direct permissions i))

  accepted : Passed t direct permissions → outcome ≡ accept (encode (fresh direct permissions))
  accepted p = set_up_accepted t direct permissions p.table p.long p.long_permissions p.no_cycle

  answers : {o o' : Outcome (List ℕ)} → o ≡ o' → o.answer ≡ o'.answer
  answers e = ap (λ (o : Outcome (List ℕ)). o.answer) e

pub cycle_refused : CycleRefused
unfolding acyclic
cycle_refused t direct permissions e d p = (λ r. found r, λ c. ap (λ (o : Outcome (List ℕ)). o.answer) (set_up_cycle t direct permissions (is_table_lem t e) d p (cyclic c)))
  where
    found : (role_set_up t direct permissions).answer ≡ 20 → Cycle direct
    found r =
        by_truth (acyclic (closure direct))
        (λ a. let z = sym r ∙ ap (λ (o : Outcome (List ℕ)). o.answer) (set_up_accepted t direct permissions (is_table_lem t e) d p a) in absurd (omega arith))
        (λ a.
        let k = all_counter _ 64 a in
        let m = each_counter _ _ (not-true _ k.holds) in
        let h = implies_counter _ _ m.holds in
        record {
          first = k.at;
          second = m.at;
          first_below = k.below;
          second_below = m.below;
          different = eqb-false k.at m.at h.1;
          there = closure_reaches direct k.at m.at k.below m.below m.member;
          back = closure_reaches direct m.at k.at m.below k.below h.0;
        })

    cyclic : Cycle direct → acyclic (closure direct) ≡ false
    cyclic c = is_false (λ a. c.different (eqb-true c.first c.second
        (implies_elim _ _
        (each_elim _ _ (all_elim _ 64 a c.first c.first_below) c.second c.second_below
        (reaches_closure direct c.first c.second c.first_below c.second_below c.there))
        (reaches_closure direct c.second c.first c.second_below c.first_below c.back))))

pub set_up_sound : SetUpSound
set_up_sound t direct permissions a =
    by_outcome t direct permissions
    (λ n k e. absurd (k (sym (answers t direct permissions e) ∙ a)))
    (λ p.
    shown_sound (fresh direct permissions) (ap (λ (o : Outcome (List ℕ)). o.state) (accepted t direct permissions p))
    ∙ fresh_sound direct permissions p.no_cycle)

pub set_up_refused : SetUpRefused
set_up_refused t direct permissions n =
    by_outcome t direct permissions
    (λ k h e. ap (λ (o : Outcome (List ℕ)). o.state) e)
    (λ p. absurd (n (answers t direct permissions (accepted t direct permissions p))))

pub old_contents : OldContents
old_contents t t' direct permissions l a =
    by_outcome t direct permissions
    (λ k h e. absurd (h (sym (answers t direct permissions e) ∙ a)))
    (λ p.
    accepted t direct permissions p
    ∙ sym (set_up_accepted t' direct permissions (is_table_lem t' (sym l ∙ table_length_lem t p.table)) p.long p.long_permissions p.no_cycle))
