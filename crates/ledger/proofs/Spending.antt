-- What the code need not be told: a role request answered yes or no spends 1, and everything else of roles mode 0. Assumes nothing.
use Prim.Native.Nat.{ℕ, ◌<◌, ◌≤◌}
use mathlib.Core.Path.{◌≡◌, refl, sym, ap, ◌∙◌}
use mathlib.Core.Bool.{Bool, true, false}
use mathlib.Core.List.{List}
use native.Mathlib.Omega.{arith}
use lib.Dec.{eqb}
use lib.ListN.{length}
use borrow.Author.Tests.{eqb-true}
use Rattle.bits.specs.Words.{◌and◌}
use Rattle.bits.proofs.Truth.{by_truth, and_left, and_right}
use Rattle.table.specs.Table.{is_table}
use Rattle.table.specs.Reading.{state}
use Rattle.requests.specs.Request.{Ask, Outcome, refuse, decide, accept}
use Rattle.requests.specs.Answer.{refusal_number, number_of}
use Rattle.requests.specs.declared.Refusal.{Refusal}
use Rattle.std.specs.Prelude.{Result, Ok, Err}
use Rattle.rbac.specs.Roles.{is_code, in_range, carries_bad_pair, decode, known}
use Rattle.rbac.specs.Guard.{allowed_sound, changed_sound, sound_step}
use Rattle.requests.proofs.Outcome.{decide_yes, decide_no}
use Rattle.rbac.proofs.Serving.{served_known, served_unknown}
use Rattle.rbac.proofs.Guarding.{checked_code, checked_argument, checked_pair, sound_step_table, sound_step_short, sound_step_served}
use Rattle.closure.specs.Closure.{closure, acyclic}
use Rattle.setup.specs.SetUp.{role_set_up}
use Rattle.setup.proofs.SetUp.{set_up_short, set_up_lists, set_up_cycle, set_up_accepted}

-- ---- answers by their numbers

-- a refusal's number is above 1, and the others are not
refused_large : (r : Refusal) → 1 < refusal_number r
refused_large r = grind arith

answered_small : (a : Result Bool Refusal) (b : Bool) → a ≡ Ok b → number_of a ≤ 1
answered_small a true h = rw h (omega arith)
answered_small a false h = rw h (omega arith)

pub refused_not_1 : (r : Refusal) → refusal_number r ≡ 1 → ⊥
refused_not_1 r e = grind (arith, refused_large)

-- ---- role requests

-- a refusal, or a yes or no that spends 1
module _ (t : List ℕ) (q : Ask) where
  pub by_served : {A : Type 0} → ((n : ℕ) → 1 < n → sound_step t q ≡ refuse n t → A) → ((b : Bool) (new : List ℕ) → sound_step t q ≡ decide b 1 1 new t → A) → A
  by_served f g =
      by_truth (is_table t)
      (λ i.
      let e = sound_step_table t q i in
      by_truth (is_code q)
      (λ c. by_truth (in_range q)
      (λ r. by_truth (carries_bad_pair q)
      (λ b. f 21 (omega arith) (e ∙ checked_pair allowed_sound changed_sound t q c r b))
      (λ b.
      let d = sound_step_served t q i c r b in
      by_truth (known (state t) (decode q))
      (λ k. g _ _ (d ∙ served_known allowed_sound changed_sound t (decode q) k))
      (λ k. f 17 (omega arith) (d ∙ served_unknown allowed_sound changed_sound t (decode q) k))))
      (λ r. f 16 (omega arith) (e ∙ checked_argument allowed_sound changed_sound t q c r)))
      (λ c. f 15 (omega arith) (e ∙ checked_code allowed_sound changed_sound t q c)))
      (λ i. f 12 (omega arith) (sound_step_short t q i))

-- a yes or no answers 1 or 0
pub decided_small : {o : Outcome (List ℕ)} (b : Bool) (y n : ℕ) (new old : List ℕ) → o ≡ decide b y n new old → o.answer ≤ 1
decided_small b y n new old e =
    by_truth b (λ p. rw (e ∙ decide_yes y n new old p) (omega arith)) (λ p. rw (e ∙ decide_no y n new old p) (omega arith))

-- what an outcome that another equals spends
pub spends : {o o' : Outcome (List ℕ)} → o ≡ o' → o'.spent ≡ o.spent
spends e = sym (ap (λ (p : Outcome (List ℕ)). p.spent) e)

module _ (t : List ℕ) (q : Ask) (a : Result Bool Refusal) (e : number_of a ≡ (sound_step t q).answer) where
  pub refused_role : (r : Refusal) → a ≡ Err r → 0 ≡ (sound_step t q).spent
  refused_role r f =
      let large : 1 < number_of a = rw f (refused_large r) in
      by_served t q (λ n k d. spends d) (λ b new d. absurd (omega (arith, decided_small b 1 1 new t d)))

  pub answered_role : (b : Bool) → a ≡ Ok b → 1 ≡ (sound_step t q).spent
  answered_role b f =
      let small = answered_small a b f in
      by_served t q
      (λ n k d. absurd (omega (arith, ap (λ (o : Outcome (List ℕ)). o.answer) d)))
      (λ b new d. by_truth b (λ p. spends (d ∙ decide_yes 1 1 new t p)) (λ p. spends (d ∙ decide_no 1 1 new t p)))

-- ---- the role set-up

-- of two lists that are tables or are not: both refused alike, or both accepted with the same table
module _ (t u juniors permissions : List ℕ) (same : is_table t ≡ is_table u) where
  pub by_set_up : {A : Type 0} → ((n : ℕ) → (n ≡ 1 → ⊥) → role_set_up t juniors permissions ≡ refuse n t → role_set_up u juniors permissions ≡ refuse n u → A)
      → ((new : List ℕ) → role_set_up t juniors permissions ≡ accept new → role_set_up u juniors permissions ≡ accept new → A) → A
  by_set_up f g =
      by_truth (is_table t)
      (λ i. by_truth (eqb (length juniors) 64 and eqb (length permissions) 8)
      (λ l.
      let j = eqb-true (length juniors) 64 (and_left _ _ l) in
      let p = eqb-true (length permissions) 8 (and_right _ _ l) in
      by_truth (acyclic (closure juniors))
      (λ a. g _ (set_up_accepted t juniors permissions i j p a) (set_up_accepted u juniors permissions (sym same ∙ i) j p a))
      (λ a. f 20 (λ z. omega arith) (set_up_cycle t juniors permissions i j p a) (set_up_cycle u juniors permissions (sym same ∙ i) j p a)))
      (λ l. f 18 (λ z. omega arith) (set_up_lists t juniors permissions i l) (set_up_lists u juniors permissions (sym same ∙ i) l)))
      (λ i. f 12 (λ z. omega arith) (set_up_short t juniors permissions i) (set_up_short u juniors permissions (sym same ∙ i)))

pub set_up_spends : (t juniors permissions : List ℕ) → 0 ≡ (role_set_up t juniors permissions).spent
set_up_spends t juniors permissions = by_set_up t t juniors permissions refl (λ n k e f. spends e) (λ new e f. spends e)
