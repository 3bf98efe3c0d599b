-- What a request comes to: yes, no or a refusal, and the two clauses of a contract that say so. Assumes nothing.
use Prim.Native.Nat.{ℕ}
use mathlib.Core.Path.{◌≡◌, refl, sym, ap, ◌∙◌}
use mathlib.Core.Bool.{Bool, true, false}
use mathlib.Core.List.{List}
use Rattle.requests.specs.Request.{Outcome, refuse, decide}

module _ {S : Type 0} {b : Bool} (y n : ℕ) (new old : S) where
  pub decide_yes : b ≡ true → decide b y n new old ≡ record { answer = 1; spent = y; state = new }
  unfolding decide
  decide_yes e = rw (e, decide)

  pub decide_no : b ≡ false → decide b y n new old ≡ record { answer = 0; spent = n; state = old }
  unfolding decide
  decide_no e = rw (e, decide)

-- ---- as the code answers: the number and the table of an outcome

-- the answer and the table of an outcome
pub record Comes (t' : List ℕ) (n : ℕ) (o : Outcome (List ℕ)) : Type 0 where
  pub answer : n ≡ o.answer
  pub table : t' ≡ o.state

pub comes_to : {t' : List ℕ} {n : ℕ} {o o' : Outcome (List ℕ)} → o ≡ o' → Comes t' n o' → Comes t' n o
comes_to e c = record {
  answer = c.answer ∙ sym (ap (λ (p : Outcome (List ℕ)). p.answer) e);
  table = c.table ∙ sym (ap (λ (p : Outcome (List ℕ)). p.state) e);
}

pub refused : {t : List ℕ} {n : ℕ} → Comes t n (refuse n t)
refused = record { answer = refl; table = refl }

-- the two clauses of a contract
pub both : {t' : List ℕ} {n : ℕ} {o : Outcome (List ℕ)} → Comes t' n o → record { answer : n ≡ o.answer; table : t' ≡ o.state }
both c = record { answer = c.answer; table = c.table }

pub both_to : {t' : List ℕ} {n : ℕ} {o o' : Outcome (List ℕ)} → o ≡ o'
    → record { answer : n ≡ o'.answer; table : t' ≡ o'.state } → record { answer : n ≡ o.answer; table : t' ≡ o.state }
both_to e c = both (comes_to e (record { answer = c.answer; table = c.table }))
