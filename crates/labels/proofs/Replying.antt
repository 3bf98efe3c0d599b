-- Replies in the code's terms: an answer, a figure and a table that are an outcome's. Assumes nothing.
use Prim.Native.Nat.{ℕ}
use mathlib.Core.Path.{◌≡◌, sym, ap, ◌∙◌}
use mathlib.Core.List.{List}
use Rattle.requests.specs.Request.{Outcome, refuse}
use Rattle.rbac.specs.Guard.{sound_step}
use Rattle.requests.specs.Answer.{number_of}
use Rattle.machine.specs.Machine.{Request}
use Rattle.labels.specs.declared.LabelAnswer.{LabelAnswer}
use Rattle.labels.specs.Guard.{plan, carry_out}
use Rattle.labels.specs.Reply.{Replied}

pub reply : {r : LabelAnswer} {t : List ℕ} {o : Outcome (List ℕ)} (n f : ℕ) (t' : List ℕ)
    → o ≡ record { answer = n; spent = f; state = t' } → number_of r.answer ≡ n → r.spent ≡ f → t ≡ t' → Replied r t o
reply n f t' e a b c = record {
  answer = a ∙ sym (ap (λ (p : Outcome (List ℕ)). p.answer) e);
  spent = b ∙ sym (ap (λ (p : Outcome (List ℕ)). p.spent) e);
  table = c ∙ sym (ap (λ (p : Outcome (List ℕ)). p.state) e);
}

pub replied_as : {r : LabelAnswer} {t : List ℕ} {o o' : Outcome (List ℕ)} → o ≡ o' → Replied r t o' → Replied r t o
replied_as e p = record {
  answer = p.answer ∙ sym (ap (λ (p : Outcome (List ℕ)). p.answer) e);
  spent = p.spent ∙ sym (ap (λ (p : Outcome (List ℕ)). p.spent) e);
  table = p.table ∙ sym (ap (λ (p : Outcome (List ℕ)). p.state) e);
}

-- the reply to a request that is known by another name
pub planned_as : {r : LabelAnswer} {t' : List ℕ} (t : List ℕ) {p q : Request} → p ≡ q → Replied r t' (carry_out sound_step t (plan sound_step t q))
    → Replied r t' (carry_out sound_step t (plan sound_step t p))
planned_as t e = replied_as (ap (λ (p : Request). carry_out sound_step t (plan sound_step t p)) e)

-- the three clauses of a contract
pub clauses : {r : LabelAnswer} {t : List ℕ} {o : Outcome (List ℕ)} → Replied r t o
    → record { answer : number_of r.answer ≡ o.answer; spent : r.spent ≡ o.spent; table : t ≡ o.state }
clauses p = record { answer = p.answer; spent = p.spent; table = p.table }

pub refused_clauses : {k f : ℕ} {t t' : List ℕ} {o : Outcome (List ℕ)} (n : ℕ) → o ≡ refuse n t → k ≡ n → f ≡ 0 → t' ≡ t
    → record { answer : k ≡ o.answer; spent : f ≡ o.spent; table : t' ≡ o.state }
refused_clauses n e a b d = record {
  answer = a ∙ sym (ap (λ (p : Outcome (List ℕ)). p.answer) e);
  spent = b ∙ sym (ap (λ (p : Outcome (List ℕ)). p.spent) e);
  table = d ∙ sym (ap (λ (p : Outcome (List ℕ)). p.state) e);
}

pub clauses_as : {k f : ℕ} {t : List ℕ} {o o' : Outcome (List ℕ)} → o ≡ o' → record { answer : k ≡ o'.answer; spent : f ≡ o'.spent; table : t ≡ o'.state }
    → record { answer : k ≡ o.answer; spent : f ≡ o.spent; table : t ≡ o.state }
clauses_as e p = record {
  answer = p.answer ∙ sym (ap (λ (p : Outcome (List ℕ)). p.answer) e);
  spent = p.spent ∙ sym (ap (λ (p : Outcome (List ℕ)). p.spent) e);
  table = p.table ∙ sym (ap (λ (p : Outcome (List ℕ)). p.state) e);
}
