-- What a label request answers, in 01's numbers. `Replied` serves the contracts of the private functions.
use Rattle.std.specs.Prelude.{◌≡◌}
use Rattle.bits.specs.Words.{ℕ, List}
use Rattle.requests.specs.Request.{Outcome}
use Rattle.requests.specs.Answer.{number_of}
use Rattle.labels.specs.declared.LabelAnswer.{LabelAnswer}

-- the answer, the figure and the table are those of the outcome
pub record Replied (r : LabelAnswer) (t : List ℕ) (o : Outcome (List ℕ)) : Type 0 where
  pub answer : number_of r.answer ≡ o.answer
  pub spent : r.spent ≡ o.spent
  pub table : t ≡ o.state
