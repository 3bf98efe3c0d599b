-- What a statement leaves in the charges and the total that are lent to it (02, S-8): at refusal 22 they stay as they are.
use Rattle.bits.specs.Words.{ℕ, List, eqb, when◌then◌else◌}
use Rattle.tally.specs.Statement.{statement_of}

-- the 64 charges after it
unfoldable pub charges_left : List ℕ → ℕ → List ℕ → List ℕ
charges_left counts rate charges = when eqb (statement_of counts rate).answer 1 then (statement_of counts rate).charges else charges

-- the total after it
unfoldable pub total_left : List ℕ → ℕ → ℕ → ℕ
total_left counts rate total = when eqb (statement_of counts rate).answer 1 then (statement_of counts rate).total else total
