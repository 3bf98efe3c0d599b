-- A request as it comes, and what one comes to. The role guard, the label guard and the Bell-LaPadula machine share these.
use Rattle.bits.specs.Words.{ℕ, Bool, true, false, List, leb, get_or, ◌and◌}

-- a code and three arguments, any numbers
pub record Ask : Type 0 where
  pub code : ℕ
  pub a : ℕ
  pub b : ℕ
  pub c : ℕ

abbrev pub ask : ℕ → ℕ → ℕ → ℕ → Ask
ask code a b c = record { code = code; a = a; b = b; c = c }

-- the answer by its number in 01, the figure spent, and what is left
pub record Outcome (S : Type 0) : Type 0 where
  pub answer : ℕ
  pub spent : ℕ
  pub state : S

-- 01: "No and every refusal leave all words unchanged"; a refusal spends 0
abbrev pub refuse : {S : Type 0} → ℕ → S → Outcome S
refuse n old = record { answer = n; spent = 0; state = old }

-- yes with the figure y and the new state, or no with the figure n and the old one
unfoldable pub decide : {S : Type 0} → Bool → ℕ → ℕ → S → S → Outcome S
decide true y n new old = record { answer = 1; spent = y; state = new }
decide false y n new old = record { answer = 0; spent = n; state = old }

-- an accepted set-up answers 1 and spends 0
abbrev pub accept : {S : Type 0} → S → Outcome S
accept new = record { answer = 1; spent = 0; state = new }

-- each of the three arguments is at most its largest value
unfoldable pub within : List ℕ → Ask → Bool
within largest q = leb q.a (get_or largest 0 0) and leb q.b (get_or largest 1 0) and leb q.c (get_or largest 2 0)
