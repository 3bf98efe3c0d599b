-- Requests with their answers, and what the lives of sessions carry from column to column in them (01, "Labels").
use Rattle.std.specs.Prelude.{◌∷◌}
use Rattle.bits.specs.Words.{ℕ, Bool, List, [], Memᴰ, eqb, ◌and◌, when◌then◌else◌}
use Rattle.requests.specs.Request.{Ask, ask, Outcome}

-- a request, its answer and its figure
pub record Event : Type 0 where
  pub asked : Ask
  pub answer : ℕ
  pub spent : ℕ

-- the requests of a list, one after the other from a state on, each with its answer and figure
unfoldable pub trace : {S : Type 0} → (S → Ask → Outcome S) → S → List Ask → List Event
trace f s [] = []
trace f s (q ∷ qs) = record { asked = q; answer = (f s q).answer; spent = (f s q).spent } ∷ trace f (f s q).state qs

-- the state after the last
unfoldable pub final : {S : Type 0} → (S → Ask → Outcome S) → S → List Ask → S
final f s [] = s
final f s (q ∷ qs) = final f (f s q).state qs

-- a request of this code that names session s, answered yes
unfoldable pub yes_to : ℕ → ℕ → Event → Bool
yes_to code s e = eqb e.asked.code code and eqb e.asked.a s and eqb e.answer 1

-- the events before the first end of s answered yes
unfoldable pub up_to_end : ℕ → List Event → List Event
up_to_end s [] = []
up_to_end s (e ∷ es) = when yes_to 4 s e then [] else e ∷ up_to_end s es

-- the lives of s: each from a start of s answered yes to the next end of s answered yes, or to the last request
unfoldable pub lives : ℕ → List Event → List (List Event)
lives s [] = []
lives s (e ∷ es) = when yes_to 3 s e then up_to_end s es ∷ lives s es else lives s es

-- yes to an opening of column o in mode x by session s, whatever it spent
abbrev pub opened : ℕ → ℕ → ℕ → ℕ → Event
opened s o x n = record { asked = ask 1 s o x; answer = 1; spent = n }

-- column c is carried into itself; and into d, when a life has yes to an opening in mode 0 of a column that c is carried into
-- and yes to one in mode 1 of d
pub data Carried (es : List Event) (c : ℕ) : ℕ → Type 0 where
  same : Carried es c c
  through : {d e i j : ℕ} → Carried es c e → (s : ℕ) (life : List Event) → Memᴰ life (lives s es)
      → Memᴰ (opened s e 0 i) life → Memᴰ (opened s d 1 j) life → Carried es c d
