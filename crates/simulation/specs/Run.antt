-- A label set-up and a list of label requests in one call. The requests are lent as words, four each: code and three
-- arguments; the replies go into lent words, two each: answer and figure.
use Rattle.std.specs.Prelude.{◌+◌, ◌*◌, ◌/◌, ◌%◌, ◌∷◌}
use Rattle.bits.specs.Words.{ℕ, Bool, not, List, [], eqb, leb, length, get_or, ◌and◌, when◌then◌else◌, tabulate}
use Rattle.table.specs.Table.{is_table}
use Rattle.requests.specs.Request.{Ask, ask, Outcome, refuse}
use Rattle.machine.specs.Machine.{step, begin}
use Rattle.machine.specs.Wall.{Event, trace, final}
use Rattle.image.specs.Image.{image}
use Rattle.image.specs.SetUp.{label_set_up}
use Rattle.labels.specs.Guard.{image_step}

-- the request at place i of the words
unfoldable pub ask_at : List ℕ → ℕ → Ask
ask_at words i = ask (get_or words (4 * i) 0) (get_or words (4 * i + 1) 0) (get_or words (4 * i + 2) 0) (get_or words (4 * i + 3) 0)

-- the outcome of the request at place i, where the words have one there; refusal 18 past their end
unfoldable pub serve_at : List ℕ → List ℕ → ℕ → Outcome (List ℕ)
serve_at t words i = when leb (length words / 4) i then refuse 18 t else image_step t (ask_at words i)

-- the requests of the words, in order
unfoldable pub asks : List ℕ → List Ask
asks words = tabulate (length words / 4) (ask_at words)

-- the words of the replies: answer and figure of each event
unfoldable pub flat : List Event → List ℕ
flat [] = []
flat (e ∷ es) = e.answer ∷ e.spent ∷ flat es

-- four words for each request, and two for its reply
unfoldable pub paired : List ℕ → List ℕ → Bool
paired words replies = eqb (length words % 4) 0 and eqb (length replies) (2 * (length words / 4))

-- what a run leaves: an answer, the table and the words of the replies
pub record Left : Type 0 where
  pub answer : ℕ
  pub table : List ℕ
  pub replies : List ℕ

-- an answer with a table and words of replies
unfoldable pub kept : ℕ → List ℕ → List ℕ → Left
kept n t replies = record { answer = n; table = t; replies = replies }

-- refusals 12 and 18, those of the set-up, and then the machine's run
unfoldable pub machine_run : List ℕ → List ℕ → List ℕ → List ℕ → List ℕ → Left
machine_run t clearances labels words old =
    when not (is_table t) then kept 12 t old else
    when not (paired words old) then kept 18 t old else
    when not (eqb (label_set_up t clearances labels).answer 1) then kept (label_set_up t clearances labels).answer t old else
    kept 1 (image (final step (begin clearances labels) (asks words))) (flat (trace step (begin clearances labels) (asks words)))
