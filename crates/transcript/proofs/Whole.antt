-- The bytes written while the input is read, and those written at its end, are the rows of its lines. Assumes nothing.
use Prim.Native.Nat.{ℕ, ◌+◌}
use mathlib.Core.Path.{◌≡◌, sym, ap, ◌∙◌}
use mathlib.Core.Bool.{Bool}
use mathlib.Core.List.{List, [], ◌∷◌, ◌++◌, append-nil, append_assoc}
use lib.Dec.{eqb}
use Rattle.bits.specs.Words.{when◌then◌else◌}
use Rattle.bits.proofs.Truth.{by_truth, if_true, if_false}
use Rattle.reader.specs.Bytes.{empty}
use Rattle.reader.specs.Line.{line}
use Rattle.reader.specs.Reader.{steps}
use Rattle.reader.specs.declared.Reader.{Reader}
use Rattle.reader.specs.declared.Reader.TheVariants.{Letters}
use Rattle.reader.proofs.Resume.{steps_none, steps_more}
use Rattle.reader.proofs.Claims.{line_read, fresh_read}
use Rattle.output.specs.Text.{row}
use Rattle.entries.specs.declared.Fault.TheVariants.{WrongForm}
use Rattle.entries.specs.Words.{fault_number}
use Rattle.ledger.specs.Store.{Store}
use Rattle.ledger.specs.Step.{guarded, step}
use Rattle.ledger.proofs.Lifting.{line_refused}
use Rattle.transcript.specs.Stream.{Standing, reading, after, emitted, closing}
use Rattle.transcript.specs.Document.{lines_of, results, rows}

-- with the first bytes q of a line read
abbrev behind : Store → ℕ → List ℕ → Standing
behind d n q = record { kept = d; number = n; reader = steps (Letters 0) q }

-- the end of the input, behind bytes q of a line
last_row : (d : Store) (n : ℕ) (q : List ℕ) → closing n (steps (Letters 0) q) ≡ rows n (results d (lines_of q []))
unfolding closing lines_of rows results
last_row d n q =
    ap (λ (t : Bool). when t then [] else row n (fault_number WrongForm) 0) (fresh_read q)
    ∙ by_truth (empty q) (λ e. simp if_true) (λ e. simp if_false (rw (line_refused guarded d) (sym (append-nil _))))

-- what bytes and then the end of the input make it write
abbrev writes : Standing → List ℕ → List ℕ
writes p l = emitted guarded p l ++ closing (after guarded p l).number (after guarded p l).reader

pub written_is : (d : Store) (n : ℕ) (q l : List ℕ) → writes (behind d n q) l ≡ rows n (results d (lines_of q l))
unfolding after emitted lines_of rows results
written_is d n q [] = last_row d n q
written_is d n q (b ∷ l) =
    let p = behind d n q in
    let o = step guarded d (line q) in
    let next : Standing = record { kept = o.state; number = n + 1; reader = Letters 0 } in
    by_truth (eqb b 10)
    (λ e. simp (if_true, line_read q) (append_assoc (row n o.answer o.spent) (emitted guarded next l) (closing (after guarded next l).number (after guarded next l).reader)
    ∙ ap (λ (w : List ℕ). row n o.answer o.spent ++ w) (rw (steps_none (Letters 0)) at (written_is o.state (n + 1) [] l))))
    (λ e. simp if_false (ap (λ (s : Reader). writes (reading p s) l) (sym (steps_more (Letters 0) q b)) ∙ written_is d n (q ++ (b ∷ [])) l))
