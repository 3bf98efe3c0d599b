-- What comes of a block of input, and of all of it. What a system call did with the bytes that it was given, or which it gave,
-- no contract can say.
use Rattle.std.specs.Prelude.{◌≡◌, Result, OnOk}
use Rattle.bits.specs.Words.{ℕ, List, tabulate}
use Rattle.table.specs.Table.{table_length}
use Rattle.ledger.specs.Step.{unguarded}
use Rattle.transcript.specs.Stream.{Standing, after}
use Rattle.transcript.specs.Claims.{begun}

-- where its output was written, the transcript stands where the whole block leads
abbrev pub Behind : {T E : Type 0} → Result T E → Standing → List ℕ → Standing → Type 0
Behind result start block stands = OnOk result (stands ≡ after unguarded start block)

-- before the first byte: no mode, and a table and lists of nothing
abbrev pub beginning : Standing
beginning = begun (tabulate table_length (λ i. 0))

-- some input leads there from the beginning
abbrev pub Reached : Standing → Type 0
Reached stands = (input : List ℕ) × (stands ≡ after unguarded beginning input)

-- where all was read and written, the transcript stands where some input leads from the beginning
abbrev pub Led : {T E : Type 0} → Result T E → Standing → Type 0
Led result stands = OnOk result (Reached stands)
