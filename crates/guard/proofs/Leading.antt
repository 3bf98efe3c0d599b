-- Where blocks of input lead, one after the other. Assumes nothing.
use mathlib.Core.Path.{◌≡◌, sym, ap, ◌∙◌}
use mathlib.Core.List.{List, [], ◌++◌}
use Prim.Native.Nat.{ℕ}
use Rattle.ledger.specs.Step.{unguarded}
use Rattle.transcript.specs.Stream.{Standing, after}
use Rattle.transcript.proofs.Pieces.{after_none, after_append}
use Rattle.guard.specs.Block.{beginning, Reached}

-- no block
pub reached_none : {p : Standing} → p ≡ beginning → Reached p
reached_none e = ([], e ∙ sym (after_none unguarded beginning))

-- a block more
pub reached_on : {p q : Standing} (block : List ℕ) → Reached p → q ≡ after unguarded p block → Reached q
reached_on block l e = (
  l.0 ++ block,
  e ∙ ap (λ (s : Standing). after unguarded s block) l.1 ∙ sym (after_append unguarded beginning l.0 block),
)
