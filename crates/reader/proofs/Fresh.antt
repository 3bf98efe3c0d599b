-- A reader is at its line's start only where no byte of the line has been read. Assumes nothing.
use Prim.Native.Nat.{ℕ, ◌+◌, ◌*◌}
use mathlib.Core.Path.{◌≡◌, refl, sym, ap}
use mathlib.Core.Bool.{true, false}
use mathlib.Core.List.{List, [], ◌∷◌}
use Rattle.std.specs.Prelude.{Option, Some, None}
use native.Mathlib.Omega.{arith}
use borrow.Author.Tests.{eqb-true, ne_eqb}
use Rattle.bits.proofs.Truth.{clash, and_left, by_if}
use Rattle.reader.specs.Bytes.{empty}
use Rattle.reader.specs.Line.{behind}
use Rattle.reader.specs.Reader.{word_of, begun, tabbed, pushed, step_of, steps, fresh}
use Rattle.reader.specs.declared.Word.{Word}
use Rattle.reader.specs.declared.Fields.{Fields}
use Rattle.reader.specs.declared.Reader.{Reader}
use Rattle.reader.specs.declared.Reader.TheVariants.{Letters, Tab, Digits, Broken}
use Rattle.reader.proofs.Stepping.{letter_least}

fresh_begun : (o : Option Word) → fresh (begun o) ≡ false
unfolding fresh begun
fresh_begun (Some w) = refl
fresh_begun None = refl

fresh_tabbed : (w : Word) (o : Option Fields) → fresh (tabbed w o) ≡ false
unfolding fresh tabbed
fresh_tabbed w (Some fs) = refl
fresh_tabbed w None = refl

-- it is at no line's start
abbrev Within : Reader → Type 0
Within s = fresh s ≡ false

fresh_step : (s : Reader) (b : ℕ) → Within (step_of s b)
unfolding fresh step_of pushed
fresh_step (Letters x) b =
    by_if Within _ (λ e. fresh_begun (word_of x)) (λ e. by_if Within _
    (λ g. let low = letter_least b (and_left _ _ g) in ne_eqb (x * 256 + b) 0 (λ z. omega arith))
    (λ g. refl))
fresh_step (Tab w fs) b = by_if Within _ (λ e. refl) (λ e. refl)
fresh_step (Digits w fs v) b = by_if Within _ (λ e. fresh_tabbed w (behind fs v)) (λ e. by_if Within _ (λ g. refl) (λ g. refl))
fresh_step Broken b = refl

fresh_steps : (s : Reader) (l : List ℕ) → fresh s ≡ false → fresh (steps s l) ≡ false
unfolding steps
fresh_steps s [] h = h
fresh_steps s (b ∷ l) h = fresh_steps (step_of s b) l (fresh_step s b)

pub fresh_empty : (q : List ℕ) → fresh (steps (Letters 0) q) ≡ empty q
unfolding steps empty fresh
fresh_empty [] = refl
fresh_empty (b ∷ q) = fresh_steps (step_of (Letters 0) b) q (fresh_step (Letters 0) b)

-- where it is, it is the new reader
pub fresh_new : (s : Reader) → fresh s ≡ true → s ≡ Letters 0
unfolding fresh
fresh_new (Letters x) h = ap Letters (eqb-true x 0 h)
fresh_new (Tab w fs) h = clash {b = true} refl (sym h)
fresh_new (Digits w fs v) h = clash {b = true} refl (sym h)
fresh_new Broken h = clash {b = true} refl (sym h)
