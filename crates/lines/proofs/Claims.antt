-- The claims of specs/Claims.antt. Assumes nothing.
use Prim.Native.Nat.{ℕ, ◌+◌}
use mathlib.Core.Path.{◌≡◌, refl, sym, ap, ◌∙◌}
use mathlib.Core.Bool.{Bool, true, not}
use mathlib.Core.List.{List, [], ◌∷◌, ◌++◌, append-nil}
use native.Mathlib.Omega.{arith}
use lib.Dec.{eqb}
use lib.ListN.{length}
use borrow.Author.Tests.{not-true}
use Rattle.bits.proofs.Truth.{and_intro, and_left, and_right}
use Rattle.reader.specs.Bytes.{newline, every}
use Rattle.reader.specs.Reader.{finished, step_of, steps}
use Rattle.reader.specs.declared.Reader.{Reader}
use Rattle.reader.specs.declared.Reader.TheVariants.{Letters}
use Rattle.reader.proofs.Resume.{steps_append}
use Rattle.reader.proofs.Claims.{line_read}
use Rattle.lines.specs.Blocks.{fed}
use Rattle.lines.specs.Claims.{in_one_line, PieceFed, handed, flat, PiecesFed}
use Rattle.lines.specs.declared.Fed.{Fed}
use Rattle.lines.proofs.Going.{fed_none, fed_line, fed_byte}

-- bytes before others: those are left to a reader that has read these
fed_append : (s : Reader) (p l : List ℕ) (at : ℕ) → in_one_line p ≡ true → fed s (p ++ l) at ≡ fed (steps s p) l (at + length p)
unfolding steps every
fed_append s [] l at h = ap (λ (k : ℕ). fed s l k) (omega arith)
fed_append s (b ∷ p) l at h =
    fed_byte s b _ at (not-true (eqb b 10) (and_left (not (eqb b 10)) _ h))
    ∙ fed_append (step_of s b) p l (at + 1) (and_right (not (eqb b 10)) _ h)
    ∙ ap (λ (k : ℕ). fed (steps (step_of s b) p) l k) (omega arith)

pub piece_fed : PieceFed
piece_fed s p at h = ap (λ (l : List ℕ). fed s l at) (sym (append-nil p)) ∙ fed_append s p [] at h ∙ fed_none (steps s p) _

every_left : (f : ℕ → Bool) (p q : List ℕ) → every f (p ++ q) ≡ true → every f p ≡ true
unfolding every
every_left f [] q h = refl
every_left f (b ∷ p) q h = and_intro (and_left (f b) _ h) (every_left f p q (and_right (f b) _ h))

every_right : (f : ℕ → Bool) (p q : List ℕ) → every f (p ++ q) ≡ true → every f q ≡ true
unfolding every
every_right f [] q h = h
every_right f (b ∷ p) q h = every_right f p q (and_right (f b) _ h)

handed_steps : (s : Reader) (ps : List (List ℕ)) → in_one_line (flat ps) ≡ true → handed s ps ≡ steps s (flat ps)
unfolding handed flat steps
handed_steps s [] h = refl
handed_steps s (p ∷ ps) h =
    ap (λ (f : Fed). handed f.reader ps) (piece_fed s p 0 (every_left _ p (flat ps) h))
    ∙ handed_steps (steps s p) ps (every_right _ p (flat ps) h)
    ∙ sym (steps_append s p (flat ps))

pub pieces_fed : PiecesFed
pieces_fed ps p rest at h =
    let before = handed_steps (Letters 0) ps (every_left _ (flat ps) p h) in
    let last = fed_append (handed (Letters 0) ps) p (newline ∷ rest) at (every_right _ (flat ps) p h) ∙ fed_line _ newline rest _ refl in
    record {
      whole = ap (λ (f : Fed). f.whole) last;
      next = ap (λ (f : Fed). f.next) last;
      line_is = ap (λ (f : Fed). finished f.reader) last ∙ ap finished (ap (λ (s : Reader). steps s p) before ∙ sym (steps_append (Letters 0) (flat ps) p)) ∙ line_read (flat ps ++ p);
    }
