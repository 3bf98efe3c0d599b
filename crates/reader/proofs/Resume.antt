-- The reader's answer at the end of a line is what the line's definition says. Assumes nothing.
use Prim.Native.Nat.{ℕ, ◌+◌, ◌-◌, ◌*◌, ◌^◌}
use mathlib.Core.Path.{◌≡◌, refl, sym, ap, ◌∙◌}
use mathlib.Core.Bool.{Bool, false}
use mathlib.Core.List.{List, [], ◌∷◌, ◌++◌}
use Rattle.std.specs.Prelude.{Option, Some, None}
use lib.Dec.{eqb, ltb}
use borrow.Author.Tests.{eqb-true}
use Rattle.bits.specs.Words.{◌and◌, when◌then◌else◌}
use Rattle.reader.specs.Line.{first, others, spelled, digit, number, behind, push, fields, joined}
use Rattle.reader.specs.Reader.{letter, word_of, begun, tabbed, pushed, step_of, ended, finished, steps}
use Rattle.reader.specs.declared.Word.{Word}
use Rattle.reader.specs.declared.Fields.{Fields}
use Rattle.reader.specs.declared.Fields.TheVariants.{Without}
use Rattle.reader.specs.declared.Line.{Line}
use Rattle.reader.specs.declared.Reader.{Reader}
use Rattle.reader.specs.declared.Reader.TheVariants.{Letters, Tab, Digits, Broken}
use Rattle.reader.proofs.Words.{letters_from, letters_spelled}
use Rattle.bits.proofs.Truth.{by_truth, if_true, if_false}
use Rattle.reader.proofs.Stepping.{word_tab, field_tab, digits_tab}
use Rattle.reader.proofs.Values.{along, digits_from, number_none, number_along}

-- ---- a line in pieces

-- bytes handed over in two pieces, cut anywhere, lead to the same place as in one
pub steps_append : (s : Reader) (l m : List ℕ) → steps s (l ++ m) ≡ steps (steps s l) m
unfolding steps
steps_append s [] m = refl
steps_append s (b ∷ l) m = steps_append (step_of s b) l m

pub steps_none : (s : Reader) → steps s [] ≡ s
unfolding steps
steps_none s = refl

pub steps_more : (s : Reader) (l : List ℕ) (b : ℕ) → steps s (l ++ (b ∷ [])) ≡ step_of (steps s l) b
unfolding steps
steps_more s l b = steps_append s l (b ∷ [])

-- ---- what a reader makes of what is left of the piece it stands in, and of the pieces behind that

unfoldable resume : Reader → List ℕ → List (List ℕ) → Option Line
resume (Letters x) p ps = joined (letters_from x p) (fields ps (Some Without))
resume (Tab w fs) p ps = joined (Some w) (fields ps (push (Some fs) (number p)))
resume (Digits w fs v) p ps = joined (Some w) (fields ps (push (Some fs) (digits_from v p)))
resume Broken p ps = None

pub fields_none : (ps : List (List ℕ)) → fields ps None ≡ None
unfolding fields push
fields_none [] = refl
fields_none (p ∷ ps) = fields_none ps

refused : (w : Word) (ps : List (List ℕ)) → joined (Some w) (fields ps None) ≡ None
unfolding joined
refused w ps = rw (fields_none ps)

-- a tab
after_word : (o : Option Word) (p : List ℕ) (ps : List (List ℕ)) → joined o (fields (p ∷ ps) (Some Without)) ≡ resume (begun o) p ps
unfolding joined fields resume begun
after_word (Some w) p ps = refl
after_word None p ps = refl

after_field : (w : Word) (o : Option Fields) (p : List ℕ) (ps : List (List ℕ)) → joined (Some w) (fields (p ∷ ps) o) ≡ resume (tabbed w o) p ps
unfolding fields resume tabbed
after_field w (Some fs) p ps = refl
after_field w None p ps = refused w (p ∷ ps)

resume_tab : (s : Reader) (p : List ℕ) (ps : List (List ℕ)) → resume s [] (p ∷ ps) ≡ resume (step_of s 9) p ps
unfolding resume step_of along digits_from pushed push
resume_tab (Letters x) p ps = rw (word_tab x) (after_word (word_of x) p ps)
resume_tab (Tab w fs) p ps = rw (field_tab w fs, number_none) (refused w (p ∷ ps))
resume_tab (Digits w fs v) p ps = rw (digits_tab w fs v) (after_field w (behind fs v) p ps)
resume_tab Broken p ps = refl

-- another byte
field_byte : (good : Bool) (w : Word) (fs : Fields) (v : ℕ) (p : List ℕ) (ps : List (List ℕ))
    → joined (Some w) (fields ps (push (Some fs) (when good then digits_from v p else None))) ≡ resume (when good then Digits w fs v else Broken) p ps
unfolding resume push
field_byte good w fs v p ps = by_truth good (λ g. simp if_true) (λ g. simp if_false (refused w ps))

resume_byte : (s : Reader) (b : ℕ) (p : List ℕ) (ps : List (List ℕ)) → eqb b 9 ≡ false → resume s (b ∷ p) ps ≡ resume (step_of s b) p ps
unfolding resume joined step_of along digits_from
resume_byte (Letters x) b p ps h = rw (if_false _ _ h) (by_truth (letter b and ltb (x * 256 + b) (2 ^ 64)) (λ g. simp if_true) (λ g. simp if_false))
resume_byte (Tab w fs) b p ps h = rw (number_along b p) (field_byte (digit b) w fs (b - 48) p ps)
resume_byte (Digits w fs v) b p ps h = rw (if_false _ _ h) (field_byte _ w fs (v * 10 + (b - 48)) p ps)
resume_byte Broken b p ps h = refl

-- the newline
word_ends : (o : Option Word) → ended (begun o) ≡ joined o (Some Without)
unfolding ended begun joined
word_ends (Some w) = refl
word_ends None = refl

field_ends : (w : Word) (o : Option Fields) → ended (tabbed w o) ≡ joined (Some w) o
unfolding ended tabbed joined
field_ends w (Some fs) = refl
field_ends w None = refl

resume_end : (s : Reader) → finished s ≡ resume s [] []
unfolding finished step_of resume along digits_from fields push pushed tabbed ended
resume_end (Letters x) = rw (word_tab x) (word_ends (word_of x))
resume_end (Tab w fs) = rw (field_tab w fs, number_none) (field_ends w None)
resume_end (Digits w fs v) = rw (digits_tab w fs v) (field_ends w (behind fs v))
resume_end Broken = refl

finished_steps : (s : Reader) (l : List ℕ) → finished (steps s l) ≡ resume s (first l) (others l)
unfolding steps first others
finished_steps s [] = resume_end s
finished_steps s (b ∷ l) =
    finished_steps (step_of s b) l ∙ by_truth (eqb b 9)
    (λ e. simp if_true (ap (λ (a : ℕ). resume (step_of s a) (first l) (others l)) (eqb-true b 9 e) ∙ sym (resume_tab s (first l) (others l))))
    (λ e. simp if_false (sym (resume_byte s b (first l) (others l) e)))

-- the line that was read, but for the limit of 128 bytes
pub finished_joined : (l : List ℕ) → finished (steps (Letters 0) l) ≡ joined (spelled (first l)) (fields (others l) (Some Without))
unfolding resume
finished_joined l = finished_steps (Letters 0) l ∙ ap (λ (o : Option Word). joined o (fields (others l) (Some Without))) (letters_spelled (first l))
