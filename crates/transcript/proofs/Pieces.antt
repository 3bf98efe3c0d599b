-- Bytes in pieces: what a block comes to is what was served of it, and then what is left. Assumes nothing.
use Prim.Native.Nat.{ℕ, suc, ◌+◌, ◌-◌}
use mathlib.Core.Path.{◌≡◌, refl, sym, ap, ap₂, ◌∙◌}
use mathlib.Core.Bool.{Bool, true, false}
use mathlib.Core.List.{List, [], ◌∷◌, ◌++◌, append_assoc}
use native.Mathlib.Omega.{arith}
use lib.Dec.{eqb}
use lib.ListN.{length, drop}
use Rattle.bits.specs.Words.{◌and◌, when◌then◌else◌}
use Rattle.bits.proofs.Truth.{by_truth, if_true, if_false}
use Rattle.reader.specs.Reader.{step_of}
use Rattle.ledger.specs.Step.{Guards}
use Rattle.transcript.specs.Stream.{Standing, reading, replied, reply, after, emitted, Stop, full, serving, IsServed}

drop_one : (n b : ℕ) (l : List ℕ) → drop n l ≡ drop (1 + n) (b ∷ l)
drop_one n b l = let e : suc n ≡ 1 + n = omega arith in ap (λ (k : ℕ). drop k (b ∷ l)) e

module _ (G : Guards) where
  pub after_append : (p : Standing) (l m : List ℕ) → after G p (l ++ m) ≡ after G (after G p l) m
  unfolding after
  after_append p [] m = refl
  after_append p (b ∷ l) m = after_append (when eqb b 10 then replied G p p.reader else reading p (step_of p.reader b)) l m

  pub emitted_append : (p : Standing) (l m : List ℕ) → emitted G p (l ++ m) ≡ emitted G p l ++ emitted G (after G p l) m
  unfolding after emitted
  emitted_append p [] m = refl
  emitted_append p (b ∷ l) m =
      by_truth (eqb b 10)
      (λ e. simp if_true (ap (λ (r : List ℕ). reply G p p.reader ++ r) (emitted_append (replied G p p.reader) l m) ∙ sym (append_assoc (reply G p p.reader) _ _)))
      (λ e. simp if_false (emitted_append (reading p (step_of p.reader b)) l m))

  -- where bytes l lead to and what they write, from what was served of them
  abbrev Splits : Standing → List ℕ → List ℕ → Stop → Type 0
  Splits stands writes l s = (stands ≡ after G s.stands (drop s.read l)) × (writes ≡ s.wrote ++ emitted G s.stands (drop s.read l))

  pub serving_splits : (room : ℕ) (between : Bool) (p : Standing) (l : List ℕ) → Splits (after G p l) (emitted G p l) l (serving G room between p l)
  unfolding after emitted serving
  serving_splits room between p [] = (refl, refl)
  serving_splits room between p (b ∷ l) =
      by_truth (between and full room p.number) (λ u. simp if_true (refl, refl))
      (λ u. by_truth (eqb b 10)
      (λ e.
      let line = serving G (room - length (reply G p p.reader)) true (replied G p p.reader) l in
      let x = serving_splits (room - length (reply G p p.reader)) true (replied G p p.reader) l in
      simp (if_true, if_false) (
        x.0 ∙ ap (after G line.stands) (drop_one line.read b l),
        ap (λ (w : List ℕ). reply G p p.reader ++ w) (x.1 ∙ ap (λ (m : List ℕ). line.wrote ++ emitted G line.stands m) (drop_one line.read b l))
            ∙ sym (append_assoc (reply G p p.reader) _ _),
      ))
      (λ e.
      let byte = serving G room false (reading p (step_of p.reader b)) l in
      let y = serving_splits room false (reading p (step_of p.reader b)) l in
      simp if_false (
        y.0 ∙ ap (after G byte.stands) (drop_one byte.read b l),
        y.1 ∙ ap (λ (m : List ℕ). byte.wrote ++ emitted G byte.stands m) (drop_one byte.read b l),
      )))

  -- what is left of a block that was served leads where the whole block leads
  pub served_on : (room : ℕ) (p : Standing) (block : List ℕ) {q : Standing} {out out' : List ℕ} {read written : ℕ}
      → IsServed (serving G room true p block) block out q read written out' → after G q (drop read block) ≡ after G p block
  served_on room p block s =
      ap₂ (λ (r : Standing) (n : ℕ). after G r (drop n block)) s.stands_is s.read_is ∙ sym (serving_splits room true p block).0

  pub after_none : (p : Standing) → after G p [] ≡ p
  unfolding after
  after_none p = refl
