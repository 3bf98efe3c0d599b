-- A transcript by the guards of 01, and without their soundness tests: the same bytes. Assumes nothing.
use Prim.Native.Nat.{ℕ, ◌+◌}
use mathlib.Core.Path.{◌≡◌, refl, ap, ap₂, ◌∙◌}
use mathlib.Core.List.{List, [], ◌∷◌, ◌++◌}
use lib.Dec.{eqb}
use Rattle.bits.proofs.Truth.{by_truth, if_true, if_false}
use Rattle.requests.specs.Request.{Outcome}
use Rattle.reader.specs.Reader.{step_of, finished}
use Rattle.reader.specs.declared.Reader.TheVariants.{Letters}
use Rattle.output.specs.Text.{row}
use Rattle.ledger.specs.Store.{Store}
use Rattle.ledger.specs.Step.{guarded, unguarded}
use Rattle.ledger.specs.Claims.{StoreSound}
use Rattle.ledger.proofs.Claims.{stays_sound, line_same}
use Rattle.transcript.specs.Stream.{Standing, reading, replied, reply, after, emitted}

-- they stand at the same place, which is sound, and write the same
abbrev Agrees : Standing → Standing → List ℕ → List ℕ → Type 0
Agrees stands stands' writes writes' = (stands ≡ stands') × (writes ≡ writes') × StoreSound stands'.kept

pub agrees : (p : Standing) (l : List ℕ) → StoreSound p.kept
    → Agrees (after unguarded p l) (after guarded p l) (emitted unguarded p l) (emitted guarded p l)
unfolding after emitted
agrees p [] h = (refl, refl, h)
agrees p (b ∷ l) h =
    let same = line_same p.kept (finished p.reader) h in
    let stood : replied unguarded p p.reader ≡ replied guarded p p.reader =
    ap (λ (o : Outcome Store). record { kept = o.state; number = p.number + 1; reader = Letters 0 }) same in
    let shown : reply unguarded p p.reader ≡ reply guarded p p.reader = ap (λ (o : Outcome Store). row p.number o.answer o.spent) same in
    let x = agrees (replied guarded p p.reader) l (stays_sound p.kept (finished p.reader) h) in
    by_truth (eqb b 10)
    (λ e. simp if_true (
      ap (λ (q : Standing). after unguarded q l) stood ∙ x.0,
      ap₂ ◌++◌ shown (ap (λ (q : Standing). emitted unguarded q l) stood ∙ x.1),
      x.2,
    ))
    (λ e. simp if_false (agrees (reading p (step_of p.reader b)) l h))
