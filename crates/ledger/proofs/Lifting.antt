-- From the outcome for a list to the outcome for the whole store. Assumes nothing.
use Prim.Native.Nat.{ℕ}
use mathlib.Core.Path.{◌≡◌, sym, ap, ◌∙◌}
use mathlib.Core.List.{List}
use Rattle.requests.specs.Request.{Outcome, refuse}
use Rattle.std.specs.Prelude.{Option, None, Result}
use Rattle.reader.specs.declared.Line.{Line}
use Rattle.entries.specs.Words.{fault_number, due_of}
use Rattle.entries.specs.declared.Fault.TheVariants.{WrongForm}
use Rattle.entries.specs.declared.Fault.{Fault}
use Rattle.entries.specs.declared.Due.{Due}
use Rattle.entries.specs.declared.Mode.{Mode}
use Rattle.entries.specs.declared.Phase.{Phase}
use Rattle.entries.proofs.Places.{due_refused}
use Rattle.ledger.specs.Store.{Store, with_phase, with_table}
use Rattle.ledger.specs.Step.{outcome, Guards, unguarded, lifted, phase_after, ran, performed, step}

-- the clauses of a contract as one outcome
pub joined : {S : Type 0} {n spent : ℕ} {d : S} {o : Outcome S} → n ≡ o.answer → spent ≡ o.spent → d ≡ o.state → outcome n spent d ≡ o
joined e f g = rw (e, f, g)

pub lift : (f : List ℕ → Store) {l : List ℕ} {n spent : ℕ} {o : Outcome (List ℕ)} → outcome n spent l ≡ o → outcome n spent (f l) ≡ lifted f o
unfolding lifted
lift f e = ap (lifted f) e

-- a set-up, and the phase behind it
pub lift_run : (d : Store) (m : Mode) (o : Outcome (List ℕ)) {s : Store} {p : Phase} {n spent : ℕ}
    → p ≡ phase_after m n → outcome n spent s ≡ lifted (with_table d) o → outcome n spent (with_phase s p) ≡ ran d m o
unfolding ran lifted
lift_run d m o {s} {p} {n} {spent} e c =
    ap (λ (q : Phase). outcome n spent (with_phase s q)) e
    ∙ ap (λ (u : Outcome Store). outcome u.answer u.spent (with_phase u.state (phase_after m u.answer))) c

-- what is due for a line is what the line comes to
pub lift_line : (d : Store) (l : Option Line) {x y : Result Due Fault} {o : Outcome Store} → x ≡ due_of d.phase l → x ≡ y → o ≡ performed unguarded d y → o ≡ step unguarded d l
unfolding step
lift_line d l e f g = g ∙ ap (performed unguarded d) (sym f ∙ e)

-- a line that was refused
pub line_refused : (G : Guards) (d : Store) → step G d None ≡ refuse (fault_number WrongForm) d
unfolding step performed
line_refused G d = ap (performed G d) (due_refused d.phase)
