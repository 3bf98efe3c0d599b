-- `is_apart` meets its contract: of each role that r has it is asked whether it is r or does not have r. Assumes nothing.
use Prim.Native.Nat.{ℕ}
use mathlib.Core.Path.{◌≡◌, sym, ◌∙◌}
use mathlib.Core.Bool.{Bool, true, false}
use lib.Dec.{eqb}
use borrow.Author.Tests.{eq-eqb, ne_eqb}
use Rattle.std.proofs.Common.{rules}
use Rattle.bits.specs.Words.{◌implies◌}
use Rattle.bits.proofs.Truth.{implies_intro, implies_fails, clash}
use Rattle.bits.proofs.Chains.{each_is}
use Rattle.closure.proofs.is_apart.Goals as goal

-- b: role q has r, as a call answered
module _ (r q : ℕ) (b : Bool) where
  is_itself : q ≡ r → b implies eqb r q ≡ true
  is_itself e = implies_intro _ _ (λ h. eq-eqb _ _ (sym e))

  has_not : {a : Bool} → a ≡ b → a ≡ false → b implies eqb r q ≡ true
  has_not e p = implies_intro _ _ (λ h. clash h (sym e ∙ p))

  has_back : {a : Bool} → (q ≡ r → ⊥) → a ≡ b → a ≡ true → b implies eqb r q ≡ false
  has_back n e p = implies_fails (sym e ∙ p) (ne_eqb _ _ (λ z. n (sym z)))

pub returns : goal.returns
returns c =
    each_is _ _ c.of.ensures (c.fits-rows c.args.r) c.all.ensures.ran
    (λ q f k. (search rules, λ l. search (rules, is_itself, has_not))) (λ q f k l. search (rules, has_back))
