-- The numbers of refusals, and what a `?` hands on. Assumes nothing.
use Prim.Native.Nat.{◌≤◌}
use mathlib.Core.Path.{◌≡◌, refl, sym, ap, ◌∙◌}
use mathlib.Core.Bool.{Bool, true, false, beq}
use native.Mathlib.Omega.{arith}
use lib.Dec.{eqb}
use borrow.Author.Tests.{ne_eqb}
use Rattle.std.specs.Prelude.{Option, None, Result, Ok, Err}
use Rattle.std.specs.Option.{ok_or}
use Rattle.std.specs.Result.{IsErrAnd, result_eq}
use Rattle.std.proofs.lemmas.Result.{err_from_is_err_and}
use Rattle.requests.specs.Answer.{refusal_number, number_of}
use Rattle.requests.specs.declared.Refusal.{Refusal}
use Rattle.requests.specs.declared.Refusal.TheVariants.{WrongLength, Unsound, NoImage, BadCode, BadArgument, NoPermission, BadListLength, BadValue, Cycle, BadPair, BadRate, FullCount}

-- a refusal is neither yes nor no
pub refusal_from : (r : Refusal) → 12 ≤ refusal_number r
refusal_from WrongLength = omega arith
refusal_from Unsound = omega arith
refusal_from NoImage = omega arith
refusal_from BadCode = omega arith
refusal_from BadArgument = omega arith
refusal_from NoPermission = omega arith
refusal_from BadListLength = omega arith
refusal_from BadValue = omega arith
refusal_from Cycle = omega arith
refusal_from BadPair = omega arith
refusal_from BadRate = omega arith
refusal_from FullCount = omega arith

-- whether an answer is yes, by its number
pub yes_number : (same : Refusal → Refusal → Bool) (a : Result Bool Refusal) → result_eq beq same a (Ok true) ≡ eqb (number_of a) 1
yes_number same (Ok true) = refl
yes_number same (Ok false) = refl
yes_number same (Err r) = sym (ne_eqb (refusal_number r) 1 (λ z. let h = refusal_from r in omega arith))

-- ---- what a `?` returns

module _ (r : Result Bool Refusal) (d : Refusal) (e : IsErrAnd r (λ x. x ≡ d)) where
  pub handed_on : number_of r ≡ refusal_number d
  handed_on = let p = err_from_is_err_and r e in rw (p.1, p.2) refl

  -- behind `ok_or(why)`
  pub none_refused : {A : Type 0} (o : Option A) (why : Refusal) → o ≡ None → Err d ≡ ok_or o why → number_of r ≡ refusal_number why
  none_refused o why n m = let h = rw n at m in let is : d ≡ why = cc in handed_on ∙ ap refusal_number is
