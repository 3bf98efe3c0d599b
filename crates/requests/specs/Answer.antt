-- The numbers of yes and no, of refusals 12 to 20 of 01, and of those of 02: 21 of S-4, 22 and 23 of S-8. (10 and 11, of a
-- transcript's lines, are in crate `entries`.)
use Rattle.std.specs.Prelude.{Result, Ok, Err}
use Rattle.bits.specs.Words.{ℕ, Bool, true, false}
use Rattle.requests.specs.declared.Refusal.{Refusal}
use Rattle.requests.specs.declared.Refusal.TheVariants.{WrongLength, Unsound, NoImage, BadCode, BadArgument, NoPermission, BadListLength, BadValue, Cycle, BadPair, BadRate, FullCount}

abbrev pub refusal_number : Refusal → ℕ
refusal_number WrongLength = 12
refusal_number Unsound = 13
refusal_number NoImage = 14
refusal_number BadCode = 15
refusal_number BadArgument = 16
refusal_number NoPermission = 17
refusal_number BadListLength = 18
refusal_number BadValue = 19
refusal_number Cycle = 20
refusal_number BadPair = 21
refusal_number BadRate = 22
refusal_number FullCount = 23

abbrev pub number_of : Result Bool Refusal → ℕ
number_of (Ok true) = 1
number_of (Ok false) = 0
number_of (Err r) = refusal_number r
