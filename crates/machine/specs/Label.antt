-- Labels (01, "Labels"): a number 0 to 31, for a class from 0 to 3 and a set of three brands, a bit each.
use Rattle.std.specs.Prelude.{◌/◌, ◌%◌}
use Rattle.bits.specs.Words.{ℕ, Bool, true, false, eqb, leb, ◌and◌, when◌then◌else◌, subset}
use Rattle.machine.specs.declared.Standing.{Standing}
use Rattle.machine.specs.declared.Standing.TheVariants.{Equal, Above, Below, Apart}

unfoldable pub class : ℕ → ℕ
class l = l / 8

unfoldable pub brands : ℕ → ℕ
brands l = l % 8

-- how label a stands to b (02, S-2); a dominates b when its class is at least b's and its set holds all of b's (01)
unfoldable pub stands : ℕ → ℕ → Standing
stands a b =
    when eqb a b then Equal else
    when leb (class b) (class a) and subset (brands b) (brands a) then Above else
    when leb (class a) (class b) and subset (brands a) (brands b) then Below else
    Apart

-- the first label dominates the second (01): they are equal, or the first is above
unfoldable pub equal_or_above : Standing → Bool
equal_or_above Equal = true
equal_or_above Above = true
equal_or_above Below = false
equal_or_above Apart = false
