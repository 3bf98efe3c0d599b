-- What the comparison of two labels answers: refusal 16 where a number is no label, else the number of how they stand (02, S-2).
use Rattle.bits.specs.Words.{ℕ, not, ltb, ◌and◌, when◌then◌else◌}
use Rattle.machine.specs.Label.{stands}
use Rattle.machine.specs.Number.{standing_number}

unfoldable pub compare_labels : ℕ → ℕ → ℕ
compare_labels a b =
    when not (ltb a 32 and ltb b 32) then 16 else
    standing_number (stands a b)
