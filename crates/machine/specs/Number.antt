-- The number of each way in which two labels stand, for callers in C and Rust and for rows of output.
use Rattle.bits.specs.Words.{ℕ}
use Rattle.machine.specs.declared.Standing.{Standing}
use Rattle.machine.specs.declared.Standing.TheVariants.{Equal, Above, Below, Apart}

abbrev pub standing_number : Standing → ℕ
standing_number Equal = 0
standing_number Above = 1
standing_number Below = 2
standing_number Apart = 3
