-- What is claimed of a transcript's lines, each as the answer to a question. proofs/Claims.antt and proofs/Showing.antt prove them.
use Rattle.std.specs.Prelude.{◌<◌, ◌≡◌, Option}
use Rattle.bits.specs.Words.{ℕ, Bool, true, List, eqb, leb, length, ◌or◌}
use Rattle.table.specs.Table.{is_table}
use Rattle.sound.specs.Answers.{is_sound}
use Rattle.image.specs.SetUp.{are_labels}
use Rattle.image.specs.Claims.{Imaged}
use Rattle.reader.specs.declared.Line.{Line}
use Rattle.entries.specs.declared.Mode.{Mode}
use Rattle.entries.specs.declared.Mode.TheVariants.{RoleMode, LatticeMode}
use Rattle.entries.specs.declared.Phase.{Phase}
use Rattle.entries.specs.declared.Phase.TheVariants.{Opening, SettingUp, Running}
use Rattle.ledger.specs.Store.{Store}
use Rattle.ledger.specs.Step.{guarded, unguarded, step}

-- the table of a mode is sound, and in lattice mode the image of a machine state
unfoldable pub SoundFor : Mode → List ℕ → Type 0
SoundFor RoleMode t = is_sound t ≡ true
SoundFor LatticeMode t = (is_sound t ≡ true) × Imaged t

-- it is so once `run` was accepted
unfoldable pub SoundIn : Phase → List ℕ → Type 0
SoundIn Opening t = Unit {0}
SoundIn (SettingUp m) t = Unit {0}
SoundIn (Running m) t = SoundFor m t

-- the same of what is kept
abbrev pub StoreSound : Store → Type 0
StoreSound d = SoundIn d.phase d.table

-- Does the table stay sound once `run` was accepted? After every line.
abbrev pub StaysSound : Type 0
StaysSound = (d : Store) (l : Option Line) → StoreSound d → StoreSound (step guarded d l).state

-- Does it matter that the program pays for no soundness test after `run`? Not to one answer, figure or word.
abbrev pub ServedSame : Type 0
ServedSame = (d : Store) (l : Option Line) → StoreSound d → step unguarded d l ≡ step guarded d l

-- what a refused line leaves
pub record Left (d : Store) (l : Option Line) : Type 0 where
  pub unchanged : (step guarded d l).state ≡ d
  pub no_spending : (step guarded d l).spent ≡ 0

-- Does a refused line change or spend anything? Nothing.
abbrev pub RefusedLeaves : Type 0
RefusedLeaves = (d : Store) (l : Option Line) → StoreSound d → 1 < (step guarded d l).answer → Left d l

-- the numbers that a transcript shows: no and yes, and refusals 10, 11, 16, 17, 19 and 20
unfoldable pub shows : ℕ → Bool
shows n = leb n 1 or eqb n 10 or eqb n 11 or eqb n 16 or eqb n 17 or eqb n 19 or eqb n 20

-- the table and the lists have their lengths, and the lists of labels hold labels
pub record Proper (d : Store) : Type 0 where
  pub table : is_table d.table ≡ true
  pub juniors : length d.juniors ≡ 64
  pub permissions : length d.permissions ≡ 8
  pub clearances : length d.clearances ≡ 64
  pub labels : length d.labels ≡ 64
  pub clearances_known : are_labels d.clearances ≡ true
  pub labels_known : are_labels d.labels ≡ true

-- Which refusals does no line get? 12 to 15, 18 and 21: where the table and the lists are proper, a line shows none of them, and
-- they stay proper.
abbrev pub LineShows : Type 0
LineShows = (d : Store) (l : Option Line) → StoreSound d → Proper d → (shows (step guarded d l).answer ≡ true) × Proper (step guarded d l).state
