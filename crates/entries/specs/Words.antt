-- The words of each mode with their numbers of fields, and where a line may stand: refusals 10 and 11 of 01.
use Rattle.bits.specs.Words.{ℕ, eqb, when◌then◌else◌}
use Rattle.std.specs.Prelude.{Option, Some, None, Result, Ok, Err}
use Rattle.reader.specs.declared.Word.{Word}
use Rattle.reader.specs.declared.Word.TheVariants.{Roles, Lattice, Above, Permit, Clear, Label, Run, Open, Close, Start, End, Activate, Drop, Assign, Deassign, Grant, Revoke, Reclear}
use Rattle.reader.specs.declared.Fields.{Fields}
use Rattle.reader.specs.declared.Fields.TheVariants.{Without, One, Two, Three}
use Rattle.reader.specs.declared.Line.{Line}
use Rattle.entries.specs.declared.Mode.{Mode}
use Rattle.entries.specs.declared.Mode.TheVariants.{RoleMode, LatticeMode}
use Rattle.entries.specs.declared.Phase.{Phase}
use Rattle.entries.specs.declared.Phase.TheVariants.{Opening, SettingUp, Running}
use Rattle.entries.specs.declared.Setting.TheVariants.{Juniors, Permissions, Clearances, Labels}
use Rattle.entries.specs.declared.Item.{Item}
use Rattle.entries.specs.declared.Item.TheVariants.{Chooses, Sets, Runs, Asks}
use Rattle.entries.specs.declared.Fault.{Fault}
use Rattle.entries.specs.declared.Fault.TheVariants.{WrongForm, OutOfPlace}
use Rattle.entries.specs.declared.Due.{Due}
use Rattle.entries.specs.declared.Due.TheVariants.{Choose, Put, SetUp, Request}
use Rattle.entries.specs.declared.Numbers.{Numbers}

-- ---- the words

-- the item of a word that takes k fields, on a line with n
unfoldable pub taking : ℕ → Item → ℕ → Option Item
taking k i n = when eqb n k then Some i else None

-- the words of `roles`; requests by their codes, start with its roles as third field (02, S-1)
unfoldable pub role_item : Word → ℕ → Option Item
role_item Roles n = taking 0 (Chooses RoleMode) n
role_item Lattice n = taking 0 (Chooses LatticeMode) n
role_item Above n = taking 2 (Sets Juniors) n
role_item Permit n = taking 2 (Sets Permissions) n
role_item Clear n = None
role_item Label n = None
role_item Run n = taking 0 Runs n
role_item Open n = taking 3 (Asks 1) n
role_item Close n = taking 3 (Asks 2) n
role_item Start n = taking 3 (Asks 3) n
role_item End n = taking 1 (Asks 4) n
role_item Activate n = taking 2 (Asks 5) n
role_item Drop n = taking 2 (Asks 6) n
role_item Assign n = taking 2 (Asks 7) n
role_item Deassign n = taking 2 (Asks 8) n
role_item Grant n = taking 3 (Asks 9) n
role_item Revoke n = taking 3 (Asks 10) n
role_item Reclear n = None

-- the words of `lattice`
unfoldable pub lattice_item : Word → ℕ → Option Item
lattice_item Roles n = taking 0 (Chooses RoleMode) n
lattice_item Lattice n = taking 0 (Chooses LatticeMode) n
lattice_item Above n = None
lattice_item Permit n = None
lattice_item Clear n = taking 2 (Sets Clearances) n
lattice_item Label n = taking 2 (Sets Labels) n
lattice_item Run n = taking 0 Runs n
lattice_item Open n = taking 3 (Asks 1) n
lattice_item Close n = taking 3 (Asks 2) n
lattice_item Start n = taking 3 (Asks 3) n
lattice_item End n = taking 1 (Asks 4) n
lattice_item Activate n = None
lattice_item Drop n = None
lattice_item Assign n = None
lattice_item Deassign n = None
lattice_item Grant n = None
lattice_item Revoke n = None
lattice_item Reclear n = taking 2 (Asks 5) n

-- the words of a mode
unfoldable pub mode_item : Mode → Word → ℕ → Option Item
mode_item RoleMode w n = role_item w n
mode_item LatticeMode w n = lattice_item w n

-- by the mode of the phase; before there is one, by either, since only the mode words count then
unfoldable pub item_in : Phase → Word → ℕ → Option Item
item_in Opening w n = role_item w n
item_in (SettingUp m) w n = mode_item m w n
item_in (Running m) w n = mode_item m w n

-- how many fields there are, and their numbers; 0 for those that are not listed
unfoldable pub numbers_of : Fields → Numbers
numbers_of Without = record { count = 0; a = 0; b = 0; c = 0 }
numbers_of (One a) = record { count = 1; a = a; b = 0; c = 0 }
numbers_of (Two a b) = record { count = 2; a = a; b = b; c = 0 }
numbers_of (Three a b c) = record { count = 3; a = a; b = b; c = c }

-- ---- the places

-- 01's number of a fault
abbrev pub fault_number : Fault → ℕ
-- "A line of the transcript program is over 128 bytes before its newline, lacks the newline, or is not a word of its mode with
-- its number of fields, each 0 or digits without a leading 0, below 2^64"
fault_number WrongForm = 10
-- "A line stands out of place"
fault_number OutOfPlace = 11

-- what is due for an item with its numbers: what it asks for, or a refusal of its form or of its place
unfoldable pub due_in : Phase → Item → Numbers → Result Due Fault
due_in Opening (Chooses m) v = Ok (Choose m)
due_in Opening (Sets s) v = Err WrongForm
due_in Opening Runs v = Err WrongForm
due_in Opening (Asks code) v = Err WrongForm
due_in (SettingUp m) (Chooses n) v = Err OutOfPlace
due_in (SettingUp m) (Sets s) v = Ok (Put s v.a v.b)
due_in (SettingUp m) Runs v = Ok (SetUp m)
due_in (SettingUp m) (Asks code) v = Err OutOfPlace
due_in (Running m) (Chooses n) v = Err OutOfPlace
due_in (Running m) (Sets s) v = Err OutOfPlace
due_in (Running m) Runs v = Err OutOfPlace
due_in (Running m) (Asks code) v = Ok (Request m code v.a v.b v.c)

-- the same where there is an item; without one the form is wrong, wherever the line stands
unfoldable pub due_if : Phase → Option Item → Numbers → Result Due Fault
due_if p None v = Err WrongForm
due_if p (Some i) v = due_in p i v

-- for a line; one that is no word with numbers behind it has a wrong form wherever it stands
unfoldable pub due_of : Phase → Option Line → Result Due Fault
due_of p None = Err WrongForm
due_of p (Some l) = due_if p (item_in p l.word (numbers_of l.fields).count) (numbers_of l.fields)
