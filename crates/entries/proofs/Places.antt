-- Where what is due can be due: a choice of the mode only before there is one, a set-up only before an accepted `run`, and a
-- request only behind it, with a code of its mode. Assumes nothing.
use Prim.Native.Nat.{ℕ, ◌≤◌}
use mathlib.Core.Path.{◌≡◌, refl}
use native.Mathlib.Omega.{arith}
use lib.Dec.{eqb}
use Rattle.std.specs.Prelude.{Option, Some, None, Result, Ok, Err}
use Rattle.bits.proofs.Truth.{by_if}
use Rattle.reader.specs.declared.Word.{Word}
use Rattle.reader.specs.declared.Word.TheVariants.{Roles, Lattice, Above, Permit, Clear, Label, Run, Open, Close, Start, End, Activate, Drop, Assign, Deassign, Grant, Revoke, Reclear}
use Rattle.reader.specs.declared.Line.{Line}
use Rattle.entries.specs.Words.{taking, role_item, lattice_item, mode_item, item_in, numbers_of, due_in, due_if, due_of}
use Rattle.entries.specs.declared.Mode.{Mode}
use Rattle.entries.specs.declared.Mode.TheVariants.{RoleMode, LatticeMode}
use Rattle.entries.specs.declared.Phase.{Phase}
use Rattle.entries.specs.declared.Phase.TheVariants.{Opening, SettingUp, Running}
use Rattle.entries.specs.declared.Setting.TheVariants.{Juniors, Permissions, Clearances, Labels}
use Rattle.entries.specs.declared.Item.{Item}
use Rattle.entries.specs.declared.Item.TheVariants.{Chooses, Sets, Runs, Asks}
use Rattle.entries.specs.declared.Fault.{Fault}
use Rattle.entries.specs.declared.Fault.TheVariants.{WrongForm}
use Rattle.entries.specs.declared.Due.{Due}
use Rattle.entries.specs.declared.Due.TheVariants.{Choose, Put, SetUp, Request}
use Rattle.entries.specs.declared.Numbers.{Numbers}

-- ---- codes

-- the codes of a mode are 1 to this number
abbrev pub most : Mode → ℕ
most RoleMode = 10
most LatticeMode = 5

abbrev Coded : Mode → Option Item → Type 0
Coded m None = Unit {0}
Coded m (Some (Chooses n)) = Unit {0}
Coded m (Some (Sets s)) = Unit {0}
Coded m (Some Runs) = Unit {0}
Coded m (Some (Asks code)) = (1 ≤ code) × (code ≤ most m)

taking_coded : (m : Mode) (k n : ℕ) (i : Item) → Coded m (Some i) → Coded m (taking k i n)
unfolding taking
taking_coded m k n i h = by_if (Coded m) (eqb n k) (λ e. h) (λ e. tt)

asks_coded : (m : Mode) (k code n : ℕ) → 1 ≤ code → code ≤ most m → Coded m (taking k (Asks code) n)
asks_coded m k code n l h = taking_coded m k n (Asks code) (l, h)

role_coded : (w : Word) (n : ℕ) → Coded RoleMode (role_item w n)
unfolding role_item
role_coded Roles n = taking_coded RoleMode _ n (Chooses RoleMode) tt
role_coded Lattice n = taking_coded RoleMode _ n (Chooses LatticeMode) tt
role_coded Above n = taking_coded RoleMode _ n (Sets Juniors) tt
role_coded Permit n = taking_coded RoleMode _ n (Sets Permissions) tt
role_coded Clear n = tt
role_coded Label n = tt
role_coded Run n = taking_coded RoleMode _ n Runs tt
role_coded Open n = asks_coded RoleMode _ 1 n (omega arith) (omega arith)
role_coded Close n = asks_coded RoleMode _ 2 n (omega arith) (omega arith)
role_coded Start n = asks_coded RoleMode _ 3 n (omega arith) (omega arith)
role_coded End n = asks_coded RoleMode _ 4 n (omega arith) (omega arith)
role_coded Activate n = asks_coded RoleMode _ 5 n (omega arith) (omega arith)
role_coded Drop n = asks_coded RoleMode _ 6 n (omega arith) (omega arith)
role_coded Assign n = asks_coded RoleMode _ 7 n (omega arith) (omega arith)
role_coded Deassign n = asks_coded RoleMode _ 8 n (omega arith) (omega arith)
role_coded Grant n = asks_coded RoleMode _ 9 n (omega arith) (omega arith)
role_coded Revoke n = asks_coded RoleMode _ 10 n (omega arith) (omega arith)
role_coded Reclear n = tt

lattice_coded : (w : Word) (n : ℕ) → Coded LatticeMode (lattice_item w n)
unfolding lattice_item
lattice_coded Roles n = taking_coded LatticeMode _ n (Chooses RoleMode) tt
lattice_coded Lattice n = taking_coded LatticeMode _ n (Chooses LatticeMode) tt
lattice_coded Above n = tt
lattice_coded Permit n = tt
lattice_coded Clear n = taking_coded LatticeMode _ n (Sets Clearances) tt
lattice_coded Label n = taking_coded LatticeMode _ n (Sets Labels) tt
lattice_coded Run n = taking_coded LatticeMode _ n Runs tt
lattice_coded Open n = asks_coded LatticeMode _ 1 n (omega arith) (omega arith)
lattice_coded Close n = asks_coded LatticeMode _ 2 n (omega arith) (omega arith)
lattice_coded Start n = asks_coded LatticeMode _ 3 n (omega arith) (omega arith)
lattice_coded End n = asks_coded LatticeMode _ 4 n (omega arith) (omega arith)
lattice_coded Activate n = tt
lattice_coded Drop n = tt
lattice_coded Assign n = tt
lattice_coded Deassign n = tt
lattice_coded Grant n = tt
lattice_coded Revoke n = tt
lattice_coded Reclear n = asks_coded LatticeMode _ 5 n (omega arith) (omega arith)

mode_coded : (m : Mode) (w : Word) (n : ℕ) → Coded m (mode_item m w n)
unfolding mode_item
mode_coded RoleMode w n = role_coded w n
mode_coded LatticeMode w n = lattice_coded w n

-- ---- what is due

-- a choice before there is a mode, a set-up before an accepted `run`, and a request with a code of the mode behind it
abbrev pub Fits : Phase → Result Due Fault → Type 0
Fits p (Err f) = Unit {0}
Fits p (Ok (Choose m)) = p ≡ Opening
Fits p (Ok (Put s i v)) = Unit {0}
Fits p (Ok (SetUp m)) = p ≡ SettingUp m
Fits p (Ok (Request m code a b c)) = (p ≡ Running m) × (1 ≤ code) × (code ≤ most m)

item_fits : (p : Phase) (i : Item) (v : Numbers) → ((m : Mode) → p ≡ Running m → Coded m (Some i)) → Fits p (due_in p i v)
unfolding due_in
item_fits Opening (Chooses m) v h = refl
item_fits Opening (Sets s) v h = tt
item_fits Opening Runs v h = tt
item_fits Opening (Asks code) v h = tt
item_fits (SettingUp m) (Chooses n) v h = tt
item_fits (SettingUp m) (Sets s) v h = tt
item_fits (SettingUp m) Runs v h = refl
item_fits (SettingUp m) (Asks code) v h = tt
item_fits (Running m) (Chooses n) v h = tt
item_fits (Running m) (Sets s) v h = tt
item_fits (Running m) Runs v h = tt
item_fits (Running m) (Asks code) v h = let k = h m refl in (refl, k.0, k.1)

if_fits : (p : Phase) (o : Option Item) (v : Numbers) → ((m : Mode) → p ≡ Running m → Coded m o) → Fits p (due_if p o v)
unfolding due_if
if_fits p None v h = tt
if_fits p (Some i) v h = item_fits p i v h

pub due_fits : (p : Phase) (l : Option Line) → Fits p (due_of p l)
unfolding due_of item_in
due_fits p None = tt
due_fits p (Some l) =
    let n = (numbers_of l.fields).count in
    if_fits p (item_in p l.word n) (numbers_of l.fields) (λ m e. rw e (mode_coded m l.word n))

-- a line that was refused is refused for its form, wherever it stands
pub due_refused : (p : Phase) → due_of p None ≡ Err WrongForm
unfolding due_of
due_refused p = refl
