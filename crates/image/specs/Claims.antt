-- What is claimed of images, each as the answer to a question. proofs/Claims.antt and proofs/Beginning.antt prove them.
use Rattle.std.specs.Prelude.{◌↔◌, ◌^◌, ◌<◌, ◌≡◌}
use Rattle.bits.specs.Words.{ℕ, true, List, length}
use Rattle.table.specs.Reading.{word, state}
use Rattle.sound.specs.Answers.{is_sound}
use Rattle.machine.specs.Label.{stands, equal_or_above}
use Rattle.machine.specs.Machine.{Machine, at, may_open}
use Rattle.image.specs.Image.{image}
use Rattle.image.specs.Test.{is_image}
use Rattle.image.specs.SetUp.{label_set_up}

-- the clearances, labels, users and levels of a machine state are in range
pub record Ranged (m : Machine) : Type 0 where
  pub clearances : (u : ℕ) → u < 64 → m.clearance u < 32
  pub labels : (o : ℕ) → o < 64 → m.label o < 32
  pub seats : (s u y : ℕ) → s < 32 → m.seat s ≡ at u y → (u < 64) × (y < 32)

-- its levels are cleared and its openings allowed
pub record Safe (m : Machine) : Type 0 where
  pub cleared : (s u y : ℕ) → s < 32 → m.seat s ≡ at u y → equal_or_above (stands (m.clearance u) y) ≡ true
  pub openings : (s o x : ℕ) → s < 32 → o < 64 → x < 2 → m.held s o x ≡ true → may_open (m.seat s) (m.label o) x ≡ true

-- Is the image of a machine state, its values in range, sound? Exactly when the state is safe.
abbrev pub SoundImage : Type 0
SoundImage = (m : Machine) → Ranged m → is_sound (image m) ≡ true ↔ Safe m

-- the table is the image of a machine state, its values in range
pub record Imaged (t : List ℕ) : Type 0 where
  pub machine : Machine
  pub ranged : Ranged machine
  pub is_image : t ≡ image machine

-- When is a sound table an image? Exactly when the test says so. So refusal 14 is given exactly where 01 gives it, and with
-- `SoundImage` it makes no difference whether all machine states are meant or the safe ones.
abbrev pub ImageMeans : Type 0
ImageMeans = (t : List ℕ) → ((i : ℕ) → word t i < 2 ^ 64) → is_sound t ≡ true → is_image (state t) ≡ true ↔ Imaged t

-- Is the table of an accepted label set-up sound? Always.
abbrev pub SetUpSound : Type 0
SetUpSound = (t clearances labels : List ℕ) → (label_set_up t clearances labels).answer ≡ 1 → is_sound (label_set_up t clearances labels).state ≡ true

-- Does a refused set-up change anything? Nothing, in a list of any length.
abbrev pub SetUpRefused : Type 0
SetUpRefused =
    (t clearances labels : List ℕ) → ((label_set_up t clearances labels).answer ≡ 1 → ⊥) → (label_set_up t clearances labels).state ≡ t

-- Do the old contents of the table matter? Not where a set-up is accepted: whatever a list of that length held, it is accepted and
-- leaves the same table.
abbrev pub OldContents : Type 0
OldContents =
    (t t' clearances labels : List ℕ) → length t ≡ length t' → (label_set_up t clearances labels).answer ≡ 1
    → label_set_up t clearances labels ≡ label_set_up t' clearances labels
