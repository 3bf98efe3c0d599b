-- What is claimed of single label requests and of the states that the machine reaches, each as the answer to a question.
-- proofs/Unchanged.antt and proofs/Reachable.antt prove them.
use Rattle.std.specs.Prelude.{◌↔◌, ◌^◌, ◌<◌, ◌≡◌}
use Rattle.bits.specs.Words.{ℕ, true, List}
use Rattle.table.specs.Table.{is_table}
use Rattle.table.specs.Reading.{word, state}
use Rattle.sound.specs.Answers.{is_sound}
use Rattle.requests.specs.Request.{Ask}
use Rattle.machine.specs.Machine.{Machine, step, begin}
use Rattle.machine.specs.Wall.{final}
use Rattle.image.specs.Image.{image}
use Rattle.image.specs.Test.{is_image}
use Rattle.image.specs.SetUp.{label_set_up}
use Rattle.image.specs.Claims.{Ranged}
use Rattle.labels.specs.Guard.{label_step}

-- Does a label request that is not answered yes change the table? Not one word, of a list of any length and contents.
abbrev pub Unchanged : Type 0
Unchanged = (t : List ℕ) → ((i : ℕ) → word t i < 2 ^ 64) → (q : Ask) → ((label_step t q).answer ≡ 1 → ⊥) → (label_step t q).state ≡ t

-- Does a sound image stay one? Under every label request, refused ones included, so that `labels::serve` may be called again. That
-- it stays sound is `KeptSound` of the crate labels.
abbrev pub KeptImage : Type 0
KeptImage =
    (t : List ℕ) → ((i : ℕ) → word t i < 2 ^ 64) → (q : Ask) → is_sound t ≡ true → is_image (state t) ≡ true
    → is_image (state (label_step t q).state) ≡ true

-- two machine states have the same clearances, labels, seats and openings, of the users, objects, sessions and modes that there are
pub record Same (m n : Machine) : Type 0 where
  pub clearances : (u : ℕ) → u < 64 → m.clearance u ≡ n.clearance u
  pub labels : (o : ℕ) → o < 64 → m.label o ≡ n.label o
  pub seats : (s : ℕ) → s < 32 → m.seat s ≡ n.seat s
  pub openings : (s o x : ℕ) → s < 32 → o < 64 → x < 2 → m.held s o x ≡ n.held s o x

-- the machine can reach the state: some requests after some accepted set-up lead to it
pub record Reachable (m : Machine) : Type 0 where
  pub clearances : List ℕ
  pub labels : List ℕ
  pub accepted : (t : List ℕ) → is_table t ≡ true → (label_set_up t clearances labels).answer ≡ 1
  pub requests : List Ask
  pub reached : Same m (final step (begin clearances labels) requests)

-- Is the image of a machine state, its values in range, sound? Exactly when the machine can reach the state.
abbrev pub ReachableImage : Type 0
ReachableImage = (m : Machine) → Ranged m → is_sound (image m) ≡ true ↔ Reachable m

-- the table is the image of a state that the machine can reach
pub record ImageOfReachable (t : List ℕ) : Type 0 where
  pub machine : Machine
  pub reachable : Reachable machine
  pub is_image : t ≡ image machine

-- When does a sound table pass the image test? Exactly when it is the image of a state that the machine can reach. So refusal
-- 14 reads the same whichever states are meant: all (`ImageMeans` of the crate image) or those that are reached.
abbrev pub ReachableMeans : Type 0
ReachableMeans = (t : List ℕ) → ((i : ℕ) → word t i < 2 ^ 64) → is_sound t ≡ true → is_image (state t) ≡ true ↔ ImageOfReachable t
