-- What is claimed of the label layer, each as the answer to a question. proofs/Claims.antt proves them.
use Rattle.std.specs.Prelude.{◌≤◌, ◌≡◌}
use Rattle.bits.specs.Words.{ℕ, true, List}
use Rattle.table.specs.Reading.{state}
use Rattle.sound.specs.Answers.{is_sound}
use Rattle.requests.specs.Request.{Ask}
use Rattle.image.specs.Test.{is_image}
use Rattle.labels.specs.Guard.{label_step, image_step}

-- Does it matter that `serve` leaves the tests of soundness and image out? Not on a sound image.
abbrev pub ServedSame : Type 0
ServedSame = (t : List ℕ) (q : Ask) → is_sound t ≡ true → is_image (state t) ≡ true → image_step t q ≡ label_step t q

-- Does a sound table stay sound? Under every label request, refused ones included.
abbrev pub KeptSound : Type 0
KeptSound = (t : List ℕ) (q : Ask) → is_sound t ≡ true → is_sound (label_step t q).state ≡ true

-- How many role requests does a label request make at most? Three.
abbrev pub AtMostThree : Type 0
AtMostThree = (t : List ℕ) (q : Ask) → (label_step t q).spent ≤ 3
