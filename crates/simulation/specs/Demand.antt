-- Demand 3 of 01, one claim about a whole list of label requests after an accepted label set-up.
use Rattle.std.specs.Prelude.{ℕ, ◌≡◌, true, List, get_or}
use Rattle.requests.specs.Request.{Ask}
use Rattle.machine.specs.Label.{stands, equal_or_above}
use Rattle.machine.specs.Machine.{begin, step}
use Rattle.machine.specs.Wall.{trace, final, Carried}
use Rattle.image.specs.Image.{image}
use Rattle.image.specs.SetUp.{label_set_up}
use Rattle.labels.specs.Guard.{label_step}

-- what is claimed of the guard on the table t after a set-up with these clearances and labels
pub record Simulates (t clearances labels : List ℕ) (qs : List Ask) : Type 0 where
  -- its answers and spent figures are the machine's
  pub same_trace : trace label_step t qs ≡ trace step (begin clearances labels) qs
  -- its table after them is the image of the machine's state after them
  pub same_state : final label_step t qs ≡ image (final step (begin clearances labels) qs)
  -- along its own trace no column is carried into one whose label does not dominate the first
  pub walled : (c d : ℕ) → Carried (trace label_step t qs) c d → equal_or_above (stands (get_or labels d 0) (get_or labels c 0)) ≡ true

-- for every set-up that is accepted, on a table of any contents, and every list of requests, refused ones included
abbrev pub Demand3 : Type 0
Demand3 =
    (t clearances labels : List ℕ) → (label_set_up t clearances labels).answer ≡ 1
    → (qs : List Ask) → Simulates (label_set_up t clearances labels).state clearances labels qs
