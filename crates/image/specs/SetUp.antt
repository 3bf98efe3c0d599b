-- The label set-up of 01: refusals 12, 18 and 19 in order, then the image of the machine at its start.
use Rattle.bits.specs.Words.{ℕ, Bool, not, List, eqb, ltb, length, get_or, ◌and◌, when◌then◌else◌, all}
use Rattle.table.specs.Table.{is_table}
use Rattle.requests.specs.Request.{Outcome, refuse, accept}
use Rattle.machine.specs.Machine.{begin}
use Rattle.image.specs.Image.{image}

-- the values of a list of 64 are labels
unfoldable pub are_labels : List ℕ → Bool
are_labels values = all 64 (λ i. ltb (get_or values i 0) 32)

unfoldable pub label_set_up : List ℕ → List ℕ → List ℕ → Outcome (List ℕ)
label_set_up t clearances labels =
    when not (is_table t) then refuse 12 t else
    when not (eqb (length clearances) 64 and eqb (length labels) 64) then refuse 18 t else
    when not (are_labels clearances and are_labels labels) then refuse 19 t else
    accept (image (begin clearances labels))
