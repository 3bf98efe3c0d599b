-- `run` meets its contract: the table and lists that it lends are those of the beginning. Assumes nothing.
use mathlib.Core.Path.{refl}
use Rattle.bits.proofs.Tabulate.{zeros}
use Rattle.table.specs.Table.{table_length}
use Rattle.transcript.proofs.Claims.{begun_is}
use Rattle.guard.proofs.run.Goals as goal

pub serve_all-requires : goal.serve_all-requires
serve_all-requires c =
    begun_is
    c.start.ensures
    (zeros table_length _ (λ i h. refl))
    (zeros 64 _ (λ i h. refl))
    (zeros 8 _ (λ i h. refl))
    (zeros 64 _ (λ i h. refl))
    (zeros 64 _ (λ i h. refl))
