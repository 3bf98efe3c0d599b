-- The code's record of what a transcript keeps, as a store.
use Rattle.std.specs.Prelude.{◌≡◌}
use Rattle.ledger.specs.declared.Ledger.{Ledger}
use Rattle.ledger.specs.Store.{Store, store}

-- what is behind its lent table and lists
abbrev pub shown : Ledger → Store
shown l = store l.phase l.table.now l.juniors.now l.permissions.now l.clearances.now l.labels.now

-- the table and lists that are lent are still the same ones
pub record SameLists (old new : Ledger) : Type 0 where
  pub table : new.table.ghost_name ≡ old.table.ghost_name
  pub juniors : new.juniors.ghost_name ≡ old.juniors.ghost_name
  pub permissions : new.permissions.ghost_name ≡ old.permissions.ghost_name
  pub clearances : new.clearances.ghost_name ≡ old.clearances.ghost_name
  pub labels : new.labels.ghost_name ≡ old.labels.ghost_name
