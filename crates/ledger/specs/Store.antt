-- What a transcript keeps from line to line, and how a set-up line changes a list.
use Rattle.bits.specs.Words.{ℕ, not, List, leb, get_or, ◌and◌, when◌then◌else◌, ◌with◌}
use Rattle.std.specs.Prelude.{set}
use Rattle.requests.specs.Request.{Outcome, refuse, accept}
use Rattle.entries.specs.declared.Phase.{Phase}

pub record Store : Type 0 where
  -- the mode, and whether its set-up is done
  pub phase : Phase
  pub table : List ℕ
  -- the lists that the set-up is made from: in the program 64 words, 8 words, 64 bytes, 64 bytes
  pub juniors : List ℕ
  pub permissions : List ℕ
  pub clearances : List ℕ
  pub labels : List ℕ

abbrev pub store : Phase → List ℕ → List ℕ → List ℕ → List ℕ → List ℕ → Store
store phase table juniors permissions clearances labels = record {
  phase = phase;
  table = table;
  juniors = juniors;
  permissions = permissions;
  clearances = clearances;
  labels = labels;
}

-- with another phase, table or list
abbrev pub with_phase : Store → Phase → Store
with_phase d p = store p d.table d.juniors d.permissions d.clearances d.labels

abbrev pub with_table : Store → List ℕ → Store
with_table d t = store d.phase t d.juniors d.permissions d.clearances d.labels

abbrev pub with_juniors : Store → List ℕ → Store
with_juniors d l = store d.phase d.table l d.permissions d.clearances d.labels

abbrev pub with_permissions : Store → List ℕ → Store
with_permissions d l = store d.phase d.table d.juniors l d.clearances d.labels

abbrev pub with_clearances : Store → List ℕ → Store
with_clearances d l = store d.phase d.table d.juniors d.permissions l d.labels

abbrev pub with_labels : Store → List ℕ → Store
with_labels d l = store d.phase d.table d.juniors d.permissions d.clearances l

-- the member v, 63 at most, is put into word i, last at most, of a list that has it, and a shorter one stays; other values get 19
unfoldable pub added : List ℕ → ℕ → ℕ → ℕ → Outcome (List ℕ)
added list last i v =
    when not (leb i last and leb v 63) then refuse 19 list else
    accept (set list i (get_or list i 0 with v))

-- the label v, 31 at most, is stored at place i, 63 at most, of a list that has it, and a shorter one stays; other values get 19
unfoldable pub stored : List ℕ → ℕ → ℕ → Outcome (List ℕ)
stored list i v =
    when not (leb i 63 and leb v 31) then refuse 19 list else
    accept (set list i v)
