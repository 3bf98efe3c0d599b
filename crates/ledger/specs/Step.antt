-- What a line of a transcript comes to: its answer, what it spends, and what is kept after it.
use Rattle.bits.specs.Words.{ℕ, List, eqb, when◌then◌else◌}
use Rattle.std.specs.Prelude.{Option, Result, Ok, Err}
use Rattle.requests.specs.Request.{Ask, ask, Outcome, refuse, accept}
use Rattle.rbac.specs.Guard.{role_step, sound_step}
use Rattle.setup.specs.SetUp.{role_set_up}
use Rattle.image.specs.SetUp.{label_set_up}
use Rattle.labels.specs.Guard.{label_step, image_step}
use Rattle.reader.specs.declared.Line.{Line}
use Rattle.entries.specs.declared.Mode.{Mode}
use Rattle.entries.specs.declared.Mode.TheVariants.{RoleMode, LatticeMode}
use Rattle.entries.specs.declared.Phase.{Phase}
use Rattle.entries.specs.declared.Phase.TheVariants.{SettingUp, Running}
use Rattle.entries.specs.declared.Setting.{Setting}
use Rattle.entries.specs.declared.Setting.TheVariants.{Juniors, Permissions, Clearances, Labels}
use Rattle.entries.specs.declared.Fault.{Fault}
use Rattle.entries.specs.declared.Due.{Due}
use Rattle.entries.specs.declared.Due.TheVariants.{Choose, Put, SetUp, Request}
use Rattle.entries.specs.Words.{fault_number, due_of}
use Rattle.ledger.specs.Store.{Store, with_phase, with_table, with_juniors, with_permissions, with_clearances, with_labels, added, stored}

-- an answer, a figure spent and what is left
abbrev pub outcome : {S : Type 0} → ℕ → ℕ → S → Outcome S
outcome answer spent d = record { answer = answer; spent = spent; state = d }

-- how the requests of the two modes are answered
pub record Guards : Type 0 where
  pub role : List ℕ → Ask → Outcome (List ℕ)
  pub label : List ℕ → Ask → Outcome (List ℕ)

-- by the guards of 01
unfoldable pub guarded : Guards
guarded = record { role = role_step; label = label_step }

-- by what the guards come to on a table that is known to be sound: the program pays for no soundness test after `run`
unfoldable pub unguarded : Guards
unguarded = record { role = sound_step; label = image_step }

-- a request in a mode
unfoldable pub asked : Guards → Mode → List ℕ → Ask → Outcome (List ℕ)
asked G RoleMode t q = G.role t q
asked G LatticeMode t q = G.label t q

-- the set-up of a mode
unfoldable pub set_up_by : Mode → Store → Outcome (List ℕ)
set_up_by RoleMode d = role_set_up d.table d.juniors d.permissions
set_up_by LatticeMode d = label_set_up d.table d.clearances d.labels

-- what an outcome for a part of the store is for the whole
unfoldable pub lifted : (List ℕ → Store) → Outcome (List ℕ) → Outcome Store
lifted f o = record { answer = o.answer; spent = o.spent; state = f o.state }

-- a set-up line
unfoldable pub put : Store → Setting → ℕ → ℕ → Outcome Store
put d Juniors r q = lifted (with_juniors d) (added d.juniors 63 r q)
put d Permissions x o = lifted (with_permissions d) (added d.permissions 7 x o)
put d Clearances u c = lifted (with_clearances d) (stored d.clearances u c)
put d Labels o l = lifted (with_labels d) (stored d.labels o l)

-- the phase after `run` with an answer: an accepted one ends the set-up, a refused one does not
unfoldable pub phase_after : Mode → ℕ → Phase
phase_after m answer = when eqb answer 1 then Running m else SettingUp m

-- `run`, with what the set-up came to
unfoldable pub ran : Store → Mode → Outcome (List ℕ) → Outcome Store
ran d m o = lifted (λ t. with_phase (with_table d t) (phase_after m o.answer)) o

-- what is due is done, and where nothing is due the line is refused
unfoldable pub performed : Guards → Store → Result Due Fault → Outcome Store
performed G d (Err f) = refuse (fault_number f) d
performed G d (Ok (Choose m)) = accept (with_phase d (SettingUp m))
performed G d (Ok (Put s i v)) = put d s i v
performed G d (Ok (SetUp m)) = ran d m (set_up_by m d)
performed G d (Ok (Request m code a b c)) = lifted (with_table d) (asked G m d.table (ask code a b c))

-- a line: what is due for it where it stands
unfoldable pub step : Guards → Store → Option Line → Outcome Store
step G d l = performed G d (due_of d.phase l)
