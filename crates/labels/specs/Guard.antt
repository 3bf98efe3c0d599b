-- The label layer of 01: each label request as role requests made on its behalf, its answer and the figure spent.
use Rattle.std.specs.Prelude.{◌+◌, ◌∷◌}
use Rattle.bits.specs.Words.{ℕ, Bool, not, List, [], eqb, length, when◌then◌else◌, ◌with◌}
use Rattle.table.specs.Sound.{sound}
use Rattle.table.specs.Table.{is_table}
use Rattle.table.specs.Reading.{state}
use Rattle.requests.specs.Request.{Ask, ask, Outcome, refuse}
use Rattle.rbac.specs.Guard.{role_step, sound_step}
use Rattle.machine.specs.Machine.{Request, opening, closing, starting, ending, reclearing, is_code, in_range, decode}
use Rattle.image.specs.Test.{machine_of, is_image}

-- the translation of a label request: its answer, and the role requests made on its behalf in order
pub record Plan : Type 0 where
  pub answer : ℕ
  pub requests : List Ask

-- a role guard: the outcome of a role request on a table
abbrev pub RoleGuard : Type 0
RoleGuard = List ℕ → Ask → Outcome (List ℕ)

-- one request, whose answer is the label request's
unfoldable pub single : RoleGuard → List ℕ → Ask → Plan
single guard t q = record { answer = (guard t q).answer; requests = q ∷ [] }

-- nothing where c is the clearance old already; else assign c and deassign old, and after a no deassign c
unfoldable pub reclear_plan : ℕ → Bool → ℕ → ℕ → Plan
reclear_plan old deassigned u c =
    when eqb old c then record { answer = 1; requests = [] } else
    when not deassigned then record { answer = 0; requests = ask 7 u c 0 ∷ ask 8 u old 0 ∷ ask 8 u c 0 ∷ [] } else
    record { answer = 1; requests = ask 7 u c 0 ∷ ask 8 u old 0 ∷ [] }

-- the role guard answers yes
unfoldable pub says_yes : RoleGuard → List ℕ → Ask → Bool
says_yes guard t q = eqb (guard t q).answer 1

-- the translation of each label request; a start is code 3 with the read role and the write role of its level (02, S-1)
unfoldable pub plan : RoleGuard → List ℕ → Request → Plan
plan guard t (opening s o x) = single guard t (ask 1 s o x)
plan guard t (closing s o x) = single guard t (ask 2 s o x)
plan guard t (starting s u y) = single guard t (ask 3 s u (0 with y with (32 + y)))
plan guard t (ending s) = single guard t (ask 4 s 0 0)
plan guard t (reclearing u c) =
    let old = (machine_of (state t)).clearance u in
    reclear_plan old (says_yes guard (guard t (ask 7 u c 0)).state (ask 8 u old 0)) u c

-- the table after the requests
unfoldable pub run : RoleGuard → List ℕ → List Ask → List ℕ
run guard t [] = t
run guard t (q ∷ qs) = run guard (guard t q).state qs

-- spent is the number of role requests made
unfoldable pub carry_out : RoleGuard → List ℕ → Plan → Outcome (List ℕ)
carry_out guard t p = record { answer = p.answer; spent = length p.requests; state = run guard t p.requests }

-- refusals 15 and 16, then the translation
unfoldable pub translated : RoleGuard → List ℕ → Ask → Outcome (List ℕ)
translated guard t q =
    when not (is_code q) then refuse 15 t else
    when not (in_range q) then refuse 16 t else
    carry_out guard t (plan guard t (decode q))

-- a label request: its answer, what it spent, and the table after it
unfoldable pub label_step : List ℕ → Ask → Outcome (List ℕ)
label_step t q =
    when not (is_table t) then refuse 12 t else
    when not (sound (state t)) then refuse 13 t else
    when not (is_image (state t)) then refuse 14 t else
    translated role_step t q

-- a label request without the tests of soundness and image: on a sound image it is `label_step` (Claims)
unfoldable pub image_step : List ℕ → Ask → Outcome (List ℕ)
image_step t q = when not (is_table t) then refuse 12 t else translated sound_step t q
