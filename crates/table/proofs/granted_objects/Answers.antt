-- `granted_objects` meets its contract: there are no roles, all objects are permissions, or these are picked. Assumes nothing.
use mathlib.Core.Path.{◌∙◌}
use Rattle.table.specs.Reading.{state}
use Rattle.table.proofs.Answers.{granted_none, granted_all}
use Rattle.table.proofs.granted_objects.Goals as goal

pub returns-then-roles-eq0 : goal.returns-then-roles-eq0
returns-then-roles-eq0 c = let a = c.args in granted_none (state a.t.now) a.x a.roles c.if-roles-eq0.true

pub returns-then-permitted : goal.returns-then-permitted
returns-then-permitted c = let a = c.args in c.meeting.ensures ∙ granted_all (state a.t.now) a.x a.roles c.if-permitted.true
