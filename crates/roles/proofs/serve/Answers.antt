-- `serve` meets its contract: codes from 7 on are of administration, the others of sessions, and each refuses what is no code. Assumes
-- nothing.
use mathlib.Core.Path.{sym}
use Rattle.table.proofs.Table.{is_table_lem, not_table}
use Rattle.requests.proofs.Outcome.{comes_to, refused, both, both_to}
use Rattle.rbac.proofs.Guarding.{sound_step_short}
use Rattle.sessions.proofs.Sessions.{session_below}
use Rattle.administration.proofs.Administration.{administration_above}
use Rattle.roles.proofs.serve.Goals as goal

pub returns-then-code-gt6 : goal.returns-then-code-gt6
returns-then-code-gt6 c = both_to (sym (administration_above _ _ (is_table_lem _ c.if-t-ne-WORDS.false) c.if-code-gt6.true)) c.serve.ensures

pub returns : goal.returns
returns c = both_to (sym (session_below _ _ (is_table_lem _ c.if-t-ne-WORDS.false) c.if-code-gt6.false)) c.serve-2.ensures

pub returns-then-t-ne-WORDS : goal.returns-then-t-ne-WORDS
returns-then-t-ne-WORDS c = both (comes_to (sound_step_short _ _ (not_table _ c.if-t-ne-WORDS.true)) refused)
