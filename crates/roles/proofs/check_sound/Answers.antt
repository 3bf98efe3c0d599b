-- `check_sound` meets its contract: on a sound table a request without the soundness test is the same. Assumes nothing.
use mathlib.Core.Path.{sym, ◌∙◌}
use Rattle.table.proofs.Table.{is_table_lem, not_table}
use Rattle.sound.proofs.Answers.{sound_state, unsound_state}
use Rattle.rbac.proofs.Same.{step_same}
use Rattle.rbac.proofs.Guarding.{role_step_short, role_step_unsound}
use Rattle.roles.proofs.check_sound.Goals as goal

pub returns-then-t-ne-WORDS : goal.returns-then-t-ne-WORDS
returns-then-t-ne-WORDS c = λ q. role_step_short _ q (not_table _ c.if-t-ne-WORDS.true)

pub returns-then-not-is_sound : goal.returns-then-not-is_sound
returns-then-not-is_sound c =
    let e = c.if-t-ne-WORDS.false in
    λ q. role_step_unsound _ q (is_table_lem _ e) (unsound_state _ e (sym c.is_sound.ensures ∙ c.if-not-is_sound.true))

pub returns : goal.returns
returns c = λ q. sym (step_same _ q (is_table_lem _ c.if-t-ne-WORDS.false) (sound_state _ (sym c.is_sound.ensures ∙ c.if-not-is_sound.false)))
