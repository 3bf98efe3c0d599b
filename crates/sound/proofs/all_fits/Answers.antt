-- `all_fits` meets its contract: the first item that does not fit ends the test. Assumes nothing.
use mathlib.Core.Path.{sym, ◌∙◌}
use Rattle.bits.proofs.Truth.{and_intro}
use Rattle.bits.proofs.Below.{widen, all_intro, passed_more, passed_all}
use Rattle.table.proofs.Masks.{masks_elim, masks_intro}
use Rattle.table.proofs.Sound.{sound_ruled, sound_masks}
use Rattle.separation.proofs.Sets.{separated_are}
use Rattle.sound.specs.Answers.{held_within}
use Rattle.sound.specs.Tests.{session_fits}
use Rattle.sound.proofs.Items.{sound_role, sound_roles, sound_held, items_sound}
use Rattle.sound.proofs.Grants.{sound_grants, each_grant}
use Rattle.sound.proofs.Answers.{unsound, found_sound}
use Rattle.sound.proofs.all_fits.Goals as goal

pub loop-x-2-preserved : goal.loop-x-2-preserved
loop-x-2-preserved c = passed_more c.loop-x-2.invariant (widen 8 c.loop-x-2-test.true tt) (sym c.subset.ensures ∙ c.if-not-subset.false)

pub loop-s-preserved : goal.loop-s-preserved
unfolding session_fits held_within
loop-s-preserved c =
    passed_more c.loop-s.invariant (widen 32 c.loop-s-test.true tt)
    (and_intro
    (sym c.roles_fit.ensures ∙ c.if-not-roles_fit.false)
    (all_intro _ 8 (passed_all c.loop-x-2.invariant c.loop-x-2-test.false)))

pub returns-then-not-role_fits : goal.returns-then-not-role_fits
returns-then-not-role_fits c = unsound _ (λ e. sound_role _ (sound_ruled _ e) c.loop-r.r c.loop-r-test.true) (sym c.role_fits.ensures ∙ c.if-not-role_fits.true)

pub returns-then-not-grants_fit : goal.returns-then-not-grants_fit
returns-then-not-grants_fit c =
    unsound _ (λ e. sound_grants _ _ (sound_ruled _ e) (λ o. c.fits-t _) (widen 8 c.loop-x-test.true tt))
    (sym c.grants_fit.ensures ∙ c.if-not-grants_fit.true)

pub returns-then-not-masks_true : goal.returns-then-not-masks_true
returns-then-not-masks_true c = unsound _ (λ e. masks_intro _ (sound_masks _ e)) (sym c.masks_true.ensures ∙ c.if-not-masks_true.true)

pub returns-then-not-roles_fit : goal.returns-then-not-roles_fit
returns-then-not-roles_fit c = unsound _ (λ e. sound_roles _ (sound_ruled _ e) c.loop-s.s (widen 32 c.loop-s-test.true tt)) (sym c.roles_fit.ensures ∙ c.if-not-roles_fit.true)

pub returns-then-not-subset : goal.returns-then-not-subset
returns-then-not-subset c =
    unsound _ (λ e.
    sound_held _ (sound_ruled _ e) (sound_masks _ e) c.loop-s.s c.loop-x-2.x
    (widen 32 c.loop-s-test.true tt) (widen 8 c.loop-x-2-test.true tt))
    (sym c.subset.ensures ∙ c.if-not-subset.true)

pub returns-after-loop-s : goal.returns-after-loop-s
returns-after-loop-s c =
    let all-modes = passed_all c.loop-x.invariant c.loop-x-test.false in
    found_sound _ (c.is_separated.ensures ∙ sym (separated_are _ c.told-t))
    (items_sound _ (record {
      granted_word = λ x o. c.fits-t _;
      active_word = λ s. c.fits-t _;
      holds_word = λ s x. c.fits-t _;
    })
    (passed_all c.loop-r.invariant c.loop-r-test.false)
    (λ x o hx ho. each_grant _ x (all-modes x hx) o ho)
    (masks_elim _ (sym c.masks_true.ensures ∙ c.if-not-masks_true.false))
    (passed_all c.loop-s.invariant c.loop-s-test.false))
