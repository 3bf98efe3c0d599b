-- `perform` meets its contract: arguments out of range are refused, and each arm's request is the one that the code decodes to. Assumes
-- nothing.
use mathlib.Core.Path.{◌≡◌, refl, sym, ◌∙◌}
use native.Mathlib.Omega.{arith}
use Rattle.requests.proofs.Outcome.{comes_to, refused, both}
use Rattle.rbac.specs.Roles.{known}
use Rattle.rbac.proofs.Codes.{open_code, close_code, start_code, end_code, activate_code, drop_code}
use Rattle.rbac.proofs.Guarding.{is_there, comes, argument_refused}
use Rattle.sessions.proofs.perform.Goals as goal

pub returns-then-not-in_range : goal.returns-then-not-in_range
returns-then-not-in_range c =
    let p = c.requires in
    let h = p.1 in
    both (comes_to (argument_refused _ _ c.told-t p.0 (omega arith) (sym c.in_range.ensures ∙ c.if-not-in_range.true)) refused)

pub open-requires : goal.open-requires
open-requires c = let a = c.args in is_there _ (open_code a.a a.b a.c c.in-1.is) (sym c.in_range.ensures ∙ c.if-not-in_range.false)

pub returns-in-1 : goal.returns-in-1
unfolding known
returns-in-1 c = both (comes _ _ c.told-t (sym c.in_range.ensures ∙ c.if-not-in_range.false) (open_code _ _ _ c.in-1.is) refl c.open.ensures)

pub close-requires : goal.close-requires
close-requires c = let a = c.args in is_there _ (close_code a.a a.b a.c c.in-2.is) (sym c.in_range.ensures ∙ c.if-not-in_range.false)

pub returns-in-2 : goal.returns-in-2
unfolding known
returns-in-2 c = both (comes _ _ c.told-t (sym c.in_range.ensures ∙ c.if-not-in_range.false) (close_code _ _ _ c.in-2.is) refl c.close.ensures)

pub start-requires : goal.start-requires
start-requires c = let a = c.args in is_there _ (start_code a.a a.b a.c c.in-3.is) (sym c.in_range.ensures ∙ c.if-not-in_range.false)

pub returns-in-3 : goal.returns-in-3
unfolding known
returns-in-3 c = both (comes _ _ c.told-t (sym c.in_range.ensures ∙ c.if-not-in_range.false) (start_code _ _ _ c.in-3.is) refl c.start.ensures)

pub end-requires : goal.end-requires
end-requires c = let a = c.args in is_there _ (end_code a.a a.b a.c c.in-4.is) (sym c.in_range.ensures ∙ c.if-not-in_range.false)

pub returns-in-4 : goal.returns-in-4
unfolding known
returns-in-4 c = both (comes _ _ c.told-t (sym c.in_range.ensures ∙ c.if-not-in_range.false) (end_code _ _ _ c.in-4.is) refl c.end.ensures)

pub activate-requires : goal.activate-requires
activate-requires c = let a = c.args in is_there _ (activate_code a.a a.b a.c c.in-5.is) (sym c.in_range.ensures ∙ c.if-not-in_range.false)

pub returns-in-5 : goal.returns-in-5
unfolding known
returns-in-5 c = both (comes _ _ c.told-t (sym c.in_range.ensures ∙ c.if-not-in_range.false) (activate_code _ _ _ c.in-5.is) refl c.activate.ensures)

pub drop-requires : goal.drop-requires
drop-requires c =
    let a = c.args in
    let e : a.code ≡ 6 = omega arith in
    is_there _ (drop_code a.a a.b a.c e) (sym c.in_range.ensures ∙ c.if-not-in_range.false)

pub returns-in_default : goal.returns-in_default
unfolding known
returns-in_default c =
    let e : c.args.code ≡ 6 = omega arith in
    both (comes _ _ c.told-t (sym c.in_range.ensures ∙ c.if-not-in_range.false) (drop_code _ _ _ e) refl c.drop.ensures)
