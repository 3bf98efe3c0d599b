-- `perform` meets its contract: arguments out of range, a pair that is no permission and a pair of error 21 are refused, and each arm's
-- request is the one that the code decodes to. Assumes nothing.
use mathlib.Core.Path.{◌≡◌, refl, sym, ◌∙◌}
use native.Mathlib.Omega.{arith}
use borrow.Author.Tests.{not-true, not-false}
use Rattle.std.proofs.lemmas.Grind.{common_steps}
use Rattle.links.proofs.Links.{link_told, link_leaves, unlink_told, unlink_leaves}
use Rattle.requests.specs.Answer.{number_of}
use Rattle.requests.proofs.Outcome.{comes_to, refused, both}
use Rattle.rbac.specs.Roles.{known}
use Rattle.rbac.proofs.Codes.{pair_carried, assign_code, deassign_code, grant_code, revoke_code, static_code, dynamic_code, link_code, unlink_code}
use Rattle.rbac.proofs.Guarding.{is_there, comes, unknown_refused, argument_refused, pair_refused}
use Rattle.administration.proofs.perform.Goals as goal

pub returns-then-not-in_range : goal.returns-then-not-in_range
returns-then-not-in_range c =
    let p = c.requires in
    let l = p.0 in
    both (comes_to (argument_refused _ _ c.told-t (omega arith) p.1 (sym c.in_range.ensures ∙ c.if-not-in_range.true)) refused)

pub assign-requires : goal.assign-requires
assign-requires c = let a = c.args in is_there _ (assign_code a.a a.b a.c c.in-7.is) (sym c.in_range.ensures ∙ c.if-not-in_range.false)

pub returns-in-7 : goal.returns-in-7
unfolding known
returns-in-7 c = both (comes _ _ c.told-t (sym c.in_range.ensures ∙ c.if-not-in_range.false) (assign_code _ _ _ c.in-7.is) refl c.assign.ensures)

pub deassign-requires : goal.deassign-requires
deassign-requires c = let a = c.args in is_there _ (deassign_code a.a a.b a.c c.in-8.is) (sym c.in_range.ensures ∙ c.if-not-in_range.false)

pub returns-in-8 : goal.returns-in-8
unfolding known
returns-in-8 c = both (comes _ _ c.told-t (sym c.in_range.ensures ∙ c.if-not-in_range.false) (deassign_code _ _ _ c.in-8.is) refl c.deassign.ensures)

pub check_permission-requires : goal.check_permission-requires
check_permission-requires c = let a = c.args in (is_there _ (grant_code a.a a.b a.c c.in-9.is) (sym c.in_range.ensures ∙ c.if-not-in_range.false)).1

pub returns-in_err-check_permission-in-9 : goal.returns-in_err-check_permission-in-9
unfolding known
returns-in_err-check_permission-in-9 c =
    let n : number_of c.from_residual.result ≡ 17 = grind (arith, common_steps) in
    rw n (both (comes_to (unknown_refused _ _ c.told-t (sym c.in_range.ensures ∙ c.if-not-in_range.false) (grant_code _ _ _ c.in-9.is) (not-true _ c.in_err-check_permission-in-9.ensures.1)) refused))

pub grant-requires : goal.grant-requires
grant-requires c = let a = c.args in is_there _ (grant_code a.a a.b a.c c.in-9.is) (sym c.in_range.ensures ∙ c.if-not-in_range.false)

pub returns-in_ok-check_permission-in-9 : goal.returns-in_ok-check_permission-in-9
unfolding known
returns-in_ok-check_permission-in-9 c = both (comes _ _ c.told-t (sym c.in_range.ensures ∙ c.if-not-in_range.false) (grant_code _ _ _ c.in-9.is) (not-false _ c.in_ok-check_permission-in-9.ensures) c.grant.ensures)

pub check_permission-requires-in-10 : goal.check_permission-requires-in-10
check_permission-requires-in-10 c = let a = c.args in (is_there _ (revoke_code a.a a.b a.c c.in-10.is) (sym c.in_range.ensures ∙ c.if-not-in_range.false)).1

pub returns-in_err-check_permission-in-10 : goal.returns-in_err-check_permission-in-10
unfolding known
returns-in_err-check_permission-in-10 c =
    let n : number_of c.from_residual-in_err-check_permission-in-10.result ≡ 17 = grind (arith, common_steps) in
    rw n (both (comes_to (unknown_refused _ _ c.told-t (sym c.in_range.ensures ∙ c.if-not-in_range.false) (revoke_code _ _ _ c.in-10.is) (not-true _ c.in_err-check_permission-in-10.ensures.1)) refused))

pub revoke-requires : goal.revoke-requires
revoke-requires c = let a = c.args in is_there _ (revoke_code a.a a.b a.c c.in-10.is) (sym c.in_range.ensures ∙ c.if-not-in_range.false)

pub returns-in_ok-check_permission-in-10 : goal.returns-in_ok-check_permission-in-10
unfolding known
returns-in_ok-check_permission-in-10 c = both (comes _ _ c.told-t (sym c.in_range.ensures ∙ c.if-not-in_range.false) (revoke_code _ _ _ c.in-10.is) (not-false _ c.in_ok-check_permission-in-10.ensures) c.revoke.ensures)

pub returns-in_err-check_pair-in-11 : goal.returns-in_err-check_pair-in-11
returns-in_err-check_pair-in-11 c =
    let n : number_of c.from_residual-in_err-check_pair-in-11.result ≡ 21 = grind (arith, common_steps) in
    let k = c.in-11.is in
    rw n (both (comes_to (pair_refused c.args.t.now _ c.told-t (sym c.in_range.ensures ∙ c.if-not-in_range.false) (pair_carried _ (omega arith) (omega arith) ∙ c.in_err-check_pair-in-11.ensures.1)) refused))

pub separate-requires : goal.separate-requires
separate-requires c = let a = c.args in is_there _ (static_code a.a a.b a.c c.in-11.is c.in_ok-check_pair-in-11.ensures) (sym c.in_range.ensures ∙ c.if-not-in_range.false)

pub returns-in_ok-check_pair-in-11 : goal.returns-in_ok-check_pair-in-11
unfolding known
returns-in_ok-check_pair-in-11 c = both (comes _ _ c.told-t (sym c.in_range.ensures ∙ c.if-not-in_range.false) (static_code _ _ _ c.in-11.is c.in_ok-check_pair-in-11.ensures) refl c.separate.ensures)

pub returns-in_err-check_pair-in-12 : goal.returns-in_err-check_pair-in-12
returns-in_err-check_pair-in-12 c =
    let n : number_of c.from_residual-in_err-check_pair-in-12.result ≡ 21 = grind (arith, common_steps) in
    let k = c.in-12.is in
    rw n (both (comes_to (pair_refused c.args.t.now _ c.told-t (sym c.in_range.ensures ∙ c.if-not-in_range.false) (pair_carried _ (omega arith) (omega arith) ∙ c.in_err-check_pair-in-12.ensures.1)) refused))

pub separate-requires-in-12 : goal.separate-requires-in-12
separate-requires-in-12 c = let a = c.args in is_there _ (dynamic_code a.a a.b a.c c.in-12.is c.in_ok-check_pair-in-12.ensures) (sym c.in_range.ensures ∙ c.if-not-in_range.false)

pub returns-in_ok-check_pair-in-12 : goal.returns-in_ok-check_pair-in-12
unfolding known
returns-in_ok-check_pair-in-12 c = both (comes _ _ c.told-t (sym c.in_range.ensures ∙ c.if-not-in_range.false) (dynamic_code _ _ _ c.in-12.is c.in_ok-check_pair-in-12.ensures) refl c.separate-in-12.ensures)

pub overflow_add-a : goal.overflow_add-a
overflow_add-a c =
    let a = c.args in
    let h = is_there _ (dynamic_code a.a a.b a.c c.in-12.is c.in_ok-check_pair-in-12.ensures) (sym c.in_range.ensures ∙ c.if-not-in_range.false) in
    let l = h.0 in
    omega arith

pub returns-in-13 : goal.returns-in-13
unfolding known
returns-in-13 c =
    let a = c.args in
    let d = link_code a.a a.b a.c c.in-13.is in
    let r = sym c.in_range.ensures ∙ c.if-not-in_range.false in
    let h = is_there _ d r in
    let told = c.link.ensures in
    both (comes _ _ c.told-t r d refl (record {
      answer = link_told a.t.now c.told-t a.a a.b h.0 h.1 told.answer;
      table = link_leaves a.t.now c.told-t a.a a.b h.0 h.1 told.answer told.table;
    }))

pub returns-in_default : goal.returns-in_default
unfolding known
returns-in_default c =
    let a = c.args in
    let e : a.code ≡ 14 = omega arith in
    let d = unlink_code a.a a.b a.c e in
    let r = sym c.in_range.ensures ∙ c.if-not-in_range.false in
    let h = is_there _ d r in
    let told = c.unlink.ensures in
    both (comes _ _ c.told-t r d refl (record {
      answer = unlink_told a.t.now c.told-t a.a a.b h.0 h.1 told.answer;
      table = unlink_leaves a.t.now c.told-t a.a a.b h.0 h.1 told.answer told.table;
    }))
