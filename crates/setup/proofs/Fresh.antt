-- The table that an accepted set-up writes, and that it is sound. Assumes nothing.
use Prim.Native.Nat.{ℕ, ◌≤◌, ◌<◌}
use mathlib.Core.Path.{◌≡◌, refl, sym, ap, ◌∙◌}
use mathlib.Core.Bool.{true}
use mathlib.Core.List.{List}
use native.Mathlib.Omega.{arith}
use lib.ListN.{length, get_or}
use borrow.Author.Tests.{eqb-true}
use Rattle.bits.specs.Words.{tabulate}
use Rattle.bits.specs.Sets.{◌without◌}
use Rattle.bits.proofs.Truth.{clash, is_false, implies_elim}
use Rattle.bits.proofs.Below.{all_intro, all_elim}
use Rattle.bits.proofs.Word.{has_zero, without_other}
use Rattle.bits.proofs.Membership.{each_elim}
use Rattle.bits.proofs.Tabulate.{length_tabulate, get_d_tabulate}
use Rattle.table.specs.Sound.{sound, Ruled}
use Rattle.table.proofs.Sound.{sound_intro}
use Rattle.table.proofs.Keeps.{no_roles_mask}
use Rattle.table.specs.Reading.{permitted_at, assigned_at, granted_at, owner_at, active_at, holds_at, sets_at, direct_at, masks_at, word}
use Rattle.table.specs.Table.{table_length, encode}
use Rattle.table.specs.Answers.{overlay, cleared_from}
use Rattle.table.proofs.Seniority.{closure_linked}
use Rattle.table.proofs.Separation.{separated_elim, empty_separated}
use Rattle.table.proofs.Encode.{shown}
use Rattle.table.proofs.Answers.{length_cleared, cleared_before, cleared_after, length_overlay, overlay_at, overlay_before, overlay_past}
use Rattle.closure.specs.Closure.{closure, acyclic}
use Rattle.setup.specs.SetUp.{fresh}
use Rattle.closure.proofs.Closure.{closure_reflexive, closure_transitive, closure_length, closure_own}

-- the direct juniors without own bits
abbrev pub given : List ℕ → List ℕ
given direct = tabulate 64 (λ r. get_or direct r 0 without r)

module _ (t direct permissions : List ℕ) (e : length t ≡ table_length) (ep : length permissions ≡ 8) where
  abbrev first : List ℕ
  first = overlay t 0 (closure direct)

  abbrev second : List ℕ
  second = overlay first 64 permissions

  abbrev third : List ℕ
  third = cleared_from second 72

  abbrev last : List ℕ
  last = overlay third 1032 (given direct)

  l1 : length first ≡ table_length
  l1 = length_overlay t 0 (closure direct) ∙ e

  l2 : length second ≡ table_length
  l2 = length_overlay first 64 permissions ∙ l1

  l3 : length third ≡ table_length
  l3 = length_cleared second 72 ∙ l2

  before_direct : (i : ℕ) → i < 1032 → word last i ≡ word third i
  before_direct i h = overlay_before third 1032 (given direct) i h (let k = l3 in omega arith)

  zero_at : (i : ℕ) → 72 ≤ i → i < 1032 → word last i ≡ 0
  zero_at i h l = before_direct i l ∙ cleared_after second 72 i h (let k = l2 in omega arith)

  pub written_fresh : last ≡ encode (fresh direct permissions)
  unfolding fresh
  written_fresh =
      let er = closure_length direct in
      let eg = length_tabulate 64 (λ r. get_or direct r 0 without r) in
      shown last _ (length_overlay third 1032 (given direct) ∙ l3) (record {
        juniors = λ r h.
            let k = l2 in let j = l1 in
            before_direct r (omega arith)
            ∙ cleared_before second 72 r (omega arith) (omega arith)
            ∙ overlay_before first 64 permissions r h (omega arith)
            ∙ overlay_at t 0 (closure direct) r (omega arith) (omega arith) (omega arith)
            ∙ ap (λ (i : ℕ). get_or (closure direct) i 0) (omega arith);
        permitted = λ x h.
            let k = l2 in let j = l1 in
            before_direct (permitted_at x) (omega arith)
            ∙ cleared_before second 72 (permitted_at x) (omega arith) (omega arith)
            ∙ overlay_at first 64 permissions (permitted_at x) (omega arith) (omega arith) (omega arith)
            ∙ ap (λ (i : ℕ). get_or permissions i 0) (omega arith);
        assigned = λ u h. zero_at (assigned_at u) (omega arith) (omega arith);
        granted = λ x o h k. zero_at (granted_at x o) (omega arith) (omega arith);
        owner = λ s h. zero_at (owner_at s) (omega arith) (omega arith);
        active = λ s h. zero_at (active_at s) (omega arith) (omega arith);
        holds = λ s x h k. zero_at (holds_at s x) (omega arith) (omega arith);
        sets = λ i h. zero_at (sets_at i) (omega arith) (omega arith);
        direct = λ r h.
            let k = l3 in
            overlay_at third 1032 (given direct) (direct_at r) (omega arith) (omega arith) (omega arith)
            ∙ ap (λ (i : ℕ). get_or (given direct) i 0) (omega arith)
            ∙ get_d_tabulate 64 (λ r. get_or direct r 0 without r) 0 r h;
        masks = λ s x h k.
            let j = l3 in let i = l2 in
            overlay_past third 1032 (given direct) (masks_at s x) (omega arith) (omega arith) ∙ cleared_after second 72 (masks_at s x) (omega arith) (omega arith);
      })

-- seniority is the closure's, and everything else is empty
pub fresh_ruled : (direct permissions : List ℕ) → acyclic (closure direct) ≡ true → Ruled (fresh direct permissions)
unfolding fresh acyclic
fresh_ruled direct permissions a = record {
  is_reflexive = λ r h. closure_reflexive direct r h;
  is_transitive = λ r q p hr hq hp k l. closure_transitive direct r q p hr hq hp k l;
  is_antisymmetric = λ r q hr hq k l. eqb-true r q (implies_elim _ _ (each_elim _ _ (all_elim _ 64 a r hr) q hq k) l);
  grants_permitted = λ x o r hx ho hr m. clash m (has_zero r);
  owners_known = λ s h. omega arith;
  idle_no_roles = λ s h i. refl;
  idle_no_openings = λ s x hs hx i. refl;
  active_authorised = λ s r hs hr m. clash m (has_zero r);
  openings_effective = λ s x o hs hx ho m. clash m (has_zero o);
  is_linked = closure_linked _ _ (λ r h. is_false (λ k. without_other (get_or direct r 0) r r h k refl)) (λ r h. ap (λ (l : List ℕ). get_or l r 0) (sym (closure_own direct)));
  is_separated = separated_elim _ (empty_separated _ (all_intro _ 64 (λ i h. refl)));
}

pub fresh_sound : (direct permissions : List ℕ) → acyclic (closure direct) ≡ true → sound (fresh direct permissions) ≡ true
unfolding fresh
fresh_sound direct permissions a =
    sound_intro _ (fresh_ruled direct permissions a) (λ s x hs hx. sym (no_roles_mask (fresh direct permissions) s x refl))
