-- What each request that the label layer makes comes to on the table of a sound state, in the terms of that state alone: the
-- laws by which other crates know the role guard. Assumes nothing.
use Prim.Native.Nat.{ℕ, suc, ◌^◌, ◌≤◌, ◌<◌}
use mathlib.Core.Path.{◌≡◌, refl, sym, ap, ap₂, ◌∙◌}
use mathlib.Core.Bool.{Bool, true, not}
use mathlib.Core.List.{List}
use native.Mathlib.Omega.{arith}
use native.Mathlib.Nat.{le_of_suc-le-suc}
use borrow.Author.Tests.{le-leb}
use Rattle.bits.specs.Words.{◌and◌, upd, has, ◌with◌}
use Rattle.bits.specs.Sets.{each, ◌without◌}
use Rattle.bits.proofs.Truth.{true_and, and_true}
use Rattle.table.specs.State.{State}
use Rattle.table.specs.Authority.{idle, authorised, may_activate, effective}
use Rattle.table.specs.Changes.{with_assigned, with_owner, with_active, with_holds}
use Rattle.table.specs.Separation.{sets_empty}
use Rattle.table.specs.Masks.{refreshed_at}
use Rattle.table.specs.Sound.{sound}
use Rattle.table.specs.Table.{encode}
use Rattle.table.proofs.Encode.{encode_cong}
use Rattle.table.proofs.Masks.{mask_has}
use Rattle.table.proofs.Sound.{sound_ruled, sound_masks}
use Rattle.sound.specs.Answers.{is_sound, sessions_fit}
use Rattle.sound.proofs.Answers.{shown_sound}
use Rattle.separation.proofs.Parts.{empty_fits}
use Rattle.sound.proofs.Parts.{deassign_ruled, deassigned}
use Rattle.requests.specs.Request.{Ask, ask, decide}
use Rattle.requests.proofs.Arguments.{within_intro}
use Rattle.rbac.specs.Roles.{activates, limits, in_range, decode, known}
use Rattle.rbac.specs.Guard.{role_step, allowed_sound, changed_sound}
use Rattle.rbac.proofs.Codes.{is_code_lem, no_pair, ranged}
use Rattle.rbac.proofs.Masks.{changed_same}
use Rattle.rbac.proofs.Same.{allowed_same}
use Rattle.rbac.proofs.Steps.{reach, step_encode, step_sound}

-- what an opening or a closing in range names
pub opening_range : (s o x : ℕ) → in_range (ask 1 s o x) ≡ true → (s < 32) × (o < 64) × (x < 8)
unfolding decode
opening_range s o x r = ranged 1 s o x (omega arith) (omega arith) r (no_pair (ask 1 s o x) (omega arith))

pub closing_range : (s o x : ℕ) → in_range (ask 2 s o x) ≡ true → (s < 32) × (o < 64) × (x < 8)
unfolding decode
closing_range s o x r = ranged 2 s o x (omega arith) (omega arith) r (no_pair (ask 2 s o x) (omega arith))

-- the table of a sound state is sound, and a state whose table is sound is
pub encode_sound : (S : State) → sound S ≡ true → is_sound (encode S) ≡ true
encode_sound S f = shown_sound S refl ∙ f

pub sound_encode : (S : State) → is_sound (encode S) ≡ true → sound S ≡ true
sound_encode S e = sym (shown_sound S refl) ∙ e

-- the state that a request leads to is sound
pub next_sound : (S S' : State) → sound S ≡ true → (q : Ask) → (role_step (encode S) q).state ≡ encode S' → sound S' ≡ true
next_sound S S' f q e = sound_encode S' (sym (ap is_sound e) ∙ step_sound (encode S) q (encode_sound S f))

module _ (S : State) (f : sound S ≡ true) where
  -- a request that meets no refusal is decided by what it can break
  decided_by : (q : Ask) → 1 ≤ q.code → q.code ≤ 10 → in_range q ≡ true → known S (decode q) ≡ true
      → role_step (encode S) q ≡ decide (allowed_sound S (decode q)) 1 1 (encode (changed_sound S (decode q))) (encode S)
  decided_by q l h r k =
      let c = is_code_lem q l (omega arith) in
      let b = no_pair q h in
      let g = sound_ruled S f in
      let m = sound_masks S f in
      step_encode S g m q c r b k
      ∙ ap₂ (λ (d : Bool) (t : List ℕ). decide d 1 1 t (encode S))
      (sym (allowed_same S g m (decode q) (reach S g m q c r b))) (sym (encode_cong (changed_same S m (decode q) (reach S g m q c r b))))

  pub open_is : (s o x : ℕ) → s < 32 → o < 64 → x < 8
      → role_step (encode S) (ask 1 s o x)
      ≡ decide (effective S s x o) 1 1 (encode (with_holds S s (upd (S.holds s) x (S.holds s x with o)))) (encode S)
  unfolding in_range limits decode known
  open_is s o x hs ho hx =
      decided_by (ask 1 s o x) (omega arith) (omega arith)
      (within_intro _ 1 s o x (le_of_suc-le-suc hs) (le_of_suc-le-suc ho) (le_of_suc-le-suc hx)) refl
      ∙ ap (λ (b : Bool). decide b 1 1 (encode (with_holds S s (upd (S.holds s) x (S.holds s x with o)))) (encode S))
      (ap (λ (w : ℕ). has w o) (sound_masks S f s x hs hx) ∙ mask_has S s x o ho)

  pub close_is : (s o x : ℕ) → s < 32 → o < 64 → x < 8
      → role_step (encode S) (ask 2 s o x)
      ≡ decide true 1 1 (encode (with_holds S s (upd (S.holds s) x (S.holds s x without o)))) (encode S)
  unfolding in_range limits decode known
  close_is s o x hs ho hx =
      decided_by (ask 2 s o x) (omega arith) (omega arith)
      (within_intro _ 2 s o x (le_of_suc-le-suc hs) (le_of_suc-le-suc ho) (le_of_suc-le-suc hx)) refl

  pub end_is : (s : ℕ) → s < 32
      → role_step (encode S) (ask 4 s 0 0)
      ≡ decide (not (idle S s)) 1 1 (encode (refreshed_at s (with_holds (with_active (with_owner S s 0) s 0) s (λ x. 0)))) (encode S)
  unfolding in_range limits decode known
  end_is s hs =
      decided_by (ask 4 s 0 0) (omega arith) (omega arith) (within_intro _ 4 s 0 0 (le_of_suc-le-suc hs) (omega arith) (omega arith)) refl

  -- a deassignment is judged by the active roles of the user's sessions
  pub deassign_is : (u r : ℕ) → u < 64 → r < 64
      → role_step (encode S) (ask 8 u r 0)
      ≡ decide (sessions_fit (with_assigned S u (S.assigned u without r)) u) 1 1
      (encode (with_assigned S u (S.assigned u without r))) (encode S)
  unfolding in_range limits decode known
  deassign_is u r hu hr =
      decided_by (ask 8 u r 0) (omega arith) (omega arith)
      (within_intro _ 8 u r 0 (le_of_suc-le-suc hu) (le_of_suc-le-suc hr) (omega arith)) refl
      ∙ ap (λ (b : Bool). decide b 1 1 (encode (with_assigned S u (S.assigned u without r))) (encode S))
      (sym (deassign_ruled S (sound_ruled S f) u r hu) ∙ deassigned S (sound_ruled S f) u r hu)

  -- where no set is in use
  module _ (none : sets_empty S ≡ true) where
    pub start_is : (s u roles : ℕ) → s < 32 → u < 64 → roles < 2 ^ 64
        → role_step (encode S) (ask 3 s u roles)
        ≡ decide (idle S s and each roles (authorised S u)) 1 1 (encode (refreshed_at s (with_active (with_owner S s (suc u)) s roles))) (encode S)
    unfolding in_range limits decode known
    start_is s u roles hs hu hr =
        decided_by (ask 3 s u roles) (omega arith) (omega arith)
        (within_intro _ 3 s u roles (le_of_suc-le-suc hs) (le_of_suc-le-suc hu) (le_of_suc-le-suc hr)) refl
        ∙ ap (λ (b : Bool). decide (idle S s and b) 1 1 (encode (refreshed_at s (with_active (with_owner S s (suc u)) s roles))) (encode S))
        (and_true _ (empty_fits S 16 _ (omega arith) none))

    pub activate_is : (s r : ℕ) → s < 32 → r < 64
        → role_step (encode S) (ask 5 s r 0) ≡ decide (may_activate S s r) 1 1 (encode (changed_sound S (activates s r))) (encode S)
    unfolding in_range limits decode known
    activate_is s r hs hr =
        decided_by (ask 5 s r 0) (omega arith) (omega arith)
        (within_intro _ 5 s r 0 (le_of_suc-le-suc hs) (le_of_suc-le-suc hr) (omega arith)) refl
        ∙ ap (λ (b : Bool). decide b 1 1 (encode (changed_sound S (activates s r))) (encode S))
        (true_and _ (le-leb _ _ ((sound_ruled S f).owners_known s hs)) ∙ and_true _ (empty_fits S 16 _ (omega arith) none))

    pub assign_is : (u r : ℕ) → u < 64 → r < 64
        → role_step (encode S) (ask 7 u r 0) ≡ decide true 1 1 (encode (with_assigned S u (S.assigned u with r))) (encode S)
    unfolding in_range limits decode known
    assign_is u r hu hr =
        decided_by (ask 7 u r 0) (omega arith) (omega arith)
        (within_intro _ 7 u r 0 (le_of_suc-le-suc hu) (le_of_suc-le-suc hr) (omega arith)) refl
        ∙ ap (λ (b : Bool). decide b 1 1 (encode (with_assigned S u (S.assigned u with r))) (encode S)) (empty_fits S 0 _ (omega arith) none)
