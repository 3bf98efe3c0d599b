-- The claims of specs/Claims.antt. Assumes nothing.
use Prim.Native.Nat.{ℕ, ◌^◌, ◌≤◌, ◌<◌}
use mathlib.Core.Path.{◌≡◌, refl, sym, ap, ap₂, subst, ◌∙◌}
use mathlib.Core.Bool.{Bool, true, false, not}
use mathlib.Core.List.{List, [], ◌∷◌}
use native.Mathlib.Omega.{arith}
use native.Mathlib.Nat.{le_of_suc-le-suc}
use lib.Dec.{eqb}
use borrow.Author.Tests.{eqb-true, eqb-false, ne_eqb, not-true}
use Rattle.bits.specs.Words.{◌and◌, ◌or◌, upd, has, all, ◌with◌}
use Rattle.bits.specs.Sets.{◌without◌}
use Rattle.bits.proofs.Truth.{clash, by_truth, is_false, same_truth, not_intro, and_intro, and_left, and_right, false_or, true_and, false_and, and_true, and_false, and_comm, past, stopped}
use Rattle.bits.proofs.Below.{all_intro, all_elim, any_intro, any_elim}
use Rattle.bits.proofs.Word.{has_with, has_without, with_there, without_absent}
use Rattle.bits.proofs.Membership.{each_intro, each_elim}
use Rattle.table.specs.State.{State}
use Rattle.table.specs.Authority.{senior, permission, idle, authorised, effective}
use Rattle.table.specs.Separation.{mask, sets_empty, separated}
use Rattle.table.specs.Masks.{masks_true, MasksTrue}
use Rattle.table.specs.Sound.{roles_sound, sound, Ruled}
use Rattle.table.specs.Reading.{state}
use Rattle.table.specs.Table.{is_table, encode}
use Rattle.table.proofs.State.{authorised_intro, authorised_elim, effective_intro, effective_elim}
use Rattle.table.proofs.Seniority.{linked_junior}
use Rattle.table.proofs.Separation.{fewer_elim, fewer_intro, empty_separated}
use Rattle.table.proofs.Masks.{mask_has, refreshed_true}
use Rattle.table.proofs.Claims.{mask_means}
use Rattle.table.proofs.Sound.{ruled_is, ruled_elim, ruled_intro, sound_is, sound_ruled, sound_masks}
use Rattle.table.proofs.Table.{table_length_lem}
use Rattle.table.proofs.Agree.{Agree, agree_refl, agree_sym, agree_trans, agree_refreshed, true_refreshed, ruled_agree, upd_other, by_upd, upd_own, grid_same, agree_own_holds, agree_own_active, agree_own_assigned, agree_own_granted, agree_own_set, agree_own_direct}
use Rattle.table.proofs.Encode.{state_encode, encode_cong, encode_state, write_owner, write_active}
use Rattle.masks.proofs.Refreshing.{session_shown}
use Rattle.sound.specs.Answers.{is_sound}
use Rattle.sound.proofs.Answers.{sound_state, sound_table}
use Rattle.requests.specs.Request.{ask, Outcome}
use Rattle.rbac.specs.Roles.{Request, opens, closes, starts, ends, activates, drops, assigns, deassigns, grants, revokes, separates, links, unlinks, limits, in_range, decode, known, roles_allow, allowed, moved, changed}
use Rattle.rbac.specs.Guard.{role_step}
use Rattle.rbac.specs.Served.{Ranged}
use Rattle.rbac.specs.Source.{Sigma, sigma, EP, opened, closed, tau_open, tau_close, Same}
use Rattle.rbac.specs.Claims.{Unchanged, after, KeptSound, KeptApart, plain_step, WithoutSets, ServedSame, IsTableOne, OpenIsTableOne, CloseIsTableOne, MasksKept, OpenIsMask, StartMeans, StartWrites, hangs, SoundnessDecides, idempotent, AddedAgain}
use Rattle.requests.proofs.Outcome.{decide_yes, decide_no}
use Rattle.rbac.proofs.Codes.{next_code, is_code_lem, is_code_elim, no_pair}
use Rattle.rbac.proofs.Guarding.{role_step_short, role_step_unsound, role_step_sound}
use Rattle.rbac.proofs.Masks.{changed_same}
use Rattle.rbac.proofs.Same.{allowed_same, checked_by, step_same}
use Rattle.rbac.proofs.Steps.{answer_of, state_of, Passed, passed, by_step, decided, in_reach, allowed_yes, yes_allowed, after_yes, step_sound}
use Rattle.requests.proofs.Arguments.{within_intro}

-- the words of a table of 64-bit words
record Words (S : State) : Type 0 where
  assigned_word : (u : ℕ) → S.assigned u < 2 ^ 64
  granted_word : (x o : ℕ) → S.granted x o < 2 ^ 64
  active_word : (s : ℕ) → S.active s < 2 ^ 64
  holds_word : (s x : ℕ) → S.holds s x < 2 ^ 64
  direct_word : (r : ℕ) → S.direct r < 2 ^ 64

pub unchanged : Unchanged
unchanged t q n =
    by_step t q
    (λ k h e. state_of e)
    (λ p. by_truth (allowed (state t) (decode q))
    (λ a. absurd (n (answer_of (decided t q p ∙ decide_yes 1 1 _ t a))))
    (λ a. state_of (decided t q p ∙ decide_no 1 1 _ t a)))

pub kept_sound : KeptSound
unfolding after
kept_sound t [] s = s
kept_sound t (q ∷ qs) s = kept_sound (role_step t q).state qs (step_sound t q s)

pub kept_apart : KeptApart
kept_apart t qs s = (sound_ruled _ (sound_state _ (kept_sound t qs s))).is_separated

-- all codes but 11 and 12 leave the sets
same_sets : (S : State) (code a b c : ℕ) → 1 ≤ code → code ≤ 14 → (code ≡ 11 → ⊥) → (code ≡ 12 → ⊥) → (changed S (decode (ask code a b c))).sets ≡ S.sets
unfolding changed decode
same_sets S code a b c l h n11 n12 =
    next_code P 0 refl
    (next_code P 1 refl
    (next_code P 2 refl
    (next_code P 3 refl
    (next_code P 4 refl
    (next_code P 5 refl
    (next_code P 6 refl
    (next_code P 7 refl
    (next_code P 8 refl
    (next_code P 9 refl
    (λ m. let k : 12 < code = omega (arith, n11, n12) in
    next_code P 12 refl
    (next_code P 13 refl
    (λ m. absurd (omega arith))) k)))))))))) l
  where
    P : ℕ → Type 0
    P k = (changed S (decode (ask k a b c))).sets ≡ S.sets

unused : (S : State) (f : ℕ → ℕ) → sets_empty S ≡ true → f ≡ S.sets → all 64 (λ i. eqb (f i) 0) ≡ true
unused S f none e = ap (λ (w : ℕ → ℕ). all 64 (λ i. eqb (w i) 0)) e ∙ none

pub without_sets : WithoutSets
unfolding plain_step allowed
without_sets t q none n11 n12 =
    let S = state t in
    let same : sound S ≡ roles_sound S and masks_true S =
    sound_is S ∙ ap (λ (b : Bool). b and masks_true S) (ruled_is S ∙ and_true _ (empty_separated S none)) in
    by_truth (is_table t)
    (λ i. by_truth (roles_sound S and masks_true S)
    (λ s.
    role_step_sound t q i (same ∙ s)
    ∙ checked_by allowed roles_allow changed changed t q (λ c r b.
    and_true _ (empty_separated _ (unused S _ none (same_sets S q.code q.a q.b q.c (is_code_elim q c).0 (is_code_elim q c).1 n11 n12))))
    (λ c r b. refl)
    ∙ sym (past _ _ i ∙ past _ _ s))
    (λ s. role_step_unsound t q i (same ∙ s) ∙ sym (past _ _ i ∙ stopped _ _ s)))
    (λ i. role_step_short t q i ∙ sym (stopped _ _ i))

pub served_same : ServedSame
served_same t q s = step_same t q (sound_table t s) (sound_state t s)

-- ---- table 1 of source 000

EP-effective : (S : State) (s x o : ℕ) → s < 32 → x < 8 → o < 64 → EP (permission S) (senior S) (sigma S) s x o ≡ effective S s x o
unfolding EP sigma
EP-effective S s x o hs hx ho =
    same_truth
    (λ e.
    let r = any_elim _ 64 (and_right _ _ e) in
    let q = any_elim _ 64 (and_right _ _ r.holds) in
    effective_intro S s x o (record {
      permitted_pair = and_left _ _ e;
      role = r.at;
      below = r.below;
      active_in = and_left _ _ r.holds;
      junior = q.at;
      junior_below = q.below;
      senior_to = and_left _ _ q.holds;
      granted_to = and_right _ _ q.holds;
    }))
    (λ e.
    let f = effective_elim S s x o e in
    and_intro f.permitted_pair
    (any_intro _ 64 f.role f.below (and_intro f.active_in (any_intro _ 64 f.junior f.junior_below (and_intro f.senior_to f.granted_to)))))

-- the states of source 000 of states that agree are the same
same_sigma : {S S' : State} → Agree S S' → Same (sigma S) (sigma S')
unfolding sigma
same_sigma a = record {
  m = λ s o x hs ho hx. ap (λ (w : ℕ). has w o) (a.holds s x hs hx);
  user = λ s hs. a.owner s hs;
  UA = λ u r hu hr. ap (λ (w : ℕ). has w r) (a.assigned u hu);
  PA = λ x o r hx ho hr. ap (λ (w : ℕ). has w r) (a.granted x o hx ho);
  roles = λ s r hs hr. ap (λ (w : ℕ). has w r) (a.active s hs);
}

same_trans : {σ σ' σ'' : Sigma} → Same σ σ' → Same σ' σ'' → Same σ σ''
same_trans a b = record {
  m = λ s o x hs ho hx. a.m s o x hs ho hx ∙ b.m s o x hs ho hx;
  user = λ s hs. a.user s hs ∙ b.user s hs;
  UA = λ u r hu hr. a.UA u r hu hr ∙ b.UA u r hu hr;
  PA = λ x o r hx ho hr. a.PA x o r hx ho hr ∙ b.PA x o r hx ho hr;
  roles = λ s r hs hr. a.roles s r hs hr ∙ b.roles s r hs hr;
}

-- one opening more, and one less, as words and as accesses
module _ (S : State) (s o x : ℕ) where
  here_or : (w : ℕ) (f : Bool → Bool → Bool) → ((b : Bool) → f false b ≡ b)
      → ((q : ℕ) → q < 64 → has w q ≡ f (eqb q o) (has (S.holds s x) q))
      → (p q y : ℕ) → q < 64
      → has (upd S.holds s (upd (S.holds s) x w) p y) q ≡ f (eqb p s and eqb q o and eqb y x) (has (S.holds p y) q)
  here_or w f z k p q y hq =
      by_truth (eqb p s)
      (λ b. by_truth (eqb y x)
      (λ c.
      let e = eqb-true p s b in
      let e' = eqb-true y x c in
      ap₂ (λ (i j : ℕ). has (upd S.holds s (upd (S.holds s) x w) i j) q) e e'
      ∙ ap (λ (v : ℕ). has v q) (grid_same S.holds s x w)
      ∙ k q hq
      ∙ ap₂ f
      (sym (true_and _ b ∙ and_comm (eqb q o) (eqb y x) ∙ true_and _ c))
      (sym (ap₂ (λ (i j : ℕ). has (S.holds i j) q) e e')))
      (λ c.
      elsewhere
      (by_upd S.holds s (upd (S.holds s) x w) (λ (g : ℕ → ℕ). g y ≡ S.holds p y) p
      (λ e. upd_other (S.holds s) x w y (eqb-false y x c) ∙ sym (ap (λ (i : ℕ). S.holds i y) e)) (λ n. refl))
      (and_false (eqb p s) (and_false (eqb q o) c))))
      (λ b. elsewhere (ap (λ (g : ℕ → ℕ). g y) (upd_other S.holds s (upd (S.holds s) x w) p (eqb-false p s b))) (false_and _ b))
    where
      elsewhere : {v : ℕ} {b : Bool} → v ≡ S.holds p y → b ≡ false → has v q ≡ f b (has (S.holds p y) q)
      elsewhere e n = ap (λ (u : ℕ). has u q) e ∙ sym (ap (λ (d : Bool). f d (has (S.holds p y) q)) n ∙ z _)

  opened_sigma : Same (sigma (changed S (opens s o x))) (opened (sigma S) s o x)
  unfolding sigma changed opened
  opened_sigma = record {
    m = λ p q y hp hq hy. here_or (S.holds s x with o) ◌or◌ (λ b. false_or b refl) (λ q h. has_with (S.holds s x) o q h) p q y hq;
    user = λ p hp. refl;
    UA = λ u r hu hr. refl;
    PA = λ y q r hy hq hr. refl;
    roles = λ p r hp hr. refl;
  }

  closed_sigma : Same (sigma (changed S (closes s o x))) (closed (sigma S) s o x)
  unfolding sigma changed closed
  closed_sigma = record {
    m = λ p q y hp hq hy. here_or (S.holds s x without o) (λ b c. not b and c) (λ b. true_and b refl) (λ q h. has_without (S.holds s x) o q h) p q y hq;
    user = λ p hp. refl;
    UA = λ u r hu hr. refl;
    PA = λ y q r hy hq hr. refl;
    roles = λ p r hp hr. refl;
  }

-- an opening or a closing with arguments in range, on a sound table
module _ (t : List ℕ) (s o x : ℕ) (f : is_sound t ≡ true) (hs : s < 32) (ho : o < 64) (hx : x < 8) where
  open_passed : Passed t (ask 1 s o x)
  unfolding in_range limits decode known
  open_passed =
      passed t (ask 1 s o x) f (is_code_lem _ (omega arith) (omega arith))
      (within_intro _ 1 s o x (le_of_suc-le-suc hs) (le_of_suc-le-suc ho) (le_of_suc-le-suc hx)) (no_pair _ (omega arith)) refl

  close_passed : Passed t (ask 2 s o x)
  unfolding in_range limits decode known
  close_passed =
      passed t (ask 2 s o x) f (is_code_lem _ (omega arith) (omega arith))
      (within_intro _ 2 s o x (le_of_suc-le-suc hs) (le_of_suc-le-suc ho) (le_of_suc-le-suc hx)) (no_pair _ (omega arith)) refl

-- where the answer hangs on soundness, the rules of 01 ask for it and for nothing else
by_soundness : (S : State) (r : Request) → hangs r ≡ true → roles_allow S r ≡ roles_sound (changed S r)
unfolding roles_allow
by_soundness S (opens s o x) h = clash h refl
by_soundness S (closes s o x) h = clash h refl
by_soundness S (starts s u roles) h = clash h refl
by_soundness S (ends s) h = clash h refl
by_soundness S (activates s r) h = clash h refl
by_soundness S (drops s r) h = refl
by_soundness S (assigns u r) h = clash h refl
by_soundness S (deassigns u r) h = refl
by_soundness S (grants r x o) h = clash h refl
by_soundness S (revokes r x o) h = refl
by_soundness S (separates n m b) h = refl
by_soundness S (links r q) h = clash h refl
by_soundness S (unlinks r q) h = clash h refl

pub soundness_decides : SoundnessDecides
unfolding allowed changed
soundness_decides t q f c r b k h =
    let p = passed t q f c r b k in
    let T = changed (state t) (decode q) in
    let same = by_soundness (state t) (decode q) h in (
      λ e.
          let y = yes_allowed t q p e in
          record {
            is_ruled = ruled_elim T (ruled_is T ∙ and_intro (sym same ∙ and_left _ _ y) (and_right _ _ y));
            masks_true = refreshed_true (moved (state t) (decode q));
          },
      λ m.
          let s = sym (ruled_is T) ∙ ruled_intro T m.is_ruled in
          allowed_yes t q p (and_intro (same ∙ and_left _ _ s) (and_right _ _ s)),
    )

-- a yes and a no, here and there
module _ (t : List ℕ) {o : Outcome (List ℕ)} {τ : Outcome Sigma} where
  yes_one : (S : State) (σ : Sigma) → o ≡ record { answer = 1; spent = 1; state = encode S } → τ ≡ record { answer = 1; spent = 1; state = σ }
      → Same (sigma S) σ → IsTableOne o τ
  yes_one S σ d e k = record {
    decision = answer_of d ∙ sym (answer_of e);
    next = subst (Same (sigma (state o.state))) (sym (state_of e)) (same_trans (same_sigma (rw (state_of d) (state_encode S))) k);
  }

  no_one : o ≡ record { answer = 0; spent = 1; state = t } → τ ≡ record { answer = 0; spent = 1; state = sigma (state t) } → IsTableOne o τ
  no_one d e = record {
    decision = answer_of d ∙ sym (answer_of e);
    next = subst (Same (sigma (state o.state))) (sym (state_of e)) (same_sigma (rw (state_of d) (agree_refl (state t))));
  }

pub open_is_table_one : OpenIsTableOne
unfolding tau_open decode
open_is_table_one t s o x f hs ho hx =
    let p = open_passed t s o x f hs ho hx in
    let S = state t in
    let q = EP-effective S s x o hs hx ho in
    let same : allowed S (opens s o x) ≡ effective S s x o =
    sym (allowed_same S (sound_ruled S (sound_state t f)) (sound_masks S (sound_state t f)) (opens s o x) (hs, ho, hx))
    ∙ ap (λ (w : ℕ). has w o) (sound_masks S (sound_state t f) s x hs hx) ∙ mask_has S s x o ho in
    by_truth (effective S s x o)
    (λ a.
    yes_one t (changed S (opens s o x)) (opened (sigma S) s o x)
    (decided t (ask 1 s o x) p ∙ decide_yes 1 1 _ t (same ∙ a)) (decide_yes 1 1 _ _ (q ∙ a)) (opened_sigma S s o x))
    (λ a. no_one t (decided t (ask 1 s o x) p ∙ decide_no 1 1 _ t (same ∙ a)) (decide_no 1 1 _ _ (q ∙ a)))

pub close_is_table_one : CloseIsTableOne
unfolding tau_close decode
close_is_table_one t s o x f hs ho hx =
    let S = state t in
    yes_one t (changed S (closes s o x)) (closed (sigma S) s o x)
    (decided t (ask 2 s o x) (close_passed t s o x f hs ho hx)
    ∙ decide_yes 1 1 _ t (sym (allowed_same S (sound_ruled S (sound_state t f)) (sound_masks S (sound_state t f)) (closes s o x) (hs, ho, hx))))
    (decide_yes 1 1 _ _ refl) (closed_sigma S s o x)

-- ---- masks

pub masks_kept : MasksKept
masks_kept t qs s x o f hs hx ho = mask_means (state (after t qs)) s x o (sound_state _ (kept_sound t qs f)) hs hx ho

pub open_is_mask : OpenIsMask
unfolding decode
open_is_mask t s o x f hs ho hx =
    let p = open_passed t s o x f hs ho hx in
    let S = state t in
    let same = allowed_same S (sound_ruled S (sound_state t f)) (sound_masks S (sound_state t f)) (opens s o x) (hs, ho, hx) in
    ((λ e. same ∙ yes_allowed t (ask 1 s o x) p e), (λ m. allowed_yes t (ask 1 s o x) p (sym same ∙ m)))

-- ---- a start

pub start_means : StartMeans
unfolding in_range limits decode known
start_means t s u roles f hs hu hr =
    let S = state t in
    let q = ask 3 s u roles in
    let p =
    passed t q f (is_code_lem q (omega arith) (omega arith))
    (within_intro _ 3 s u roles (le_of_suc-le-suc hs) (le_of_suc-le-suc hu) (le_of_suc-le-suc hr)) (no_pair q (omega arith)) refl in
    let same = allowed_same S (sound_ruled S (sound_state t f)) (sound_masks S (sound_state t f)) (starts s u roles) (hs, hu) in (
      λ e.
          let a = same ∙ yes_allowed t q p e in
          let b = and_right (idle S s) _ a in
          record {
            is_idle = and_left _ _ a;
            all_authorised = λ r h m. authorised_elim S u r (each_elim roles (authorised S u) (and_left _ _ b) r h m);
            breaks_none = λ n h. fewer_elim _ _ (has roles) (all_elim _ 16 (and_right _ _ b) n h);
          },
      λ m. allowed_yes t q p
          (sym same
          ∙ and_intro m.is_idle
          (and_intro (each_intro roles (authorised S u) (λ r h k. authorised_intro S u r (m.all_authorised r h k)))
          (all_intro _ 16 (λ n h. fewer_intro _ _ (has roles) (m.breaks_none n h))))),
    )

pub start_writes : StartWrites
unfolding decode
start_writes t s u roles e =
    let q = ask 3 s u roles in
    after_yes t q e (λ p a z.
    let h = in_reach t q p in
    z ∙ sym (encode_cong (changed_same (state t) (sound_masks (state t) p.is_sound) (starts s u roles) h))
    ∙ sym (session_shown _ s (write_active _ (write_owner (state t) (encode_state t (table_length_lem t p.table)) s _ h.0) s roles h.0) h.0))

-- ---- what is there added, what is absent removed

module _ (S : State) (f : Ruled S) (m : MasksTrue S) (w : Words S) where
  -- the changed state is the same state
  same_moved : (r : Request) → Ranged r → idempotent S r ≡ true → Agree (moved S r) S
  unfolding idempotent
  same_moved (opens s o x) h i = agree_own_holds S s (λ y l. upd_own (S.holds s) x _ (with_there (S.holds s x) o (w.holds_word s x) i) y)
  same_moved (closes s o x) h i = agree_own_holds S s (λ y l. upd_own (S.holds s) x _ (without_absent (S.holds s x) o (w.holds_word s x) (not-true _ i)) y)
  same_moved (starts s u roles) h i = clash i refl
  same_moved (ends s) h i = clash i refl
  same_moved (activates s r) h i = agree_own_active S s (with_there (S.active s) r (w.active_word s) i)
  same_moved (drops s r) h i = agree_own_active S s (without_absent (S.active s) r (w.active_word s) (not-true _ i))
  same_moved (assigns u r) h i = agree_own_assigned S u (with_there (S.assigned u) r (w.assigned_word u) i)
  same_moved (deassigns u r) h i = agree_own_assigned S u (without_absent (S.assigned u) r (w.assigned_word u) (not-true _ i))
  same_moved (grants r x o) h i = agree_own_granted S x o (with_there (S.granted x o) r (w.granted_word x o) i)
  same_moved (revokes r x o) h i = agree_own_granted S x o (without_absent (S.granted x o) r (w.granted_word x o) (not-true _ i))
  same_moved (separates n m b) h i = agree_own_set S n (sym (eqb-true _ m (and_left _ _ i))) (sym (eqb-true _ b (and_right (eqb (mask S n) m) _ i)))
  same_moved (links r q) h i = agree_own_direct S f.is_linked r (with_there (S.direct r) q (w.direct_word r) i)
  same_moved (unlinks r q) h i = clash i refl

  same_state : (r : Request) → Ranged r → idempotent S r ≡ true → Agree (changed S r) S
  unfolding changed
  same_state r h i = agree_trans (agree_refreshed (same_moved r h i)) (agree_sym (true_refreshed S m))

  -- and is sound
  sound_again : (r : Request) → Ranged r → idempotent S r ≡ true → roles_sound (changed S r) and separated (changed S r) ≡ true
  sound_again r h i = sym (ruled_is _) ∙ ruled_agree (same_state r h i) ∙ ruled_intro S f

  -- and the answer is yes
  rules_allow : (r : Request) → Ranged r → idempotent S r ≡ true → roles_allow S r ≡ true
  unfolding roles_allow idempotent
  rules_allow (opens s o x) h i = f.openings_effective s x o h.0 h.2 h.1 i
  rules_allow (closes s o x) h i = refl
  rules_allow (starts s u roles) h i = clash i refl
  rules_allow (ends s) h i = clash i refl
  rules_allow (activates s r) h i = f.active_authorised s r h.0 h.1 i
  rules_allow (drops s r) h i = and_left _ _ (sound_again (drops s r) h i)
  rules_allow (assigns u r) h i = refl
  rules_allow (deassigns u r) h i = and_left _ _ (sound_again (deassigns u r) h i)
  rules_allow (grants r x o) h i = refl
  rules_allow (revokes r x o) h i = and_left _ _ (sound_again (revokes r x o) h i)
  rules_allow (separates n m b) h i = and_left _ _ (sound_again (separates n m b) h i)
  rules_allow (links r q) h i =
      let other : r ≡ q → ⊥ = λ e. clash (ap (has (S.direct r)) e ∙ i) (f.is_linked.own_clear r h.0) in
      and_intro (not_intro (ne_eqb r q other))
      (not_intro (is_false (λ e. other (f.is_antisymmetric r q h.0 h.1 (linked_junior f.is_linked r q h.0 h.1 i) e))))
  rules_allow (unlinks r q) h i = clash i refl

  is_allowed : (r : Request) → Ranged r → idempotent S r ≡ true → allowed S r ≡ true
  unfolding allowed
  is_allowed r h i = and_intro (rules_allow r h i) (and_right (roles_sound (changed S r)) _ (sound_again r h i))

pub added_again : AddedAgain
added_again t q w f c r b k i =
    let S = state t in
    let p = passed t q f c r b k in
    let v : Words S = record { assigned_word = λ u. w _; granted_word = λ x o. w _; active_word = λ s. w _; holds_word = λ s x. w _; direct_word = λ r. w _ } in
    let g = sound_ruled S (sound_state t f) in
    let m = sound_masks S (sound_state t f) in
    let d = decided t q p ∙ decide_yes 1 1 _ t (is_allowed S g m v (decode q) (in_reach t q p) i) in
    record {
      yes_answer = answer_of d;
      same_table = state_of d ∙ encode_cong (same_state S g m v (decode q) (in_reach t q p) i) ∙ sym (encode_state t (table_length_lem t p.table));
    }
