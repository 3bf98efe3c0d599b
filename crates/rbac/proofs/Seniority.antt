-- The claims of specs/Seniority.antt. Assumes nothing.
use Prim.Native.Nat.{ℕ, ◌≤◌, ◌<◌}
use mathlib.Core.Path.{◌≡◌, refl, sym, ap, ◌∙◌}
use mathlib.Core.Bool.{Bool, true, false, not}
use mathlib.Core.List.{List, [], ◌∷◌}
use mathlib.Core.Logic.{◌↔◌}
use native.Mathlib.Omega.{arith}
use native.Mathlib.Nat.{le_of_suc-le-suc}
use lib.Dec.{eqb}
use lib.ListN.{get_or}
use borrow.Author.Tests.{eqb-false, eq-eqb, ne_eqb, not-true}
use Rattle.bits.specs.Words.{◌and◌, when◌then◌else◌, has, upd, ◌with◌}
use Rattle.bits.specs.Sets.{◌without◌}
use Rattle.bits.proofs.Truth.{clash, by_truth, is_false, not_intro, and_intro, and_left, and_right, true_and, false_and, and_false, or_left, false_or, if_true, if_false, past, stopped}
use Rattle.bits.proofs.Word.{has_with, has_without, has_pack}
use Rattle.closure.specs.Closure.{Reaches}
use Rattle.closure.proofs.Links.{more}
use Rattle.table.specs.State.{State}
use Rattle.table.specs.Authority.{senior}
use Rattle.table.specs.Changes.{with_direct}
use Rattle.table.specs.Seniority.{links}
use Rattle.table.specs.Masks.{refreshed}
use Rattle.table.specs.Sound.{roles_sound, Ruled}
use Rattle.table.specs.Reading.{state}
use Rattle.table.proofs.Agree.{Agree, authorised_agree, effective_agree, by_upd}
use Rattle.table.proofs.Encode.{state_encode}
use Rattle.table.proofs.Keeps.{authorised_more, effective_more}
use Rattle.table.proofs.Seniority.{link_at, link_more}
use Rattle.table.proofs.Separation.{separated_elim, separated_intro}
use Rattle.table.proofs.Masks.{refreshed_true}
use Rattle.table.proofs.Sound.{ruled_is, ruled_elim, ruled_intro, sound_ruled, masks_separated, masks_ruled}
use Rattle.sound.specs.Answers.{is_sound}
use Rattle.sound.proofs.Answers.{sound_state}
use Rattle.requests.specs.Request.{Ask, ask}
use Rattle.rbac.specs.Roles.{unlinks, limits, in_range, decode, known, roles_allow, allowed, changed}
use Rattle.rbac.specs.Guard.{role_step}
use Rattle.rbac.specs.Claims.{after}
use Rattle.rbac.specs.Seniority.{LinkMeans, UnlinkMeans, LinkTakesNothing, UnlinkKeepsOpenings, noted, recorded, recorded_links, SeniorityReached}
use Rattle.rbac.proofs.Claims.{kept_sound}
use Rattle.rbac.proofs.Codes.{next_code, is_code_lem, is_code_elim, no_pair_past}
use Rattle.rbac.proofs.Keeping.{moved_ruled}
use Rattle.requests.proofs.Arguments.{within_intro}
use Rattle.requests.proofs.Outcome.{decide_yes, decide_no}
use Rattle.rbac.proofs.Steps.{answer_of, state_of, Passed, passed, by_step, decided, in_reach, allowed_yes, yes_allowed, after_yes}

-- ---- when the answer is yes

module _ (t : List ℕ) (r q : ℕ) (f : is_sound t ≡ true) (hr : r < 64) (hq : q < 64) where
  link_passed : Passed t (ask 13 r q 0)
  unfolding in_range limits decode known
  link_passed =
      let a = ask 13 r q 0 in
      passed t a f (is_code_lem a (omega arith) (omega arith)) (within_intro _ 13 r q 0 (le_of_suc-le-suc hr) (le_of_suc-le-suc hq) (omega arith)) (no_pair_past a (omega arith)) refl

  unlink_passed : Passed t (ask 14 r q 0)
  unfolding in_range limits decode known
  unlink_passed =
      let a = ask 14 r q 0 in
      passed t a f (is_code_lem a (omega arith) (omega arith)) (within_intro _ 14 r q 0 (le_of_suc-le-suc hr) (le_of_suc-le-suc hq) (omega arith)) (no_pair_past a (omega arith)) refl

pub link_means : LinkMeans
unfolding decode allowed roles_allow changed
link_means t r q f hr hq =
    let S = state t in
    let a = ask 13 r q 0 in
    let p = link_passed t r q f hr hq in
    let reached = (sound_ruled S (sound_state t f)).is_linked.is_reached q r hq hr in (
      λ e.
          let y = yes_allowed t a p e in
          let b = and_left _ _ y in
          record {
            other = eqb-false r q (not-true _ (and_left _ _ b));
            no_way_back = λ k. clash (reached.1 k) (not-true _ (and_right (not (eqb r q)) _ b));
            breaks_none = separated_elim _ (sym (masks_separated _ _) ∙ and_right _ _ y);
          },
      λ m. allowed_yes t a p
          (and_intro (and_intro (not_intro (ne_eqb r q m.other)) (not_intro (is_false (λ k. m.no_way_back (reached.0 k)))))
          (masks_separated _ _ ∙ separated_intro _ m.breaks_none)),
    )

pub unlink_means : UnlinkMeans
unfolding decode allowed roles_allow changed
unlink_means t r q f hr hq =
    let S = state t in
    let a = ask 14 r q 0 in
    let p = unlink_passed t r q f hr hq in (
      λ e.
          let y = yes_allowed t a p e in
          let b = and_left _ _ y in
          record {
            there = and_left _ _ b;
            stays_sound = record {
              is_ruled = ruled_elim _ (ruled_is _ ∙ and_intro (and_right (has (S.direct r) q) _ b) (and_right _ _ y));
              masks_true = refreshed_true _;
            };
          },
      λ m.
          let s = sym (ruled_is _) ∙ ruled_intro _ m.stays_sound.is_ruled in
          allowed_yes t a p (and_intro (and_intro m.there (and_left _ _ s)) (and_right (roles_sound (refreshed (with_direct S r (S.direct r without q)))) _ s)),
    )

-- ---- what a yes leaves

pub link_takes_nothing : LinkTakesNothing
unfolding decode changed
link_takes_nothing t r q c e =
    after_yes t (ask 13 r q c) e (λ p y z.
    let S = state t in
    let S' = refreshed (with_direct S r (S.direct r with q)) in
    let h = in_reach t (ask 13 r q c) p in
    let now : Agree (state (role_step t (ask 13 r q c)).state) S' = rw z (state_encode S') in
    let grow : (a b : ℕ) → a < 64 → b < 64 → senior S a b ≡ true → senior S' a b ≡ true =
    link_more (sound_ruled S p.is_sound).is_linked r q h.0 h.1 in
    record {
      authorised_stay = λ u v hu hv k. authorised_agree now u v hu ∙ authorised_more S S' grow u v hv (λ a ha m. m) k;
      effective_stay = λ s x o hs hx ho k. effective_agree now s x o hs hx ho ∙ effective_more S S' grow s x o refl (λ a ha m. m) (λ a ha m. m) k;
    })

pub unlink_keeps_openings : UnlinkKeepsOpenings
unfolding decode changed
unlink_keeps_openings t r q c s x o e hs hx ho m =
    after_yes t (ask 14 r q c) e (λ p y z.
    let S = state t in
    let S' = refreshed (with_direct S r (S.direct r without q)) in
    let now : Agree (state (role_step t (ask 14 r q c)).state) S' = rw z (state_encode S') in
    let g : Ruled S' = masks_ruled _ (moved_ruled S (sound_ruled S p.is_sound) (unlinks r q) (in_reach t (ask 14 r q c) p) p.is_known y) in
    record {
      still_held = ap (λ (w : ℕ). has w o) (now.holds s x hs hx) ∙ m;
      still_effective = effective_agree now s x o hs hx ho ∙ g.openings_effective s x o hs hx ho m;
    })

-- ---- the links recorded

module _ (q : Ask) (n : ℕ) (old : ℕ → ℕ → Bool) (r p : ℕ) where
  noted_no : (n ≡ 1 → ⊥) → noted q n old r p ≡ old r p
  unfolding noted
  noted_no h = stopped _ _ (false_and _ (ne_eqb n 1 h))

  noted_elsewhere : eqb r q.a and eqb p q.b ≡ false → noted q n old r p ≡ old r p
  unfolding noted
  noted_elsewhere h = stopped _ _ (and_false (eqb n 1) h)

  -- of another code than 13 and 14
  noted_other : eqb q.code 13 ≡ false → eqb q.code 14 ≡ false → noted q n old r p ≡ old r p
  unfolding noted
  noted_other h k =
      by_truth (eqb n 1 and eqb r q.a and eqb p q.b) (λ e. past _ _ e ∙ if_false _ _ h ∙ if_false _ _ k) (λ e. stopped _ _ e)

  noted_same : (old' : ℕ → ℕ → Bool) → old r p ≡ old' r p → noted q n old r p ≡ noted q n old' r p
  unfolding noted
  noted_same old' e =
      ap (λ (b : Bool). when not (eqb n 1 and eqb r q.a and eqb p q.b) then b else (when eqb q.code 13 then true else (when eqb q.code 14 then false else b))) e

module _ (S : State) (a b c r p : ℕ) (hp : p < 64) where
  abbrev old : ℕ → ℕ → Bool
  old r p = has (S.direct r) p

  -- the word of role a is written: the request notes its pair, and no other
  module _ (k w : ℕ) (made : Bool)
      (at : eqb r a and eqb p b ≡ true → noted (ask k a b c) 1 old r p ≡ made) (word : has w p ≡ (when eqb p b then made else has (S.direct a) p)) where
    by_pair : has (upd S.direct a w r) p ≡ noted (ask k a b c) 1 old r p
    by_pair =
        by_upd S.direct a w (λ (v : ℕ). has v p ≡ noted (ask k a b c) 1 old r p) r
        (λ e. by_truth (eqb p b)
        (λ z. word ∙ if_true _ _ z ∙ sym (at (and_intro (eq-eqb r a e) z)))
        (λ z. word ∙ if_false _ _ z ∙ ap (λ (i : ℕ). has (S.direct i) p) (sym e) ∙ sym (noted_elsewhere (ask k a b c) 1 old r p (and_false (eqb r a) z))))
        (λ e. sym (noted_elsewhere (ask k a b c) 1 old r p (false_and _ (ne_eqb r a e))))

  link_noted : has (upd S.direct a (S.direct a with b) r) p ≡ noted (ask 13 a b c) 1 old r p
  unfolding noted
  link_noted =
      by_pair 13 _ true (λ e. past _ _ (true_and _ refl ∙ e) ∙ if_true _ _ refl)
      (has_with (S.direct a) b p hp ∙ by_truth (eqb p b) (λ z. or_left _ z ∙ sym (if_true _ _ z)) (λ z. false_or _ z ∙ sym (if_false _ _ z)))

  unlink_noted : has (upd S.direct a (S.direct a without b) r) p ≡ noted (ask 14 a b c) 1 old r p
  unfolding noted
  unlink_noted =
      by_pair 14 _ false (λ e. past _ _ (true_and _ refl ∙ e) ∙ if_false _ _ refl ∙ if_true _ _ refl)
      (has_without (S.direct a) b p hp ∙ by_truth (eqb p b) (λ z. false_and _ (ap not z) ∙ sym (if_true _ _ z)) (λ z. true_and _ (not_intro z) ∙ sym (if_false _ _ z)))

  changed_noted : (code : ℕ) → 1 ≤ code → code ≤ 14 → has ((changed S (decode (ask code a b c))).direct r) p ≡ noted (ask code a b c) 1 old r p
  unfolding decode changed
  changed_noted code l h =
      next_code P 0 (other 1 refl refl)
      (next_code P 1 (other 2 refl refl)
      (next_code P 2 (other 3 refl refl)
      (next_code P 3 (other 4 refl refl)
      (next_code P 4 (other 5 refl refl)
      (next_code P 5 (other 6 refl refl)
      (next_code P 6 (other 7 refl refl)
      (next_code P 7 (other 8 refl refl)
      (next_code P 8 (other 9 refl refl)
      (next_code P 9 (other 10 refl refl)
      (next_code P 10 (other 11 refl refl)
      (next_code P 11 (other 12 refl refl)
      (next_code P 12 link_noted
      (next_code P 13 unlink_noted
      (λ m. absurd (omega arith))))))))))))))) l
    where
      P : ℕ → Type 0
      P k = has ((changed S (decode (ask k a b c))).direct r) p ≡ noted (ask k a b c) 1 old r p

      other : (k : ℕ) → eqb k 13 ≡ false → eqb k 14 ≡ false → old r p ≡ noted (ask k a b c) 1 old r p
      other k e d = sym (noted_other (ask k a b c) 1 old r p e d)

-- after one request
step_noted : (t : List ℕ) (q : Ask) (r p : ℕ) → r < 64 → p < 64
    → has ((state (role_step t q).state).direct r) p ≡ noted q (role_step t q).answer (λ r p. has ((state t).direct r) p) r p
step_noted t q r p hr hp =
    by_step t q
    (λ n h e. same (λ z. let k = sym (answer_of e) ∙ z in omega arith) (state_of e))
    (λ g. by_truth (allowed (state t) (decode q))
    (λ y.
    let e = decided t q g ∙ decide_yes 1 1 _ t y in
    let k = is_code_elim q g.code in
    ap (λ (l : List ℕ). has ((state l).direct r) p) (state_of e)
    ∙ ap (λ (w : ℕ). has w p) ((state_encode (changed (state t) (decode q))).direct r hr)
    ∙ changed_noted (state t) q.a q.b q.c r p hp q.code k.0 k.1
    ∙ sym (ap (λ (n : ℕ). noted q n old r p) (answer_of e)))
    (λ y.
    let e = decided t q g ∙ decide_no 1 1 _ t y in
    same (λ z. let k = sym (answer_of e) ∙ z in omega arith) (state_of e)))
  where
    old : ℕ → ℕ → Bool
    old r p = has ((state t).direct r) p

    same : ((role_step t q).answer ≡ 1 → ⊥) → (role_step t q).state ≡ t → has ((state (role_step t q).state).direct r) p ≡ noted q (role_step t q).answer old r p
    same n e = ap (λ (l : List ℕ). has ((state l).direct r) p) e ∙ sym (noted_no q (role_step t q).answer old r p n)

-- after all of them
recorded_is : (qs : List Ask) (t : List ℕ) (f : ℕ → ℕ → Bool) → ((r p : ℕ) → r < 64 → p < 64 → f r p ≡ has ((state t).direct r) p)
    → (r p : ℕ) → r < 64 → p < 64 → recorded f t qs r p ≡ has ((state (after t qs)).direct r) p
unfolding recorded after
recorded_is [] t f e = e
recorded_is (q ∷ qs) t f e =
    recorded_is qs (role_step t q).state (noted q (role_step t q).answer f)
    (λ r p hr hp. noted_same q (role_step t q).answer f r p (λ r p. has ((state t).direct r) p) (e r p hr hp) ∙ sym (step_noted t q r p hr hp))

pub seniority_reached : SeniorityReached
seniority_reached t qs r q f hr hq = (λ e. more _ _ forth hr (reached.0 e), λ e. reached.1 (more _ _ back hr e))
  where
    S : State
    S = state (after t qs)

    reached : senior S r q ≡ true ↔ Reaches (links S.direct) r q
    reached = (sound_ruled S (sound_state (after t qs) (kept_sound t qs f))).is_linked.is_reached r q hr hq

    noted_there : (a x : ℕ) → a < 64 → x < 64 → has (get_or (recorded_links t qs) a 0) x ≡ has (get_or (links S.direct) a 0) x
    noted_there a x ha hx =
        ap (λ (w : ℕ). has w x) (link_at _ a ha)
        ∙ has_pack _ 64 x hx
        ∙ recorded_is qs t _ (λ r p hr hp. refl) a x ha hx
        ∙ sym (ap (λ (w : ℕ). has w x) (link_at S.direct a ha))

    forth : (a x : ℕ) → a < 64 → x < 64 → has (get_or (links S.direct) a 0) x ≡ true → has (get_or (recorded_links t qs) a 0) x ≡ true
    forth a x ha hx k = noted_there a x ha hx ∙ k

    back : (a x : ℕ) → a < 64 → x < 64 → has (get_or (recorded_links t qs) a 0) x ≡ true → has (get_or (links S.direct) a 0) x ≡ true
    back a x ha hx k = sym (noted_there a x ha hx) ∙ k
