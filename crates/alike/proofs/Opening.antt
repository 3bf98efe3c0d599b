-- Openings and closings on two tables that are alike. Assumes nothing.
use Prim.Native.Nat.{ℕ}
use mathlib.Core.Path.{◌≡◌, refl, sym, ap, ap₂, subst, ◌∙◌}
use mathlib.Core.Bool.{Bool, true}
use mathlib.Core.List.{List, [], ◌∷◌}
use native.Mathlib.Omega.{arith}
use lib.Dec.{eqb}
use borrow.Author.Tests.{eqb-true}
use Rattle.bits.specs.Words.{◌or◌, upd, ◌with◌}
use Rattle.bits.specs.Sets.{◌without◌}
use Rattle.bits.proofs.Truth.{by_truth, and_left, and_right, or_elim}
use Rattle.table.specs.State.{State}
use Rattle.table.specs.Changes.{with_holds}
use Rattle.table.specs.Reading.{state}
use Rattle.table.specs.Table.{encode}
use Rattle.bits.proofs.Upd.{grid_agree}
use Rattle.table.proofs.Keeps.{authorised_same, effective_same}
use Rattle.table.proofs.Encode.{encode_state}
use Rattle.table.proofs.Table.{table_length_lem}
use Rattle.sound.specs.Answers.{is_sound}
use Rattle.sound.proofs.Answers.{sound_state, sound_table}
use Rattle.requests.specs.Request.{Ask, ask, decide}
use Rattle.rbac.specs.Roles.{is_code, in_range, allowed, changed}
use Rattle.rbac.specs.Guard.{role_step}
use Rattle.rbac.specs.Claims.{after}
use Rattle.requests.proofs.Outcome.{decide_yes, decide_no}
use Rattle.rbac.proofs.Codes.{is_code_lem}
use Rattle.rbac.proofs.Guarding.{role_step_sound, checked_argument}
use Rattle.rbac.proofs.Steps.{answer_of, state_of, step_sound}
use Rattle.rbac.proofs.Requests.{opening_range, closing_range, open_is, close_is}
use Rattle.alike.specs.Likeness.{Alike}
use Rattle.alike.specs.Claims.{AlikeTables, answers, openings_only, OpenedAlike}
use Rattle.alike.proofs.Likeness.{shown_alike}
use Rattle.alike.proofs.Claims.{alike_intro, alike_elim}

-- alike states with the same openings put in
held_alike : {S S' : State} → Alike S S' → (s x : ℕ) {w w' : ℕ} → w ≡ w'
    → Alike (with_holds S s (upd (S.holds s) x w)) (with_holds S' s (upd (S'.holds s) x w'))
held_alike {S} {S'} a s x e = record {
  same_openings = λ p y hp hy. grid_agree S.holds S'.holds s x p y e (a.same_openings p y hp hy);
  same_permissions = λ p y o hp hy ho. effective_same _ S refl p y o refl refl refl ∙ a.same_permissions p y o hp hy ho ∙ effective_same S' _ refl p y o refl refl refl;
  same_roles = λ u q hu hq. authorised_same _ S refl u q refl ∙ a.same_roles u q hu hq ∙ authorised_same S' _ refl u q refl;
}

-- one request: the same answer, and tables that are alike
record StepAlike (t t' : List ℕ) (q : Ask) : Type 0 where
  same_answer : (role_step t q).answer ≡ (role_step t' q).answer
  alike_next : AlikeTables (role_step t q).state (role_step t' q).state

module _ {t t' : List ℕ} (l : AlikeTables t t') where
  come_to : (q : Ask) {u u' : List ℕ} (n : ℕ) → (role_step t q).answer ≡ n → (role_step t' q).answer ≡ n
      → (role_step t q).state ≡ u → (role_step t' q).state ≡ u' → Alike (state u) (state u') → StepAlike t t' q
  come_to q {u} {u'} n e e' k k' a = record {
    same_answer = e ∙ sym e';
    alike_next = record {
      first_sound = step_sound t q l.first_sound;
      second_sound = step_sound t' q l.second_sound;
      alike_states = rw k (rw k' a);
    };
  }

  -- its arguments, which are the same for both, are out of range, or not
  in_range_lem : (q : Ask) → is_code q ≡ true → (in_range q ≡ true → StepAlike t t' q) → StepAlike t t' q
  in_range_lem q c f =
      by_truth (in_range q) f
      (λ r.
      let e = role_step_sound t q (sound_table t l.first_sound) (sound_state t l.first_sound) ∙ checked_argument allowed changed t q c r in
      let e' = role_step_sound t' q (sound_table t' l.second_sound) (sound_state t' l.second_sound) ∙ checked_argument allowed changed t' q c r in
      come_to q 16 (answer_of e) (answer_of e') (state_of e) (state_of e') l.alike_states)

  -- decided alike, with changes that are alike
  decided_alike : (q : Ask) {b b' : Bool} {T T' : State} → b ≡ b' → Alike T T'
      → role_step (encode (state t)) q ≡ decide b 1 1 (encode T) (encode (state t))
      → role_step (encode (state t')) q ≡ decide b' 1 1 (encode T') (encode (state t')) → StepAlike t t' q
  decided_alike q {b} {b'} {T} {T'} d a e e' =
      let k = on_table_lem t l.first_sound b T e in
      let k' = on_table_lem t' l.second_sound b' T' e' in
      by_truth b
      (λ y.
      let z = k ∙ decide_yes 1 1 _ t y in
      let z' = k' ∙ decide_yes 1 1 _ t' (sym d ∙ y) in
      come_to q 1 (answer_of z) (answer_of z') (state_of z) (state_of z') (shown_alike a))
      (λ n.
      let z = k ∙ decide_no 1 1 _ t n in
      let z' = k' ∙ decide_no 1 1 _ t' (sym d ∙ n) in
      come_to q 0 (answer_of z) (answer_of z') (state_of z) (state_of z') l.alike_states)
    where
      on_table_lem : (t : List ℕ) → is_sound t ≡ true → (b : Bool) (T : State)
          → role_step (encode (state t)) q ≡ decide b 1 1 (encode T) (encode (state t)) → role_step t q ≡ decide b 1 1 (encode T) t
      on_table_lem t f b T e = subst (λ (w : List ℕ). role_step w q ≡ decide b 1 1 (encode T) w) (sym (encode_state t (table_length_lem t (sound_table t f)))) e

  open_alike : (s o x : ℕ) → StepAlike t t' (ask 1 s o x)
  open_alike s o x =
      in_range_lem (ask 1 s o x) (is_code_lem _ (omega arith) (omega arith)) (λ r.
      let h = opening_range s o x r in
      let a = l.alike_states in
      decided_alike (ask 1 s o x) (a.same_permissions s x o h.0 h.2 h.1) (held_alike a s x (ap (λ (w : ℕ). w with o) (a.same_openings s x h.0 h.2)))
      (open_is (state t) (sound_state t l.first_sound) s o x h.0 h.1 h.2)
      (open_is (state t') (sound_state t' l.second_sound) s o x h.0 h.1 h.2))

  close_alike : (s o x : ℕ) → StepAlike t t' (ask 2 s o x)
  close_alike s o x =
      in_range_lem (ask 2 s o x) (is_code_lem _ (omega arith) (omega arith)) (λ r.
      let h = closing_range s o x r in
      let a = l.alike_states in
      decided_alike (ask 2 s o x) refl (held_alike a s x (ap (λ (w : ℕ). w without o) (a.same_openings s x h.0 h.2)))
      (close_is (state t) (sound_state t l.first_sound) s o x h.0 h.1 h.2)
      (close_is (state t') (sound_state t' l.second_sound) s o x h.0 h.1 h.2))

  step_alike : (q : Ask) → eqb q.code 1 or eqb q.code 2 ≡ true → StepAlike t t' q
  step_alike q e =
      or_elim (eqb q.code 1) _ e
      (λ k. of_code (eqb-true q.code 1 k) (open_alike q.a q.b q.c))
      (λ k. of_code (eqb-true q.code 2 k) (close_alike q.a q.b q.c))
    where
      of_code : {n : ℕ} → q.code ≡ n → StepAlike t t' (ask n q.a q.b q.c) → StepAlike t t' q
      of_code k p = subst (λ (n : ℕ). StepAlike t t' (ask n q.a q.b q.c)) (sym k) p

pub opened_alike : OpenedAlike
unfolding answers openings_only after
opened_alike t t' [] e o = record { same_answers = refl; alike_after = e }
opened_alike t t' (q ∷ qs) e o =
    let p = step_alike (alike_elim e) q (and_left _ _ o) in
    let r = opened_alike (role_step t q).state (role_step t' q).state qs (alike_intro p.alike_next) (and_right (eqb q.code 1 or eqb q.code 2) _ o) in
    record { same_answers = ap₂ ◌∷◌ p.same_answer r.same_answers; alike_after = r.alike_after }
