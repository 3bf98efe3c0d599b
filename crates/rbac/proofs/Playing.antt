-- Requests on the tables of sound states, worked out on the states alone: what a proof by computation uses. Assumes nothing.
use Prim.Native.Nat.{ℕ}
use mathlib.Core.Path.{◌≡◌, sym, ap, subst, ◌∙◌}
use mathlib.Core.Bool.{Bool, true, not}
use mathlib.Core.List.{List}
use Rattle.bits.specs.Words.{when◌then◌else◌, has}
use Rattle.bits.proofs.Truth.{by_truth, if_true, if_false, past, stopped}
use Rattle.table.specs.State.{State}
use Rattle.table.specs.Authority.{effective}
use Rattle.table.specs.Masks.{MasksTrue}
use Rattle.table.specs.Sound.{sound, Ruled}
use Rattle.table.proofs.Masks.{mask_has}
use Rattle.table.proofs.Sound.{sound_ruled, sound_masks}
use Rattle.table.specs.Table.{encode}
use Rattle.table.proofs.Encode.{state_encode}
use Rattle.sound.proofs.Answers.{sound_state, sound_table}
use Rattle.requests.specs.Request.{Ask, Outcome, refuse}
use Rattle.rbac.specs.Roles.{Request, opens, closes, starts, ends, activates, drops, assigns, deassigns, grants, revokes, separates, links, unlinks, is_code, in_range, carries_bad_pair, decode, known, allowed, changed}
use Rattle.rbac.specs.Guard.{checked, role_step, allowed_sound}
use Rattle.rbac.specs.Served.{Ranged}
use Rattle.rbac.proofs.Guarding.{role_step_sound, checked_code, checked_argument, checked_pair, checked_served}
use Rattle.rbac.proofs.Requests.{next_sound, encode_sound}
use Rattle.rbac.proofs.Same.{allowed_same}
use Rattle.requests.proofs.Outcome.{decide_yes, decide_no}
use Rattle.rbac.proofs.Serving.{served_unknown}
use Rattle.rbac.proofs.Steps.{step_encode, known_agree, reach}

-- the answer, and the state after it
pub record Move : Type 0 where
  pub answer : ℕ
  pub next : State

unfoldable pub stay : ℕ → State → Move
stay n S = record { answer = n; next = S }

-- the answer is yes on a state that is known to be sound: of an opening by what is effective, which is quicker to work out than a mask
unfoldable pub asked : State → Request → Bool
asked S (opens s o x) = effective S s x o
asked S (closes s o x) = allowed_sound S (closes s o x)
asked S (starts s u roles) = allowed_sound S (starts s u roles)
asked S (ends s) = allowed_sound S (ends s)
asked S (activates s r) = allowed_sound S (activates s r)
asked S (drops s r) = allowed_sound S (drops s r)
asked S (assigns u r) = allowed_sound S (assigns u r)
asked S (deassigns u r) = allowed_sound S (deassigns u r)
asked S (grants r x o) = allowed_sound S (grants r x o)
asked S (revokes r x o) = allowed_sound S (revokes r x o)
asked S (separates n roles bound) = allowed_sound S (separates n roles bound)
asked S (links r q) = allowed_sound S (links r q)
asked S (unlinks r q) = allowed_sound S (unlinks r q)

unfoldable pub move : State → Ask → Move
move S q =
    when not (is_code q) then stay 15 S else
    when not (in_range q) then stay 16 S else
    when carries_bad_pair q then stay 21 S else
    when not (known S (decode q)) then stay 17 S else
    when not (asked S (decode q)) then stay 0 S else
    stay 1 (changed S (decode q))

-- what a move stands for
pub record Moved (S : State) (q : Ask) (v : Move) : Type 0 where
  pub answer : (role_step (encode S) q).answer ≡ v.answer
  pub table : (role_step (encode S) q).state ≡ encode v.next
  pub is_sound : sound v.next ≡ true

module _ (S : State) (f : sound S ≡ true) (q : Ask) where
  abbrev t : List ℕ
  t = encode S

  g : Ruled S
  g = sound_ruled S f

  m : MasksTrue S
  m = sound_masks S f

  asked_same : (r : Request) → Ranged r → asked S r ≡ allowed S r
  unfolding asked
  asked_same (opens s o x) h = sym (ap (λ (w : ℕ). has w o) (m s x h.0 h.2) ∙ mask_has S s x o h.1) ∙ allowed_same S g m (opens s o x) h
  asked_same (closes s o x) h = allowed_same S g m (closes s o x) h
  asked_same (starts s u roles) h = allowed_same S g m (starts s u roles) h
  asked_same (ends s) h = allowed_same S g m (ends s) h
  asked_same (activates s r) h = allowed_same S g m (activates s r) h
  asked_same (drops s r) h = allowed_same S g m (drops s r) h
  asked_same (assigns u r) h = allowed_same S g m (assigns u r) h
  asked_same (deassigns u r) h = allowed_same S g m (deassigns u r) h
  asked_same (grants r x o) h = allowed_same S g m (grants r x o) h
  asked_same (revokes r x o) h = allowed_same S g m (revokes r x o) h
  asked_same (separates n roles bound) h = allowed_same S g m (separates n roles bound) h
  asked_same (links r q) h = allowed_same S g m (links r q) h
  asked_same (unlinks r q) h = allowed_same S g m (unlinks r q) h

  stays : (n : ℕ) → role_step t q ≡ refuse n t → move S q ≡ stay n S → Moved S q (move S q)
  unfolding stay
  stays n e v = record {
    answer = ap (λ (o : Outcome (List ℕ)). o.answer) e ∙ sym (ap (λ (w : Move). w.answer) v);
    table = ap (λ (o : Outcome (List ℕ)). o.state) e ∙ sym (ap (λ (w : Move). encode w.next) v);
    is_sound = subst (λ (w : Move). sound w.next ≡ true) (sym v) f;
  }

  on : role_step t q ≡ checked allowed changed t q
  on = role_step_sound t q (sound_table t (encode_sound S f)) (sound_state t (encode_sound S f))

  -- a request on the table of a sound state comes to the move on the state
  pub moved : Moved S q (move S q)
  unfolding move stay
  moved =
      by_truth (is_code q)
      (λ c. by_truth (in_range q)
      (λ r. by_truth (carries_bad_pair q)
      (λ b. stays 21 (on ∙ checked_pair allowed changed t q c r b) (past _ _ c ∙ past _ _ r ∙ if_true _ _ b))
      (λ b. by_truth (known S (decode q))
      (λ k. by_truth (asked S (decode q))
      (λ a.
      let d = step_encode S g m q c r b k ∙ decide_yes 1 1 _ t (sym (asked_same (decode q) (reach S g m q c r b)) ∙ a) in
      let v : move S q ≡ stay 1 (changed S (decode q)) = past _ _ c ∙ past _ _ r ∙ if_false _ _ b ∙ past _ _ k ∙ past _ _ a in
      record {
        answer = ap (λ (o : Outcome (List ℕ)). o.answer) d ∙ sym (ap (λ (w : Move). w.answer) v);
        table = ap (λ (o : Outcome (List ℕ)). o.state) d ∙ sym (ap (λ (w : Move). encode w.next) v);
        is_sound = subst (λ (w : Move). sound w.next ≡ true) (sym v) (next_sound S (changed S (decode q)) f q (ap (λ (o : Outcome (List ℕ)). o.state) d));
      })
      (λ a.
      let d = step_encode S g m q c r b k ∙ decide_no 1 1 _ t (sym (asked_same (decode q) (reach S g m q c r b)) ∙ a) in
      let v : move S q ≡ stay 0 S = past _ _ c ∙ past _ _ r ∙ if_false _ _ b ∙ past _ _ k ∙ stopped _ _ a in
      record {
        answer = ap (λ (o : Outcome (List ℕ)). o.answer) d ∙ sym (ap (λ (w : Move). w.answer) v);
        table = ap (λ (o : Outcome (List ℕ)). o.state) d ∙ sym (ap (λ (w : Move). encode w.next) v);
        is_sound = subst (λ (w : Move). sound w.next ≡ true) (sym v) f;
      }))
      (λ k. stays 17
      (on ∙ checked_served allowed changed t q c r b ∙ served_unknown allowed changed t (decode q) (known_agree (state_encode S) (decode q) (reach S g m q c r b) ∙ k))
      (past _ _ c ∙ past _ _ r ∙ if_false _ _ b ∙ stopped _ _ k))))
      (λ r. stays 16 (on ∙ checked_argument allowed changed t q c r) (past _ _ c ∙ stopped _ _ r)))
      (λ c. stays 15 (on ∙ checked_code allowed changed t q c) (stopped _ _ c))
