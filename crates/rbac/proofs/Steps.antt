-- What a role request comes to: the refusals apart, a decision by the definitions. Assumes nothing.
use Prim.Native.Nat.{ℕ, ◌<◌}
use mathlib.Core.Path.{◌≡◌, refl, sym, ap, ap₂, ◌∙◌}
use mathlib.Core.Bool.{Bool, true, false, not}
use mathlib.Core.List.{List}
use native.Mathlib.Omega.{arith}
use Rattle.bits.specs.Words.{◌and◌, has, ◌with◌}
use Rattle.bits.specs.Sets.{◌without◌}
use Rattle.bits.proofs.Truth.{by_truth, and_assoc}
use Rattle.bits.proofs.Membership.{each_cong}
use Rattle.table.specs.State.{State}
use Rattle.table.specs.Separation.{separated}
use Rattle.table.specs.Masks.{MasksTrue}
use Rattle.table.specs.Sound.{roles_sound, sound, Ruled}
use Rattle.table.specs.Table.{is_table, encode}
use Rattle.table.specs.Reading.{state}
use Rattle.table.proofs.Sound.{ruled_is, sound_ruled, sound_intro}
use Rattle.table.proofs.Agree.{Agree, agree_sym, senior_agree, idle_agree, permission_agree, authorised_agree, may_activate_agree, effective_agree, ruled_agree, agree_ruled, agree_refreshed, upd_agree, agree_with_holds, agree_with_active, agree_with_owner, agree_with_assigned, agree_with_granted, agree_with_set, agree_with_direct, separated_agree}
use Rattle.table.proofs.Encode.{state_encode, encode_cong}
use Rattle.sound.specs.Answers.{is_sound}
use Rattle.sound.proofs.Answers.{sound_state, sound_table, shown_sound}
use Rattle.requests.specs.Request.{Ask, Outcome, refuse, decide}
use Rattle.rbac.specs.Roles.{Request, opens, closes, starts, ends, activates, drops, assigns, deassigns, grants, revokes, separates, links, unlinks, is_code, in_range, carries_bad_pair, decode, known, roles_allow, allowed, moved, changed}
use Rattle.rbac.specs.Guard.{role_step}
use Rattle.rbac.specs.Served.{Ranged}
use Rattle.requests.proofs.Outcome.{decide_yes, decide_no}
use Rattle.rbac.proofs.Serving.{served_known, served_unknown}
use Rattle.rbac.proofs.Codes.{is_code_elim, ranged}
use Rattle.rbac.proofs.Guarding.{checked_code, checked_argument, checked_pair, checked_served, role_step_short, role_step_unsound, role_step_sound}
use Rattle.rbac.proofs.Keeping.{changed_sound_lem}

pub answer_of : {A : Type 0} {o o' : Outcome A} → o ≡ o' → o.answer ≡ o'.answer
answer_of {A} e = ap (λ (p : Outcome A). p.answer) e

pub state_of : {A : Type 0} {o o' : Outcome A} → o ≡ o' → o.state ≡ o'.state
state_of {A} e = ap (λ (p : Outcome A). p.state) e

-- ---- on any list

-- what a request that meets no refusal has passed
pub record Passed (t : List ℕ) (q : Ask) : Type 0 where
  pub table : is_table t ≡ true
  pub is_sound : sound (state t) ≡ true
  pub code : is_code q ≡ true
  pub range : in_range q ≡ true
  pub pair : carries_bad_pair q ≡ false
  pub is_known : known (state t) (decode q) ≡ true

module _ (t : List ℕ) (q : Ask) where
  pub passed : is_sound t ≡ true → is_code q ≡ true → in_range q ≡ true → carries_bad_pair q ≡ false → known (state t) (decode q) ≡ true → Passed t q
  passed f c r b k = record { table = sound_table t f; is_sound = sound_state t f; code = c; range = r; pair = b; is_known = k }

  pub by_step : {A : Type 0} → ((n : ℕ) → 1 < n → role_step t q ≡ refuse n t → A) → (Passed t q → A) → A
  by_step f g =
      by_truth (is_table t)
      (λ i. by_truth (sound (state t))
      (λ s.
      let e = role_step_sound t q i s in
      by_truth (is_code q)
      (λ c. by_truth (in_range q)
      (λ r. by_truth (carries_bad_pair q)
      (λ b. f 21 (omega arith) (e ∙ checked_pair allowed changed t q c r b))
      (λ b. by_truth (known (state t) (decode q))
      (λ k. g (record { table = i; is_sound = s; code = c; range = r; pair = b; is_known = k }))
      (λ k. f 17 (omega arith) (e ∙ checked_served allowed changed t q c r b ∙ served_unknown allowed changed t (decode q) k))))
      (λ r. f 16 (omega arith) (e ∙ checked_argument allowed changed t q c r)))
      (λ c. f 15 (omega arith) (e ∙ checked_code allowed changed t q c)))
      (λ s. f 13 (omega arith) (role_step_unsound t q i s)))
      (λ i. f 12 (omega arith) (role_step_short t q i))

  pub decided : Passed t q → role_step t q ≡ decide (allowed (state t) (decode q)) 1 1 (encode (changed (state t) (decode q))) t
  decided p =
      role_step_sound t q p.table p.is_sound
      ∙ checked_served allowed changed t q p.code p.range p.pair
      ∙ served_known allowed changed t (decode q) p.is_known

  pub allowed_yes : Passed t q → allowed (state t) (decode q) ≡ true → (role_step t q).answer ≡ 1
  allowed_yes p a = answer_of (decided p ∙ decide_yes 1 1 _ t a)

  pub yes_allowed : Passed t q → (role_step t q).answer ≡ 1 → allowed (state t) (decode q) ≡ true
  yes_allowed p e =
      by_truth (allowed (state t) (decode q)) (λ a. a)
      (λ a. let z = sym (answer_of (decided p ∙ decide_no 1 1 _ t a)) ∙ e in absurd (omega arith))

  -- a request answered yes was allowed, and leaves the changed state
  pub after_yes : {A : Type 0} → (role_step t q).answer ≡ 1
      → (Passed t q → allowed (state t) (decode q) ≡ true → (role_step t q).state ≡ encode (changed (state t) (decode q)) → A) → A
  after_yes e f =
      by_step
      (λ n h z. let k = sym (answer_of z) ∙ e in absurd (omega arith))
      (λ p. let a = yes_allowed p e in f p a (state_of (decided p ∙ decide_yes 1 1 _ t a)))

  pub in_reach : Passed t q → Ranged (decode q)
  in_reach p = let k = is_code_elim q p.code in ranged q.code q.a q.b q.c k.0 k.1 p.range p.pair

  -- a sound table stays sound
  pub step_sound : is_sound t ≡ true → is_sound (role_step t q).state ≡ true
  step_sound s =
      by_step
      (λ n h e. ap (λ (o : Outcome (List ℕ)). is_sound o.state) e ∙ s)
      (λ p. by_truth (allowed (state t) (decode q))
      (λ a.
      shown_sound (changed (state t) (decode q)) (state_of (decided p ∙ decide_yes 1 1 _ t a))
      ∙ changed_sound_lem (state t) (sound_ruled (state t) p.is_sound) (decode q) (in_reach p) p.is_known a)
      (λ a. ap (λ (o : Outcome (List ℕ)). is_sound o.state) (decided p ∙ decide_no 1 1 _ t a) ∙ s))

-- ---- on the table of a state

module _ {S S' : State} (a : Agree S S') where
  moved_agree : (r : Request) → Ranged r → Agree (moved S r) (moved S' r)
  moved_agree (opens s o x) h = agree_with_holds a s (λ y l. upd_agree (S.holds s) (S'.holds s) x y (ap (λ (w : ℕ). w with o) (a.holds s x h.0 h.2)) (a.holds s y h.0 l))
  moved_agree (closes s o x) h = agree_with_holds a s (λ y l. upd_agree (S.holds s) (S'.holds s) x y (ap (λ (w : ℕ). w without o) (a.holds s x h.0 h.2)) (a.holds s y h.0 l))
  moved_agree (starts s u roles) h = agree_with_active (agree_with_owner a s refl) s refl
  moved_agree (ends s) h = agree_with_holds (agree_with_active (agree_with_owner a s refl) s refl) s (λ x l. refl)
  moved_agree (activates s r) h = agree_with_active a s (ap (λ (w : ℕ). w with r) (a.active s h.0))
  moved_agree (drops s r) h = agree_with_active a s (ap (λ (w : ℕ). w without r) (a.active s h.0))
  moved_agree (assigns u r) h = agree_with_assigned a u (ap (λ (w : ℕ). w with r) (a.assigned u h.0))
  moved_agree (deassigns u r) h = agree_with_assigned a u (ap (λ (w : ℕ). w without r) (a.assigned u h.0))
  moved_agree (grants r x o) h = agree_with_granted a x o (ap (λ (w : ℕ). w with r) (a.granted x o h.1 h.2))
  moved_agree (revokes r x o) h = agree_with_granted a x o (ap (λ (w : ℕ). w without r) (a.granted x o h.1 h.2))
  moved_agree (separates n m b) h = agree_with_set a n refl refl
  moved_agree (links r q) h = agree_with_direct a r (ap (λ (w : ℕ). w with q) (a.direct r h.0))
  moved_agree (unlinks r q) h = agree_with_direct a r (ap (λ (w : ℕ). w without q) (a.direct r h.0))

  changed_agree : (r : Request) → Ranged r → Agree (changed S r) (changed S' r)
  unfolding changed
  changed_agree r h = agree_refreshed (moved_agree r h)

  apart : (r : Request) → Ranged r → separated (changed S r) ≡ separated (changed S' r)
  apart r h = separated_agree (changed_agree r h)

  -- where the answer hangs on the changed state being sound
  sound_after : (r : Request) → Ranged r → roles_sound (changed S r) and separated (changed S r) ≡ roles_sound (changed S' r) and separated (changed S' r)
  sound_after r h = sym (ruled_is _) ∙ ruled_agree (changed_agree r h) ∙ ruled_is _

  allowed_agree : Ruled S → (r : Request) → Ranged r → allowed S r ≡ allowed S' r
  unfolding allowed roles_allow
  allowed_agree f (opens s o x) h = ap₂ ◌and◌ (effective_agree a s x o h.0 h.2 h.1) (apart (opens s o x) h)
  allowed_agree f (closes s o x) h = ap₂ ◌and◌ refl (apart (closes s o x) h)
  allowed_agree f (starts s u roles) h =
      ap₂ ◌and◌ (ap₂ ◌and◌ (idle_agree a s h.0) (each_cong roles (λ r l. authorised_agree a u r h.1))) (apart (starts s u roles) h)
  allowed_agree f (ends s) h = ap₂ ◌and◌ (ap not (idle_agree a s h)) (apart (ends s) h)
  allowed_agree f (activates s r) h = ap₂ ◌and◌ (may_activate_agree a s r h.0 (f.owners_known s h.0)) (apart (activates s r) h)
  allowed_agree f (drops s r) h = sound_after (drops s r) h
  allowed_agree f (assigns u r) h = ap₂ ◌and◌ refl (apart (assigns u r) h)
  allowed_agree f (deassigns u r) h = sound_after (deassigns u r) h
  allowed_agree f (grants r x o) h = ap₂ ◌and◌ refl (apart (grants r x o) h)
  allowed_agree f (revokes r x o) h = sound_after (revokes r x o) h
  allowed_agree f (separates n m b) h = sound_after (separates n m b) h
  allowed_agree f (links r q) h = ap₂ ◌and◌ (ap₂ ◌and◌ refl (ap not (senior_agree a q r h.1))) (apart (links r q) h)
  allowed_agree f (unlinks r q) h =
      and_assoc (has (S.direct r) q) _ _
      ∙ ap₂ ◌and◌ (ap (λ (w : ℕ). has w q) (a.direct r h.0)) (sound_after (unlinks r q) h)
      ∙ sym (and_assoc (has (S'.direct r) q) _ _)

  pub known_agree : (r : Request) → Ranged r → known S r ≡ known S' r
  unfolding known
  known_agree (opens s o x) h = refl
  known_agree (closes s o x) h = refl
  known_agree (starts s u roles) h = refl
  known_agree (ends s) h = refl
  known_agree (activates s r) h = refl
  known_agree (drops s r) h = refl
  known_agree (assigns u r) h = refl
  known_agree (deassigns u r) h = refl
  known_agree (grants r x o) h = permission_agree a x o h.1
  known_agree (revokes r x o) h = permission_agree a x o h.1
  known_agree (separates n m b) h = refl
  known_agree (links r q) h = refl
  known_agree (unlinks r q) h = refl

-- a request on the table of a sound state, with a code and arguments in range and no pair of error 21, that names a permission
-- where it grants or revokes
module _ (S : State) (f : Ruled S) (m : MasksTrue S) (q : Ask) (c : is_code q ≡ true) (r : in_range q ≡ true) (b : carries_bad_pair q ≡ false) where
  table_sound : is_sound (encode S) ≡ true
  table_sound = shown_sound S refl ∙ sound_intro S f m

  pub reach : Ranged (decode q)
  reach = let k = is_code_elim q c in ranged q.code q.a q.b q.c k.0 k.1 r b

  pub step_encode : known S (decode q) ≡ true → role_step (encode S) q ≡ decide (allowed S (decode q)) 1 1 (encode (changed S (decode q))) (encode S)
  step_encode k =
      let a = state_encode S in
      decided (encode S) q (passed (encode S) q table_sound c r b (known_agree a (decode q) reach ∙ k))
      ∙ ap₂ (λ (d : Bool) (t : List ℕ). decide d 1 1 t (encode S))
      (allowed_agree a (agree_ruled (agree_sym a) f) (decode q) reach) (encode_cong (changed_agree a (decode q) reach))
