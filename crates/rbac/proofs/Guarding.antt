-- The guard's refusals in their order, and what follows them. Assumes nothing.
use Prim.Native.Nat.{ℕ, ◌≤◌}
use mathlib.Core.Path.{◌≡◌, refl, sym, ap, subst, ◌∙◌}
use mathlib.Core.Bool.{Bool, true, false}
use mathlib.Core.List.{List}
use lib.ListN.{length}
use Rattle.std.specs.Prelude.{Ok}
use Rattle.bits.specs.Words.{◌and◌}
use Rattle.bits.proofs.Truth.{if_true, if_false, and_left, and_right, true_and, past, stopped}
use Rattle.table.specs.State.{State}
use Rattle.table.specs.Sound.{sound}
use Rattle.table.specs.Reading.{state}
use Rattle.table.specs.Table.{table_length, is_table}
use Rattle.table.proofs.Table.{is_table_lem}
use Rattle.requests.specs.Request.{Ask, refuse}
use Rattle.requests.specs.Answer.{number_of}
use Rattle.rbac.specs.Roles.{Request, is_code, in_range, carries_bad_pair, decode, known, allowed, changed}
use Rattle.rbac.specs.Guard.{served, checked, role_step, allowed_sound, changed_sound, sound_step}
use Rattle.rbac.specs.Served.{Ranged, Served}
use Rattle.rbac.proofs.Codes.{Asks, is_code_lem, is_code_elim, ranged}
use Rattle.requests.proofs.Outcome.{decide_yes, decide_no, Comes, comes_to}
use Rattle.rbac.proofs.Serving.{served_known, served_unknown}

module _ (test : State → Request → Bool) (change : State → Request → State) (t : List ℕ) (q : Ask) where
  pub checked_code : is_code q ≡ false → checked test change t q ≡ refuse 15 t
  unfolding checked
  checked_code c = stopped _ _ c

  pub checked_argument : is_code q ≡ true → in_range q ≡ false → checked test change t q ≡ refuse 16 t
  unfolding checked
  checked_argument c r = past _ _ c ∙ stopped _ _ r

  pub checked_pair : is_code q ≡ true → in_range q ≡ true → carries_bad_pair q ≡ true → checked test change t q ≡ refuse 21 t
  unfolding checked
  checked_pair c r b = past _ _ c ∙ past _ _ r ∙ if_true _ _ b

  pub checked_served : is_code q ≡ true → in_range q ≡ true → carries_bad_pair q ≡ false → checked test change t q ≡ served test change t (decode q)
  unfolding checked
  checked_served c r b = past _ _ c ∙ past _ _ r ∙ if_false _ _ b

module _ (t : List ℕ) (q : Ask) where
  pub sound_step_table : is_table t ≡ true → sound_step t q ≡ checked allowed_sound changed_sound t q
  unfolding sound_step
  sound_step_table i = past _ _ i

  pub sound_step_short : is_table t ≡ false → sound_step t q ≡ refuse 12 t
  unfolding sound_step
  sound_step_short i = stopped _ _ i

  pub sound_step_served : is_table t ≡ true → is_code q ≡ true → in_range q ≡ true → carries_bad_pair q ≡ false
      → sound_step t q ≡ served allowed_sound changed_sound t (decode q)
  sound_step_served i c r b = sound_step_table i ∙ checked_served allowed_sound changed_sound t q c r b

  pub role_step_short : is_table t ≡ false → role_step t q ≡ refuse 12 t
  unfolding role_step
  role_step_short i = stopped _ _ i

  pub role_step_unsound : is_table t ≡ true → sound (state t) ≡ false → role_step t q ≡ refuse 13 t
  unfolding role_step
  role_step_unsound i s = past _ _ i ∙ stopped _ _ s

  pub role_step_sound : is_table t ≡ true → sound (state t) ≡ true → role_step t q ≡ checked allowed changed t q
  unfolding role_step
  role_step_sound i s = past _ _ i ∙ past _ _ s

-- ---- as the code answers: the number and the table of an outcome

served_comes : {t t' : List ℕ} {q : Request} (yes : Bool) → known (state t) q ≡ true → Served t t' yes q
    → Comes t' (number_of (Ok yes)) (served allowed_sound changed_sound t q)
served_comes {t} {t'} {q} true k s =
    comes_to (served_known allowed_sound changed_sound t q k ∙ decide_yes 1 1 _ t (sym s.answer)) (record { answer = refl; table = s.table ∙ if_true _ _ refl })
served_comes {t} {t'} {q} false k s =
    comes_to (served_known allowed_sound changed_sound t q k ∙ decide_no 1 1 _ t (sym s.answer)) (record { answer = refl; table = s.table ∙ if_false _ _ refl })

-- a request with a code and arguments in range names what is there
pub is_there : (p : Ask) {q : Request} → Asks p q → is_code p and in_range p ≡ true → Ranged q
is_there p d r = let l = is_code_elim p (and_left _ _ r) in subst Ranged d.request (ranged p.code p.a p.b p.c l.0 l.1 (and_right _ _ r) d.pair)

-- what a request on a table comes to
module _ (t : List ℕ) (p : Ask) (e : length t ≡ table_length) where
  pub argument_refused : 1 ≤ p.code → p.code ≤ 14 → is_code p and in_range p ≡ false → sound_step t p ≡ refuse 16 t
  argument_refused l h r =
      let k = is_code_lem p l h in
      sound_step_table t p (is_table_lem t e) ∙ checked_argument allowed_sound changed_sound t p k (sym (true_and _ k) ∙ r)

  module _ (r : is_code p and in_range p ≡ true) where
    pub pair_refused : carries_bad_pair p ≡ true → sound_step t p ≡ refuse 21 t
    pair_refused b = sound_step_table t p (is_table_lem t e) ∙ checked_pair allowed_sound changed_sound t p (and_left _ _ r) (and_right _ _ r) b

    module _ {q : Request} (d : Asks p q) where
      reaches : sound_step t p ≡ served allowed_sound changed_sound t q
      reaches = sound_step_served t p (is_table_lem t e) (and_left _ _ r) (and_right _ _ r) d.pair ∙ ap (served allowed_sound changed_sound t) d.request

      pub unknown_refused : known (state t) q ≡ false → sound_step t p ≡ refuse 17 t
      unknown_refused k = reaches ∙ served_unknown allowed_sound changed_sound t q k

      pub comes : {t' : List ℕ} {yes : Bool} → known (state t) q ≡ true → Served t t' yes q → Comes t' (number_of (Ok yes)) (sound_step t p)
      comes k s = comes_to reaches (served_comes _ k s)
