-- Two alike tables that answer an activation differently: a session started for one user or another. Assumes nothing.
use Prim.Native.Nat.{ℕ, suc, ◌<◌}
use mathlib.Core.Path.{◌≡◌, refl, ap, ◌∙◌}
use mathlib.Core.Bool.{true, false}
use mathlib.Core.List.{List}
use native.Mathlib.Omega.{arith}
use Rattle.bits.proofs.Truth.{and_intro}
use Rattle.bits.proofs.Membership.{each_none}
use Rattle.table.specs.State.{State}
use Rattle.table.specs.Authority.{idle, authorised, may_activate}
use Rattle.table.specs.Changes.{with_owner, with_active}
use Rattle.table.specs.Masks.{refreshed_at}
use Rattle.table.specs.Separation.{sets_empty}
use Rattle.table.specs.Sound.{sound}
use Rattle.table.specs.Reading.{state}
use Rattle.table.specs.Table.{encode}
use Rattle.table.proofs.State.{may_activate_user}
use Rattle.bits.proofs.Upd.{upd_same}
use Rattle.table.proofs.Keeps.{authorised_same, effective_same}
use Rattle.table.proofs.Encode.{encode_state}
use Rattle.table.proofs.Table.{table_length_lem}
use Rattle.sound.proofs.Answers.{sound_state, sound_table}
use Rattle.requests.specs.Request.{ask}
use Rattle.rbac.specs.Guard.{role_step}
use Rattle.requests.proofs.Outcome.{decide_yes, decide_no}
use Rattle.rbac.proofs.Steps.{answer_of, state_of}
use Rattle.rbac.proofs.Requests.{encode_sound, next_sound, start_is, activate_is}
use Rattle.alike.specs.Likeness.{Alike}
use Rattle.alike.specs.Claims.{ActivatedApart, ActivationsDiffer}
use Rattle.alike.proofs.Likeness.{shown_alike}
use Rattle.alike.proofs.Claims.{alike_intro}

module _ (S : State) (f : sound S ≡ true) (none : sets_empty S ≡ true) (s : ℕ) (hs : s < 32) (free : idle S s ≡ true) where
  -- session s started for user u, without roles
  abbrev started : ℕ → State
  started u = refreshed_at s (with_active (with_owner S s (suc u)) s 0)

  start_writes : (u : ℕ) → u < 64 → (role_step (encode S) (ask 3 s u 0)).state ≡ encode (started u)
  start_writes u hu = state_of (start_is S f none s u 0 hs hu (omega arith) ∙ decide_yes 1 1 _ _ (and_intro free (each_none (authorised S u))))

  started_sound : (u : ℕ) → u < 64 → sound (started u) ≡ true
  started_sound u hu = next_sound S (started u) f (ask 3 s u 0) (start_writes u hu)

  started_alike : (u v : ℕ) → Alike (started u) (started v)
  started_alike u v = record {
    same_openings = λ p x hp hx. refl;
    same_permissions = λ p x o hp hx ho. effective_same _ _ refl p x o refl refl refl;
    same_roles = λ w q hw hq. authorised_same _ _ refl w q refl;
  }

  may_activate_lem : (u r : ℕ) → may_activate (started u) s r ≡ authorised S u r
  may_activate_lem u r = may_activate_user (started u) s u r (upd_same S.owner s (suc u)) ∙ authorised_same _ S refl u r refl

  apart : (u v r : ℕ) → u < 64 → v < 64 → r < 64 → authorised S u r ≡ true → authorised S v r ≡ false
      → ActivatedApart (encode (started u)) (encode (started v)) s r
  apart u v r hu hv hr has-role lacks-role = record {
    are_alike = alike_intro (record {
      first_sound = encode_sound (started u) (started_sound u hu);
      second_sound = encode_sound (started v) (started_sound v hv);
      alike_states = shown_alike (started_alike u v);
    });
    first_yes = answer_of (activate_is (started u) (started_sound u hu) none s r hs hr ∙ decide_yes 1 1 _ _ (may_activate_lem u r ∙ has-role));
    second_no = answer_of (activate_is (started v) (started_sound v hv) none s r hs hr ∙ decide_no 1 1 _ _ (may_activate_lem v r ∙ lacks-role));
  }

pub activations_differ : ActivationsDiffer
activations_differ t s u v r hs hu hv hr f none free has-role lacks-role = rw (comes_to u hu) (rw (comes_to v hv) (apart S g none s hs free u v r hu hv hr has-role lacks-role))
  where
    S : State
    S = state t

    g : sound S ≡ true
    g = sound_state t f

    comes_to : (w : ℕ) → w < 64 → (role_step t (ask 3 s w 0)).state ≡ encode (started S g none s hs free w)
    comes_to w h =
        ap (λ (l : List ℕ). (role_step l (ask 3 s w 0)).state) (encode_state t (table_length_lem t (sound_table t f)))
        ∙ start_writes S g none s hs free w h
