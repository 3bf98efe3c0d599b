-- The translation of reclear as the code makes it: from each role request's answer and the table that it left. Assumes nothing.
use Prim.Native.Nat.{ℕ}
use mathlib.Core.Path.{◌≡◌, sym, ap, ◌∙◌}
use mathlib.Core.Bool.{Bool, true, false, not}
use mathlib.Core.List.{List}
use borrow.Author.Tests.{eq-eqb, ne_eqb}
use Rattle.bits.proofs.Truth.{confirmed, refuted}
use Rattle.table.specs.Reading.{state}
use Rattle.requests.specs.Request.{Ask, ask, Outcome}
use Rattle.rbac.specs.Guard.{sound_step}
use Rattle.machine.specs.Machine.{reclearing}
use Rattle.image.specs.Test.{label_of, machine_of}
use Rattle.labels.specs.Guard.{says_yes, plan, carry_out}
use Rattle.labels.proofs.Carrying.{reclear_same, reclear_kept, reclear_changed}

-- the table after one request more
next : {l l' l'' : List ℕ} (q : Ask) → l'' ≡ (sound_step l' q).state → l' ≡ l → l'' ≡ (sound_step l q).state
next q e d = e ∙ ap (λ (l : List ℕ). (sound_step l q).state) d

asked_of : {b : Bool} {l l' : List ℕ} (q : Ask) → b ≡ says_yes sound_step l' q → l' ≡ l → b ≡ says_yes sound_step l q
asked_of q a d = a ∙ ap (λ (l : List ℕ). says_yes sound_step l q) d

result : (n f : ℕ) {l l' : List ℕ} → l' ≡ l → ◌≡◌ {A = Outcome (List ℕ)} (record { answer = n; spent = f; state = l }) (record { answer = n; spent = f; state = l' })
result n f e = ap (λ (l : List ℕ). record { answer = n; spent = f; state = l }) (sym e)

module _ (t : List ℕ) (u c old : ℕ) (is-old : old ≡ label_of ((state t).assigned u)) where
  clearance_is : (machine_of (state t)).clearance u ≡ old
  unfolding machine_of
  clearance_is = sym is-old

  pub same_clearance : old ≡ c → carry_out sound_step t (plan sound_step t (reclearing u c)) ≡ record { answer = 1; spent = 0; state = t }
  same_clearance e = reclear_same sound_step t u c (eq-eqb _ _ (clearance_is ∙ e))

  module _ (n : old ≡ c → ⊥) {b : Bool} {t1 t2 : List ℕ} (e1 : t1 ≡ (sound_step t (ask 7 u c 0)).state)
      (a2 : b ≡ says_yes sound_step t1 (ask 8 u old 0)) (e2 : t2 ≡ (sound_step t1 (ask 8 u old 0)).state) where
    other : ((machine_of (state t)).clearance u ≡ c → ⊥)
    other z = n (sym clearance_is ∙ z)

    answered : b ≡ says_yes sound_step (sound_step t (ask 7 u c 0)).state (ask 8 u ((machine_of (state t)).clearance u) 0)
    answered = asked_of (ask 8 u old 0) a2 e1 ∙ ap (λ (k : ℕ). says_yes sound_step (sound_step t (ask 7 u c 0)).state (ask 8 u k 0)) (sym clearance_is)

    left : t2 ≡ (sound_step (sound_step t (ask 7 u c 0)).state (ask 8 u ((machine_of (state t)).clearance u) 0)).state
    left = next (ask 8 u old 0) e2 e1 ∙ ap (λ (k : ℕ). (sound_step (sound_step t (ask 7 u c 0)).state (ask 8 u k 0)).state) (sym clearance_is)

    pub not_recleared : {t3 : List ℕ} → not b ≡ true → t3 ≡ (sound_step t2 (ask 8 u c 0)).state
        → carry_out sound_step t (plan sound_step t (reclearing u c)) ≡ record { answer = 0; spent = 3; state = t3 }
    not_recleared k e3 =
        reclear_kept sound_step t u c (ne_eqb _ _ other) (refuted answered k) ∙ result 0 3 (next (ask 8 u c 0) e3 left)

    pub is_recleared : not b ≡ false → carry_out sound_step t (plan sound_step t (reclearing u c)) ≡ record { answer = 1; spent = 2; state = t2 }
    is_recleared k = reclear_changed sound_step t u c (ne_eqb _ _ other) (confirmed answered k) ∙ result 1 2 left
