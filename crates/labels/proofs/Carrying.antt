-- What the translation of each label request comes to, from the answers of the role requests. Assumes nothing.
use Prim.Native.Nat.{ℕ}
use mathlib.Core.Path.{◌≡◌, refl, ap, ◌∙◌}
use mathlib.Core.Bool.{true, false}
use mathlib.Core.List.{List}
use lib.Dec.{eqb}
use Rattle.bits.proofs.Truth.{if_true, if_false, past, stopped}
use Rattle.table.specs.Reading.{state}
use Rattle.requests.specs.Request.{Ask, ask, Outcome}
use Rattle.machine.specs.Machine.{reclearing}
use Rattle.image.specs.Test.{machine_of}
use Rattle.labels.specs.Guard.{Plan, RoleGuard, single, reclear_plan, says_yes, plan, run, carry_out}

module _ (guard : RoleGuard) (t : List ℕ) where
  -- the answer to a role request is yes, or no
  pub says_yes_lem : {f : ℕ} {l : List ℕ} (q : Ask) → guard t q ≡ record { answer = 1; spent = f; state = l } → says_yes guard t q ≡ true
  unfolding says_yes
  says_yes_lem q e = ap (λ (o : Outcome (List ℕ)). eqb o.answer 1) e

  pub says_no : {f : ℕ} {l : List ℕ} (q : Ask) → guard t q ≡ record { answer = 0; spent = f; state = l } → says_yes guard t q ≡ false
  unfolding says_yes
  says_no q e = ap (λ (o : Outcome (List ℕ)). eqb o.answer 1) e

  carried : {p p' : Plan} → p ≡ p' → carry_out guard t p ≡ carry_out guard t p'
  carried e = ap (carry_out guard t) e

  pub single_carried : (q : Ask) → carry_out guard t (single guard t q) ≡ record { answer = (guard t q).answer; spent = 1; state = (guard t q).state }
  unfolding carry_out single run
  single_carried q = refl

  module _ (u c : ℕ) where
    abbrev old : ℕ
    old = (machine_of (state t)).clearance u

    abbrev added : List ℕ
    added = (guard t (ask 7 u c 0)).state

    abbrev taken : List ℕ
    taken = (guard added (ask 8 u old 0)).state

    pub reclear_same : eqb old c ≡ true → carry_out guard t (plan guard t (reclearing u c)) ≡ record { answer = 1; spent = 0; state = t }
    unfolding carry_out plan reclear_plan run
    reclear_same e = carried (if_true _ _ e)

    pub reclear_kept : eqb old c ≡ false → says_yes guard added (ask 8 u old 0) ≡ false
        → carry_out guard t (plan guard t (reclearing u c)) ≡ record { answer = 0; spent = 3; state = (guard taken (ask 8 u c 0)).state }
    unfolding carry_out plan reclear_plan run
    reclear_kept e d = carried (if_false _ _ e ∙ stopped _ _ d)

    pub reclear_changed : eqb old c ≡ false → says_yes guard added (ask 8 u old 0) ≡ true
        → carry_out guard t (plan guard t (reclearing u c)) ≡ record { answer = 1; spent = 2; state = taken }
    unfolding carry_out plan reclear_plan run
    reclear_changed e d = carried (if_false _ _ e ∙ past _ _ d)
