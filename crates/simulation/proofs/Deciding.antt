-- A role request that comes to a decision, and a decision of the machine seen in the image. Assumes nothing.
use Prim.Native.Nat.{ℕ}
use mathlib.Core.Path.{◌≡◌, refl, sym, ap, ◌∙◌}
use mathlib.Core.Bool.{Bool, true, false}
use mathlib.Core.List.{List}
use Rattle.bits.proofs.Truth.{by_truth}
use Rattle.requests.specs.Request.{Ask, Outcome, refuse, decide}
use Rattle.rbac.specs.Guard.{role_step}
use Rattle.requests.proofs.Outcome.{decide_yes, decide_no}
use Rattle.machine.specs.Machine.{Machine}
use Rattle.image.specs.Image.{image}
use Rattle.labels.specs.Guard.{single, says_yes, carry_out}
use Rattle.labels.proofs.Carrying.{says_yes_lem, says_no, single_carried}

-- ---- role requests

pub record Answered (t : List ℕ) (q : Ask) (b : Bool) (t' : List ℕ) : Type 0 where
  pub answer : says_yes role_step t q ≡ b
  pub table : (role_step t q).state ≡ t'

module _ (t : List ℕ) (q : Ask) (b : Bool) (new old : List ℕ) (e : role_step t q ≡ decide b 1 1 new old) where
  pub answered_yes : b ≡ true → Answered t q true new
  answered_yes z =
      let d = e ∙ decide_yes 1 1 new old z in
      record { answer = says_yes_lem role_step t q d; table = ap (λ (o : Outcome (List ℕ)). o.state) d }

  pub answered_no : b ≡ false → Answered t q false old
  answered_no z =
      let d = e ∙ decide_no 1 1 new old z in
      record { answer = says_no role_step t q d; table = ap (λ (o : Outcome (List ℕ)). o.state) d }

  -- a label request that is one role request comes to the same decision
  pub single_decided : carry_out role_step t (single role_step t q) ≡ decide b 1 1 new old
  single_decided =
      single_carried role_step t q
      ∙ ap (λ (o : Outcome (List ℕ)). record { answer = o.answer; spent = 1; state = o.state }) e
      ∙ by_truth b
      (λ z. ap (λ (o : Outcome (List ℕ)). record { answer = o.answer; spent = 1; state = o.state }) (decide_yes 1 1 new old z) ∙ sym (decide_yes 1 1 new old z))
      (λ z. ap (λ (o : Outcome (List ℕ)). record { answer = o.answer; spent = 1; state = o.state }) (decide_no 1 1 new old z) ∙ sym (decide_no 1 1 new old z))

-- on a table that is known by another name
pub answered_on : {t t' l : List ℕ} {q : Ask} {b : Bool} → t' ≡ t → Answered t q b l → Answered t' q b l
answered_on {q = q} e a = record {
  answer = ap (λ (l : List ℕ). says_yes role_step l q) e ∙ a.answer;
  table = ap (λ (l : List ℕ). (role_step l q).state) e ∙ a.table;
}

-- ---- the machine's outcomes, with the image in place of the state

abbrev pub pictured : Outcome Machine → Outcome (List ℕ)
pictured o = record { answer = o.answer; spent = o.spent; state = image o.state }

pub picture_decide : (b : Bool) (y n : ℕ) (new old : Machine) → pictured (decide b y n new old) ≡ decide b y n (image new) (image old)
picture_decide b y n new old =
    by_truth b
    (λ z. ap pictured (decide_yes y n new old z) ∙ sym (decide_yes y n (image new) (image old) z))
    (λ z. ap pictured (decide_no y n new old z) ∙ sym (decide_no y n (image new) (image old) z))

pub picture_refuse : (n : ℕ) (m : Machine) → pictured (refuse n m) ≡ refuse n (image m)
picture_refuse n m = refl
