-- What a request comes to, from its tests and the table that it leaves. Assumes nothing.
use Prim.Native.Nat.{ℕ}
use mathlib.Core.Path.{◌≡◌, refl, sym, ◌∙◌}
use mathlib.Core.Bool.{Bool, true, false}
use mathlib.Core.List.{List}
use lib.ListN.{get_or, set}
use lib.Seq.{set-set, set-get_or}
use Rattle.bits.proofs.Truth.{if_true, if_false, past, stopped}
use Rattle.table.specs.State.{State}
use Rattle.table.specs.Reading.{state}
use Rattle.table.specs.Table.{encode}
use Rattle.requests.specs.Request.{refuse, decide}
use Rattle.rbac.specs.Roles.{Request, known}
use Rattle.rbac.specs.Guard.{served, allowed_sound, changed_sound}
use Rattle.rbac.specs.Served.{Served}

-- ---- as the definition answers

module _ (test : State → Request → Bool) (change : State → Request → State) (t : List ℕ) (q : Request) where
  pub served_known : known (state t) q ≡ true → served test change t q ≡ decide (test (state t) q) 1 1 (encode (change (state t) q)) t
  unfolding served
  served_known k = past _ _ k

  pub served_unknown : known (state t) q ≡ false → served test change t q ≡ refuse 17 t
  unfolding served
  served_unknown k = stopped _ _ k

-- ---- as the code answers

module _ {t t' : List ℕ} {q : Request} where
  pub serve_yes : allowed_sound (state t) q ≡ true → t' ≡ encode (changed_sound (state t) q) → Served t t' true q
  serve_yes a e = record { answer = sym a; table = e ∙ sym (if_true _ _ refl) }

  pub serve_no : allowed_sound (state t) q ≡ false → t' ≡ t → Served t t' false q
  serve_no a e = record { answer = sym a; table = e ∙ sym (if_false _ _ refl) }

-- a word that was written is put back
pub put_back : (t : List ℕ) (q : Request) (i v : ℕ) → allowed_sound (state t) q ≡ false → Served t (set (set t i v) i (get_or t i 0)) false q
put_back t q i v a = serve_no a (set-set t i v (get_or t i 0) ∙ set-get_or t i 0)
