-- The claims of specs/Claims.antt; the wall stands in Wall. Assumes nothing.
use Prim.Native.Nat.{ℕ, ◌%◌}
use mathlib.Core.Path.{◌≡◌, refl, sym, ap, subst, ◌∙◌}
use mathlib.Core.Bool.{true, false}
use native.Mathlib.Omega.{arith}
use lib.Dec.{eqb, ltb}
use borrow.Author.Tests.{eqb-true, eqb-false, ltb-true, ltb-false}
use Rattle.bits.specs.Words.{◌and◌, ◌implies◌, when◌then◌else◌, has, all, subset}
use Rattle.bits.proofs.Truth.{clash, by_truth, is_false}
use Rattle.bits.proofs.Below.{all_elim}
use Rattle.bits.proofs.Word.{has_past}
use Rattle.bits.proofs.Membership.{subset_intro, subset_elim}
use Rattle.machine.specs.declared.Standing.{Standing}
use Rattle.machine.specs.declared.Standing.TheVariants.{Equal, Above, Below, Apart}
use Rattle.machine.specs.Label.{class, brands, stands, equal_or_above}
use Rattle.machine.specs.Claims.{Dominates, Means, StandsMeans, StandOneWay, PartialOrder, CaseI}
use Rattle.machine.proofs.Order.{over, dominates, stands_equal, stands_above, stands_below, stands_apart, dominates_is, dominates_intro, class_least, set_holds, dominates_refl, dominates_trans, dominates_antisym, dominates_bottom}

-- ---- how two labels stand

brands_past : (l i : ℕ) → ltb i 64 ≡ false → has (brands l) i ≡ false
unfolding brands
brands_past l i h = has_past (l % 8) i (omega arith) (ltb-false i 64 h)

module _ (a b : ℕ) where
  dominating : dominates a b ≡ true → Dominates a b
  dominating h = record {
    class_least = class_least a b h;
    set_holds = λ i m. by_truth (ltb i 64)
        (λ l. subset_elim _ _ (set_holds a b h) i (ltb-true i 64 l) m)
        (λ l. clash m (brands_past b i l));
  }

  dominated : Dominates a b → dominates a b ≡ true
  dominated d = dominates_intro a b d.class_least (subset_intro _ _ (λ i l m. d.set_holds i m))

  not_over : (Dominates a b → ⊥) → over a b ≡ false
  not_over n = is_false (λ h. n (dominating (dominates_is a b ∙ h)))

  over_not : over a b ≡ false → Dominates a b → ⊥
  over_not h d = clash (dominated d) (dominates_is a b ∙ h)

-- what each case means tells that the labels stand so, and the other way round
module _ (a b : ℕ) where
  told : (w : Standing) → Means w a b → stands a b ≡ w
  told Equal e = stands_equal a b e
  told Above m = stands_above a b m.1 (sym (dominates_is a b) ∙ dominated a b m.0)
  told Below m = stands_below a b (λ e. m.1 (sym e)) (sym (dominates_is b a) ∙ dominated b a m.0)
  told Apart m =
      stands_apart a b (λ e. m.0 (subst (Dominates a) e (dominating a a (dominates_refl a)))) (not_over a b m.0) (not_over b a m.1)

  meant : Means (stands a b) a b
  meant =
      by_truth (eqb a b)
      (λ p. let e = eqb-true a b p in so (stands_equal a b e) e)
      (λ p. let d = eqb-false a b p in
      by_truth (over a b)
      (λ h. so (stands_above a b d h) (dominating a b (dominates_is a b ∙ h), d))
      (λ h. by_truth (over b a)
      (λ k. so (stands_below a b d k) (dominating b a (dominates_is b a ∙ k), λ e. d (sym e)))
      (λ k. so (stands_apart a b d h k) (over_not a b h, over_not b a k))))
    where
      so : {w : Standing} → stands a b ≡ w → Means w a b → Means (stands a b) a b
      so e m = subst (λ (w : Standing). Means w a b) (sym e) m

  meaning : (w : Standing) → stands a b ≡ w → Means w a b
  meaning w e = subst (λ (v : Standing). Means v a b) e meant

pub stands_means : StandsMeans
stands_means = record {
  exactly = λ a b w. (meaning a b w, told a b w);
  turned = λ a b. (λ e. told b a Above (meaning a b Below e), λ e. told a b Below (meaning b a Above e));
  dominates = λ a b. (dominating a b, dominated a b);
}

pub stand_one_way : StandOneWay
stand_one_way a b = record { standing = stands a b; holds = meant a b; alone = λ w m. sym (told a b w m) }

-- ---- dominance

pub partial_order : PartialOrder
partial_order = record {
  reflexive = dominates_refl;
  transitive = dominates_trans;
  antisymmetric = λ a b. dominates_antisym a b;
}

-- by working it out for all labels
top_row : all 32 (λ a. dominates 31 a) ≡ true
unfolding all ◌and◌ when◌then◌else◌ stands equal_or_above class brands subset ◌implies◌ has
top_row = refl

pub case_I : CaseI
unfolding all ◌and◌ when◌then◌else◌ stands equal_or_above class brands subset ◌implies◌ has
case_I = record {
  apart = refl;
  top = λ a h. all_elim (λ a. dominates 31 a) 32 top_row a h;
  bottom = λ a h. (dominates_antisym a 0 (dominates_bottom a), λ e. ap (dominates 0) e ∙ dominates_refl 0);
}
