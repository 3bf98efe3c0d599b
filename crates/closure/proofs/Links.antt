-- Chains of links: with links more they reach no less, and a link more reaches from its upper end what its lower end reaches.
-- Assumes nothing.
use Prim.Native.Nat.{ℕ, ◌<◌}
use mathlib.Core.Path.{◌≡◌, sym, ap, subst, ◌∙◌}
use mathlib.Core.Bool.{true}
use mathlib.Core.List.{List}
use mathlib.Core.Logic.{◌⊎◌, inl, inr, ⊎_elim}
use lib.Dec.{eqb}
use lib.ListN.{get_or}
use borrow.Author.Tests.{eqb-true, eqb-false}
use Rattle.bits.specs.Words.{has, ◌with◌}
use Rattle.bits.proofs.Truth.{by_truth}
use Rattle.bits.proofs.Word.{with_old, with_elim}
use Rattle.closure.specs.Closure.{Reaches, here, link}

-- role r has the direct junior q
abbrev Link : List ℕ → ℕ → ℕ → Type 0
Link d r q = has (get_or d r 0) q ≡ true

-- a chain in d is one in d', where every link of d is there
pub more : (d d' : List ℕ) → ((a x : ℕ) → a < 64 → x < 64 → Link d a x → Link d' a x) → {a p : ℕ} → a < 64 → Reaches d a p → Reaches d' a p
more d d' k h here = here
more d d' k {a} h (link {p = x} l e b) = link l (k a x h l e) (more d d' k l b)

-- ---- a link more: d' is d with q a direct junior of r

module _ (d d' : List ℕ) (r q : ℕ) (hq : q < 64)
    (there : get_or d' r 0 ≡ get_or d r 0 with q)
    (else : (a : ℕ) → a < 64 → (a ≡ r → ⊥) → get_or d' a 0 ≡ get_or d a 0) where
  old_link : (a x : ℕ) → a < 64 → x < 64 → Link d a x → Link d' a x
  old_link a x ha hx e =
      by_truth (eqb a r)
      (λ b.
      let z = eqb-true a r b in
      ap (λ (w : ℕ). has w x) (ap (λ (k : ℕ). get_or d' k 0) z ∙ there)
      ∙ with_old (get_or d r 0) q x hx (sym (ap (λ (k : ℕ). has (get_or d k 0) x) z) ∙ e))
      (λ b. ap (λ (w : ℕ). has w x) (else a ha (eqb-false a r b)) ∙ e)

  new_link : {A : Type 0} (a x : ℕ) → a < 64 → x < 64 → Link d' a x → (Link d a x → A) → (a ≡ r → x ≡ q → A) → A
  new_link a x ha hx e f g =
      by_truth (eqb a r)
      (λ b.
      let z = eqb-true a r b in
      with_elim (get_or d r 0) q x hx (sym (ap (λ (w : ℕ). has w x) (ap (λ (k : ℕ). get_or d' k 0) z ∙ there)) ∙ e)
      (λ y. g z y) (λ y. f (ap (λ (k : ℕ). has (get_or d k 0) x) z ∙ y)))
      (λ b. f (sym (ap (λ (w : ℕ). has w x) (else a ha (eqb-false a r b))) ∙ e))

  pub linked_more : {a p : ℕ} → a < 64 → Reaches d a p → Reaches d' a p
  linked_more = more d d' old_link

  -- a chain there is one in d, or comes by r and goes on from q
  pub linked_apart : {a p : ℕ} → a < 64 → Reaches d' a p → Reaches d a p ⊎ (Reaches d a r × Reaches d q p)
  linked_apart h here = inl here
  linked_apart {a} {p} h (link {p = x} l e k) =
      new_link a x h l e
      (λ o. ⊎_elim (λ w. inl (link l o w)) (λ w. inr (link l o w.0, w.1)) (linked_apart l k))
      (λ z y. ⊎_elim
      (λ w. inr (subst (Reaches d a) z here, subst (λ (n : ℕ). Reaches d n p) y w))
      (λ w. inr (subst (Reaches d a) z here, w.1)) (linked_apart l k))
