-- Links and the seniority that they make: the test and its plain reading, each from the other; the closure of links; and what
-- is reached with a link more and with a link less. Assumes nothing.
use Prim.Native.Nat.{ℕ, ◌^◌, ◌<◌}
use mathlib.Core.Path.{◌≡◌, refl, sym, ap, subst, ◌∙◌}
use mathlib.Core.Bool.{true, false}
use mathlib.Core.List.{List}
use mathlib.Core.Logic.{◌⊎◌, inl, inr, ⊎_elim}
use lib.Dec.{eqb}
use lib.ListN.{get_or}
use borrow.Author.Tests.{eqb-true, eqb-false, eq-eqb, not-true}
use Rattle.bits.specs.Words.{upd, has, ◌with◌}
use Rattle.bits.specs.Sets.{◌without◌}
use Rattle.bits.proofs.Truth.{clash, by_truth, is_false, same_truth, not_intro}
use Rattle.bits.proofs.Below.{all_intro, all_elim}
use Rattle.bits.proofs.Word.{same_members, with_elim, without_old, without_other, without_keeps}
use Rattle.bits.proofs.Tabulate.{get_d_tabulate, tabulate_cong}
use Rattle.closure.specs.Closure.{closure, Reaches, here, link}
use Rattle.closure.proofs.Closure.{reaches_through, closure_reaches, reaches_closure, closure_word}
use Rattle.closure.proofs.Links.{more, linked_more, linked_apart}
use Rattle.table.specs.State.{State}
use Rattle.table.specs.Seniority.{links, own_clear, closed, Linked}
use Rattle.bits.proofs.Upd.{upd_same, upd_other, by_upd}

-- the closure of the links of role r
abbrev pub closed_row : (ℕ → ℕ) → ℕ → ℕ
closed_row direct r = get_or (closure (links direct)) r 0

-- the links of role r
pub link_at : (d : ℕ → ℕ) (r : ℕ) → r < 64 → get_or (links d) r 0 ≡ d r
link_at d r h = get_d_tabulate 64 d 0 r h

-- the rows of the closure are linked, and linked rows are those of the closure
pub closure_linked : (j d : ℕ → ℕ) → ((r : ℕ) → r < 64 → has (d r) r ≡ false) → ((r : ℕ) → r < 64 → j r ≡ closed_row d r) → Linked j d
closure_linked j d o e = record {
  own_clear = o;
  is_word = λ r h. subst (λ (n : ℕ). n < 2 ^ 64) (sym (e r h)) (closure_word (links d) r h);
  is_reached = λ r q hr hq. (
    λ k. closure_reaches (links d) r q hr hq (sym (ap (λ (w : ℕ). has w q) (e r hr)) ∙ k),
    λ k. ap (λ (w : ℕ). has w q) (e r hr) ∙ reaches_closure (links d) r q hr hq k,
  );
}

module _ {j d : ℕ → ℕ} (f : Linked j d) where
  pub linked_closure : (r : ℕ) → r < 64 → j r ≡ closed_row d r
  linked_closure r h =
      same_members (j r) _ (f.is_word r h) (closure_word (links d) r h) (λ q hq.
      same_truth
      (λ e. reaches_closure (links d) r q h hq ((f.is_reached r q h hq).0 e))
      (λ e. (f.is_reached r q h hq).1 (closure_reaches (links d) r q h hq e)))

  pub linked_reflexive : (r : ℕ) → r < 64 → has (j r) r ≡ true
  linked_reflexive r h = (f.is_reached r r h h).1 here

  pub linked_transitive : (r q p : ℕ) → r < 64 → q < 64 → p < 64 → has (j r) q ≡ true → has (j q) p ≡ true → has (j r) p ≡ true
  linked_transitive r q p hr hq hp a b =
      (f.is_reached r p hr hp).1 (reaches_through (links d) ((f.is_reached r q hr hq).0 a) ((f.is_reached q p hq hp).0 b))

  -- a direct junior is a junior
  pub linked_junior : (r q : ℕ) → r < 64 → q < 64 → has (d r) q ≡ true → has (j r) q ≡ true
  linked_junior r q hr hq e = (f.is_reached r q hr hq).1 (link hq (ap (λ (w : ℕ). has w q) (link_at d r hr) ∙ e) here)

  pub linked_agree : {j' d' : ℕ → ℕ} → ((r : ℕ) → r < 64 → j r ≡ j' r) → ((r : ℕ) → r < 64 → d r ≡ d' r) → Linked j' d'
  linked_agree {j'} {d'} a b =
      closure_linked j' d' (λ r h. sym (ap (λ (w : ℕ). has w r) (b r h)) ∙ f.own_clear r h)
      (λ r h. sym (a r h) ∙ linked_closure r h ∙ ap (λ (l : List ℕ). get_or (closure l) r 0) (tabulate_cong 64 b))

-- every junior but the role itself as a link
module _ (j : ℕ → ℕ) (word : (r : ℕ) → r < 64 → j r < 2 ^ 64) (own : (r : ℕ) → r < 64 → has (j r) r ≡ true)
    (through : (r q p : ℕ) → r < 64 → q < 64 → p < 64 → has (j r) q ≡ true → has (j q) p ≡ true → has (j r) p ≡ true) where
  abbrev others : ℕ → ℕ
  others r = j r without r

  followed : {r q : ℕ} → r < 64 → q < 64 → Reaches (links others) r q → has (j r) q ≡ true
  followed {r} hr hq here = own r hr
  followed {r} {q} hr hq (link {p = p} l e a) =
      through r p q hr l hq (without_old (j r) r p l (sym (ap (λ (w : ℕ). has w p) (link_at others r hr)) ∙ e)) (followed l hq a)

  pub juniors_linked : Linked j others
  juniors_linked = record {
    own_clear = λ r h. is_false (λ k. without_other (j r) r r h k refl);
    is_word = word;
    is_reached = λ r q hr hq. (
      λ e. by_truth (eqb q r)
          (λ z. subst (Reaches (links others) r) (sym (eqb-true q r z)) here)
          (λ z. link hq (ap (λ (w : ℕ). has w q) (link_at others r hr) ∙ without_keeps (j r) r q hq (eqb-false q r z) e) here),
      followed hr hq,
    );
  }

-- ---- the test

module _ (S : State) where
  pub linked_elim : own_clear S ≡ true → closed S ≡ true → Linked S.juniors S.direct
  unfolding own_clear closed
  linked_elim o c =
      closure_linked S.juniors S.direct (λ r h. not-true _ (all_elim _ 64 o r h)) (λ r h. eqb-true (S.juniors r) _ (all_elim _ 64 c r h))

  pub own_clear_intro : Linked S.juniors S.direct → own_clear S ≡ true
  unfolding own_clear
  own_clear_intro f = all_intro _ 64 (λ r h. not_intro (f.own_clear r h))

  pub closed_intro : Linked S.juniors S.direct → closed S ≡ true
  unfolding closed
  closed_intro f = all_intro _ 64 (λ r h. eq-eqb (S.juniors r) _ (linked_closure f r h))

-- ---- a link more, and a link less

module _ {j d : ℕ → ℕ} (f : Linked j d) (r q : ℕ) (hr : r < 64) (hq : q < 64) where
  module _ (w : ℕ) where
    there : get_or (links (upd d r w)) r 0 ≡ w
    there = link_at (upd d r w) r hr ∙ upd_same d r w

    else : (a : ℕ) → a < 64 → (a ≡ r → ⊥) → get_or (links (upd d r w)) a 0 ≡ get_or (links d) a 0
    else a h n = link_at (upd d r w) a h ∙ upd_other d r w a n ∙ sym (link_at d a h)

  -- role r above q
  abbrev linked : ℕ → ℕ
  linked = upd d r (d r with q)

  joins : get_or (links linked) r 0 ≡ get_or (links d) r 0 with q
  joins = there (d r with q) ∙ ap (λ (w : ℕ). w with q) (sym (link_at d r hr))

  pub link_more : (a p : ℕ) → a < 64 → p < 64 → has (j a) p ≡ true → has (closed_row linked a) p ≡ true
  link_more a p ha hp e =
      reaches_closure (links linked) a p ha hp
      (linked_more (links d) (links linked) r q hq joins (else (d r with q)) ha ((f.is_reached a p ha hp).0 e))

  link_apart : (a p : ℕ) → a < 64 → p < 64 → has (closed_row linked a) p ≡ true
      → (has (j a) p ≡ true) ⊎ ((has (j a) r ≡ true) × (has (j q) p ≡ true))
  link_apart a p ha hp e =
      ⊎_elim
      (λ k. inl ((f.is_reached a p ha hp).1 k))
      (λ k. inr ((f.is_reached a r ha hr).1 k.0, (f.is_reached q p hq hp).1 k.1))
      (linked_apart (links d) (links linked) r q hq joins (else (d r with q)) ha (closure_reaches (links linked) a p ha hp e))

  pub link_own_clear : (r ≡ q → ⊥) → (a : ℕ) → a < 64 → has (linked a) a ≡ false
  link_own_clear n a h =
      by_upd d r (d r with q) (λ (w : ℕ). has w a ≡ false) a
      (λ e. is_false (λ k. with_elim (d r) q a h k
      (λ z. n (sym e ∙ z)) (λ z. clash z (ap (λ (i : ℕ). has (d i) a) (sym e) ∙ f.own_clear a h))))
      (λ z. f.own_clear a h)

  -- where q was not above r there is no way back
  pub link_one_way : has (j q) r ≡ false → ((a b : ℕ) → a < 64 → b < 64 → has (j a) b ≡ true → has (j b) a ≡ true → a ≡ b)
      → (a b : ℕ) → a < 64 → b < 64 → has (closed_row linked a) b ≡ true → has (closed_row linked b) a ≡ true → a ≡ b
  link_one_way n old a b ha hb x y =
      ⊎_elim
      (λ k. ⊎_elim (old a b ha hb k) (λ l. clash (through l.0 (trans q a b hq ha hb l.1 k)) n) (link_apart b a hb ha y))
      (λ k. ⊎_elim
      (λ l. clash (through (trans b a r hb ha hr l k.0) k.1) n)
      (λ l. clash (through l.0 k.1) n)
      (link_apart b a hb ha y))
      (link_apart a b ha hb x)
    where
      trans : (a b c : ℕ) → a < 64 → b < 64 → c < 64 → has (j a) b ≡ true → has (j b) c ≡ true → has (j a) c ≡ true
      trans = linked_transitive f

      through : has (j b) r ≡ true → has (j q) b ≡ true → has (j q) r ≡ true
      through k l = trans q b r hq hb hr l k

  -- role r no longer above q
  abbrev unlinked : ℕ → ℕ
  unlinked = upd d r (d r without q)

  fewer : (a x : ℕ) → a < 64 → x < 64 → has (unlinked a) x ≡ true → has (d a) x ≡ true
  fewer a x ha hx =
      by_upd d r (d r without q) (λ (w : ℕ). has w x ≡ true → has (d a) x ≡ true) a
      (λ e k. ap (λ (i : ℕ). has (d i) x) e ∙ without_old (d r) q x hx k) (λ n k. k)

  pub unlink_less : (a p : ℕ) → a < 64 → p < 64 → has (closed_row unlinked a) p ≡ true → has (j a) p ≡ true
  unlink_less a p ha hp e =
      (f.is_reached a p ha hp).1
      (more (links unlinked) (links d)
      (λ b x hb hx k. ap (λ (w : ℕ). has w x) (link_at d b hb) ∙ fewer b x hb hx (sym (ap (λ (w : ℕ). has w x) (link_at unlinked b hb)) ∙ k)) ha
      (closure_reaches (links unlinked) a p ha hp e))

  pub unlink_own_clear : (a : ℕ) → a < 64 → has (unlinked a) a ≡ false
  unlink_own_clear a h = is_false (λ k. clash (fewer a a h h k) (f.own_clear a h))
