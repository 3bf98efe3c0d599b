-- On a state whose masks are true, the masks that a request can change worked out anew are all masks worked out anew. Assumes nothing.
use Prim.Native.Nat.{ℕ, ◌+◌, ◌*◌, ◌<◌, ◌≤◌}
use mathlib.Core.Path.{◌≡◌, refl, sym, ap, ap₂, subst, ◌∙◌}
use mathlib.Core.Bool.{Bool, true, false, not}
use mathlib.Core.List.{List}
use lib.Dec.{eqb, ltb}
use lib.ListN.{get_or, length, replicate, length-replicate, get_or-replicate}
use lib.Seq.{ext_get_or}
use native.Mathlib.Omega.{arith}
use borrow.Rule.Slice.PartMut.{mid_of, put_mid}
use borrow.Author.Tests.{eqb-true, eqb-false, ltb-true, ltb-false}
use Rattle.std.proofs.Common.{rules}
use Rattle.std.proofs.lemmas.List.{places}
use Rattle.bits.specs.Words.{when◌then◌else◌, has, pack, ◌with◌}
use Rattle.bits.specs.Sets.{◌without◌}
use Rattle.bits.proofs.Truth.{by_truth, if_true, if_false, or_left, false_or, true_and, false_and, not_intro}
use Rattle.bits.proofs.Word.{has_pack, pack_cong, pack_is, has_with, has_without, with_lt, without_lt, with_same, without_same}
use Rattle.table.specs.State.{State}
use Rattle.table.specs.Authority.{effective}
use Rattle.table.specs.Answers.{overlay}
use Rattle.table.specs.Changes.{with_owner, with_active, with_granted}
use Rattle.table.specs.Masks.{mask_of, put, refreshed, refreshed_at, refreshed_pair, MasksTrue}
use Rattle.table.specs.Table.{table_length, encode}
use Rattle.table.proofs.Answers.{length_overlay, overlay_at, overlay_before, overlay_past}
use Rattle.table.proofs.Encode.{encode_length, encode_cong}
use Rattle.table.proofs.Overlaying.{write_held, write_masks}
use Rattle.table.proofs.Agree.{Agree, agree_refl, agree_set_masks, agree_with_holds, agree_with_masks, true_refreshed, by_upd, upd_same, upd_other, by_grid, grid_same}
use Rattle.table.proofs.Keeps.{effective_same, mask_same, no_roles_mask}
use Rattle.rbac.specs.Roles.{Request, opens, closes, starts, ends, activates, drops, assigns, deassigns, grants, revokes, separates, links, unlinks, moved, changed}
use Rattle.rbac.specs.Guard.{changed_sound}
use Rattle.rbac.specs.Served.{Ranged}

-- ---- masks of one session, and one pair, of a state whose other masks are true

module _ (T : State) where
  session_anew : (s : ℕ) → ((p x : ℕ) → p < 32 → x < 8 → (p ≡ s → ⊥) → T.masks p x ≡ mask_of T p x) → Agree (refreshed_at s T) (refreshed T)
  session_anew s h =
      agree_set_masks (agree_refl T) (λ p x hp hx.
      by_upd T.masks s (mask_of T s) (λ (f : ℕ → ℕ). f x ≡ mask_of T p x) p
      (λ e. sym (ap (λ (n : ℕ). mask_of T n x) e)) (h p x hp hx))

  put_is : (w o : ℕ) (f : ℕ → Bool) → o < 64 → ((p : ℕ) → p < 64 → (p ≡ o → ⊥) → has w p ≡ f p) → put w o (f o) ≡ pack 64 f
  unfolding put
  put_is w o f ho h =
      by_truth (f o)
      (λ b. if_true _ _ b ∙ pack_is 64 (w with o) f (with_lt w o) (λ p hp. has_with w o p hp ∙ by_truth (eqb p o)
      (λ e. or_left _ e ∙ sym (ap f (eqb-true p o e) ∙ b)) (λ e. false_or _ e ∙ h p hp (eqb-false p o e))))
      (λ b. if_false _ _ b ∙ pack_is 64 (w without o) f (without_lt w o) (λ p hp. has_without w o p hp ∙ by_truth (eqb p o)
      (λ e. false_and _ (ap not e) ∙ sym (ap f (eqb-true p o e) ∙ b))
      (λ e. true_and _ (not_intro e) ∙ h p hp (eqb-false p o e))))

  pair_anew : (x o : ℕ) → x < 8 → o < 64 → ((s y p : ℕ) → s < 32 → y < 8 → p < 64 → (y ≡ x → p ≡ o → ⊥) → has (T.masks s y) p ≡ effective T s y p)
      → ((s y : ℕ) → s < 32 → y < 8 → (y ≡ x → ⊥) → T.masks s y ≡ mask_of T s y)
      → Agree (refreshed_pair x o T) (refreshed T)
  unfolding mask_of
  pair_anew x o hx ho k h =
      agree_set_masks (agree_refl T) (λ s y hs hy.
      by_upd (T.masks s) x _ (λ (w : ℕ). w ≡ pack 64 (effective T s y)) y
      (λ e. put_is (T.masks s x) o (effective T s x) ho (λ p hp n. k s x p hs hx hp (λ a b. n b)) ∙ sym (ap (λ (z : ℕ). pack 64 (effective T s z)) e))
      (h s y hs hy))

either : (b : Bool) {T U W : State} → (b ≡ true → Agree T W) → (b ≡ false → Agree U W) → Agree (when b then T else U) W
either b {T} {U} {W} f g =
    by_truth b (λ e. subst (λ (R : State). Agree R W) (sym (if_true T U e)) (f e)) (λ e. subst (λ (R : State). Agree R W) (sym (if_false T U e)) (g e))

-- ---- after a change of a state whose masks are true

module _ (S : State) (f : MasksTrue S) where
  -- of the active roles of one session
  module _ (T : State) (s : ℕ) (j : S.juniors ≡ T.juniors) (q : S.permitted ≡ T.permitted) (g : S.granted ≡ T.granted) (m : S.masks ≡ T.masks) where
    other_active : ((p : ℕ) → (p ≡ s → ⊥) → S.active p ≡ T.active p) → Agree (refreshed_at s T) (refreshed T)
    unfolding mask_of
    other_active a =
        session_anew T s (λ p x hp hx n.
        sym (ap (λ (w : ℕ → ℕ → ℕ). w p x) m) ∙ f p x hp hx
        ∙ pack_cong 64 (λ o ho. effective_same S T j p x o q (ap (λ (w : ℕ → ℕ → ℕ). w x o) g) (a p n)))

    same_active : ((p r : ℕ) → r < 64 → has (S.active p) r ≡ has (T.active p) r) → Agree T (refreshed T)
    same_active a =
        true_refreshed T (λ p x hp hx.
        sym (ap (λ (w : ℕ → ℕ → ℕ). w p x) m) ∙ f p x hp hx
        ∙ mask_same S T j q p x (λ o r ho hr. ap (λ (w : ℕ → ℕ → ℕ). has (w x o) r) g) (a p))

  module _ (x o w : ℕ) where
    -- of the roles granted a pair
    other_granted : x < 8 → o < 64 → Agree (refreshed_pair x o (with_granted S x o w)) (refreshed (with_granted S x o w))
    unfolding mask_of
    other_granted hx ho =
        pair_anew (with_granted S x o w) x o hx ho
        (λ s y p hs hy hp n. ap (λ (v : ℕ). has v p) (f s y hs hy) ∙ has_pack _ 64 p hp ∙ same s y p n)
        (λ s y hs hy n. f s y hs hy ∙ pack_cong 64 (λ p hp. same s y p (λ e d. n e)))
      where
        same : (s y p : ℕ) → (y ≡ x → p ≡ o → ⊥) → effective S s y p ≡ effective (with_granted S x o w) s y p
        same s y p k =
            by_grid S.granted x o w y p (λ e d. absurd (k e d)) (λ e. effective_same S (with_granted S x o w) refl s y p refl (sym e) refl)

    same_granted : ((r : ℕ) → r < 64 → has w r ≡ has (S.granted x o) r) → Agree (with_granted S x o w) (refreshed (with_granted S x o w))
    same_granted k =
        true_refreshed (with_granted S x o w) (λ s y hs hy.
        f s y hs hy
        ∙ mask_same S (with_granted S x o w) refl refl s y (λ p r hp hr.
        by_grid S.granted x o w y p
        (λ e d. ap₂ (λ (a b : ℕ). has (S.granted a b) r) e d ∙ sym (k r hr) ∙ sym (ap₂ (λ (a b : ℕ). has ((with_granted S x o w).granted a b) r) e d ∙ ap (λ (v : ℕ). has v r) (grid_same S.granted x o w)))
        (λ e. sym (ap (λ (v : ℕ). has v r) e))) (λ r hr. refl))

  -- the active roles of session s replaced by the same ones
  same_roles : (s w : ℕ) → ((r : ℕ) → r < 64 → has w r ≡ has (S.active s) r) → (p r : ℕ) → r < 64 → has (S.active p) r ≡ has ((with_active S s w).active p) r
  same_roles s w k p r hr =
      by_upd S.active s w (λ (v : ℕ). has (S.active p) r ≡ has v r) p (λ e. ap (λ (n : ℕ). has (S.active n) r) e ∙ sym (k r hr)) (λ n. refl)

  pub changed_same : (r : Request) → Ranged r → Agree (changed_sound S r) (changed S r)
  unfolding changed mask_of effective
  changed_same (opens s o x) h = true_refreshed _ f
  changed_same (closes s o x) h = true_refreshed _ f
  changed_same (starts s u roles) h = other_active _ s refl refl refl refl (λ p n. sym (upd_other S.active s roles p n))
  changed_same (ends s) h = other_active _ s refl refl refl refl (λ p n. sym (upd_other S.active s 0 p n))
  changed_same (activates s r) h =
      either (has (S.active s) r)
      (λ e. same_active _ s refl refl refl refl (same_roles s _ (with_same (S.active s) r e)))
      (λ e. other_active _ s refl refl refl refl (λ p n. sym (upd_other S.active s _ p n)))
  changed_same (drops s r) h =
      either (has (S.active s) r)
      (λ e. other_active _ s refl refl refl refl (λ p n. sym (upd_other S.active s _ p n)))
      (λ e. same_active _ s refl refl refl refl (same_roles s _ (without_same (S.active s) r e)))
  changed_same (assigns u r) h = true_refreshed _ f
  changed_same (deassigns u r) h = true_refreshed _ f
  changed_same (grants r x o) h =
      either (has (S.granted x o) r)
      (λ e. same_granted x o _ (with_same (S.granted x o) r e))
      (λ e. other_granted x o _ h.1 h.2)
  changed_same (revokes r x o) h =
      either (has (S.granted x o) r)
      (λ e. other_granted x o _ h.1 h.2)
      (λ e. same_granted x o _ (without_same (S.granted x o) r e))
  changed_same (separates n m b) h = true_refreshed _ f
  changed_same (links r q) h = agree_refl _
  changed_same (unlinks r q) h = agree_refl _

-- ---- words of a table that are written at once

module _ (t : List ℕ) (at : ℕ) {k : ℕ} (words : List ℕ) (e : k ≡ length words) (h : at + length words ≤ length t) where
  length_written : length (put_mid at k t words) ≡ length t
  length_written = search (rules, places)

  pub written_over : put_mid at k t words ≡ overlay t at words
  written_over =
      let long = length_written in
      ext_get_or 0 _ _ (long ∙ sym (length_overlay t at words)) (λ j l.
      by_truth (ltb j at)
      (λ b. let m = ltb-true j at b in let n = overlay_before t at words j m (omega arith) in search (rules, places))
      (λ b. let m = ltb-false j at b in
      by_truth (ltb j (at + length words))
      (λ d. let n = ltb-true j _ d in let o = overlay_at t at words j m n (omega arith) in search (rules, places))
      (λ d. let n = ltb-false j _ d in let o = overlay_past t at words j n (omega arith) in search (rules, places))))

-- ---- a session that ends may open nothing: its masks are cleared with what it holds

-- what a fill of eight words leaves of them
eight_zeros : (t : List ℕ) (at : ℕ) {k : ℕ} {words : List ℕ} → k ≡ 8 → at + 8 ≤ length t → words ≡ replicate (length (mid_of at k t)) 0 → words ≡ replicate 8 0
eight_zeros t at {k} e h z =
    let n : length (mid_of at k t) ≡ 8 = search (rules, places) in
    z ∙ ap (λ (m : ℕ). replicate m 0) n

pub ended_is : {t held masks : List ℕ} {k l : ℕ} (S : State) (s : ℕ) → s < 32 → t ≡ encode (with_active (with_owner S s 0) s 0) → k ≡ 8 → l ≡ 8
    → held ≡ replicate (length (mid_of (712 + 8 * s) k t)) 0
    → masks ≡ replicate (length (mid_of (1096 + 8 * s) l (put_mid (712 + 8 * s) k t held))) 0
    → put_mid (1096 + 8 * s) l (put_mid (712 + 8 * s) k t held) masks ≡ encode (changed_sound S (ends s))
ended_is {t} {held} {masks} S s h z ek el e f =
    let n : length t ≡ table_length = ap length z ∙ encode_length _ in
    let held_zeros = eight_zeros t (712 + 8 * s) ek (omega arith) e in
    let a : length held ≡ 8 = ap length held_zeros ∙ length-replicate {A = ℕ} 8 0 in
    let held_written = written_over t (712 + 8 * s) held (ek ∙ sym a) (omega arith) ∙ write_held _ z s held h a in
    let m : length (put_mid (712 + 8 * s) _ t held) ≡ table_length = ap length held_written ∙ encode_length _ in
    let masks_zeros = eight_zeros (put_mid (712 + 8 * s) _ t held) (1096 + 8 * s) el (omega arith) f in
    let b : length masks ≡ 8 = ap length masks_zeros ∙ length-replicate {A = ℕ} 8 0 in
    written_over _ (1096 + 8 * s) masks (el ∙ sym b) (omega arith)
    ∙ write_masks _ held_written s masks h b
    ∙ encode_cong (agree_with_masks (agree_with_holds (agree_refl (with_active (with_owner S s 0) s 0)) s (at held_zeros)) s (λ x l.
    at masks_zeros x l ∙ sym (no_roles_mask (moved S (ends s)) s x (upd_same S.active s 0))))
  where
    at : {words : List ℕ} → words ≡ replicate 8 0 → (x : ℕ) → x < 8 → get_or words x 0 ≡ 0
    at e x l = ap (λ (w : List ℕ). get_or w x 0) e ∙ get_or-replicate 8 x 0 0 l
