-- Links made and taken away: when they are on a sound state, and what the code answers, leaves and puts back. Assumes nothing.
use Prim.Native.Nat.{ℕ, ◌+◌, ◌≤◌, ◌<◌, suc-le-suc}
use mathlib.Core.Path.{◌≡◌, sym, ap, ◌∙◌}
use mathlib.Core.Bool.{Bool, true, false, not}
use mathlib.Core.List.{List}
use mathlib.Core.Logic.{◌⊎◌, ⊎_elim}
use native.Mathlib.Nat.{zero-add, le_of_suc-le-suc}
use lib.Dec.{eqb, ltb}
use lib.ListN.{length, get_or}
use borrow.Author.Tests.{eq-eqb, ne_eqb, lt-ltb, le-ltb}
use Rattle.bits.specs.Words.{◌and◌, when◌then◌else◌, has, tabulate, upd, ◌with◌}
use Rattle.bits.specs.Sets.{◌without◌}
use Rattle.bits.proofs.Truth.{not_intro, true_and, false_and, and_false, and_assoc, if_true, if_false}
use Rattle.bits.proofs.Tabulate.{get_d_tabulate}
use Rattle.table.specs.State.{State}
use Rattle.table.specs.Authority.{senior}
use Rattle.table.specs.Changes.{set_seniority, with_direct}
use Rattle.table.specs.Masks.{refreshed}
use Rattle.table.specs.Separation.{static_sets_hold, separated}
use Rattle.table.specs.Sound.{ruled, Ruled}
use Rattle.table.specs.Reading.{direct_at, word, state}
use Rattle.table.specs.Table.{table_length, is_table, encode}
use Rattle.table.proofs.Table.{is_table_lem, not_table}
use Rattle.table.proofs.Agree.{Agree, agree_set_seniority, upd_other, by_upd}
use Rattle.table.proofs.Encode.{encode_cong, encode_state, state_encode}
use Rattle.sound.specs.Answers.{sessions_hold}
use Rattle.separation.proofs.Parts.{seniority_fits}
use Rattle.sound.proofs.Parts.{unlink_ruled}
use Rattle.links.specs.Links.{linkable, unlinkable, on_table, relinked, may_link, after_link, may_unlink, after_unlink}

-- ---- on a sound state

module _ (S : State) (f : Ruled S) (r q : ℕ) where
  pub linkable_is : linkable S r q ≡ (not (eqb r q) and not (senior S q r)) and separated (with_direct S r (S.direct r with q))
  unfolding linkable
  linkable_is =
      sym (and_assoc (not (eqb r q)) _ _)
      ∙ ap (λ (b : Bool). (not (eqb r q) and not (senior S q r)) and b) (sym (seniority_fits S f.is_separated _ _))

  pub unlinkable_is : r < 64 → q < 64 → unlinkable S r q ≡ has (S.direct r) q and ruled (with_direct S r (S.direct r without q))
  unfolding unlinkable
  unlinkable_is hr hq = ap (λ (b : Bool). has (S.direct r) q and b) (sym (unlink_ruled S f r q hr hq))

-- ---- as the code goes about it

module _ (S : State) (r q : ℕ) where
  pub not_itself : r ≡ q → linkable S r q ≡ false
  unfolding linkable
  not_itself e = false_and _ (ap not (eq-eqb r q e))

  pub not_back : senior S q r ≡ true → linkable S r q ≡ false
  unfolding linkable
  not_back e = and_false (not (eqb r q)) (false_and _ (ap not e))

  pub link_left : (r ≡ q → ⊥) → senior S q r ≡ false → linkable S r q ≡ static_sets_hold (with_direct S r (S.direct r with q))
  unfolding linkable
  link_left n e = true_and _ (not_intro (ne_eqb r q n)) ∙ true_and _ (not_intro e)

  pub no_link : has (S.direct r) q ≡ false → unlinkable S r q ≡ false
  unfolding unlinkable
  no_link e = false_and _ e

  pub unlink_left : has (S.direct r) q ≡ true → unlinkable S r q ≡ sessions_hold (with_direct S r (S.direct r without q))
  unfolding unlinkable
  unlink_left e = true_and _ e

module _ (t : List ℕ) (r q : ℕ) where
  pub on_table_lem : {b : Bool} → length t ≡ table_length → r ≤ 63 → q ≤ 63 → on_table t r q b ≡ b
  unfolding on_table
  on_table_lem e hr hq = true_and _ (is_table_lem t e) ∙ true_and _ (lt-ltb r 64 (suc-le-suc hr)) ∙ true_and _ (lt-ltb q 64 (suc-le-suc hq))

  pub off_table : (b : Bool) → (length t ≡ table_length → ⊥) → on_table t r q b ≡ false
  unfolding on_table
  off_table b n = false_and _ (not_table t n)

  pub no_role : (b : Bool) → (63 < r) ⊎ ((r ≤ 63) × (63 < q)) → on_table t r q b ≡ false
  unfolding on_table
  no_role b h =
      and_false (is_table t)
      (⊎_elim (λ p. false_and _ (le-ltb r 64 p)) (λ p. and_false (ltb r 64) (false_and _ (le-ltb q 64 p.1))) h)

-- what the two functions answer and leave, where there are such roles
module _ (t : List ℕ) (e : length t ≡ table_length) (r q : ℕ) (hr : r < 64) (hq : q < 64) {b : Bool} where
  pub link_told : b ≡ may_link t r q → b ≡ linkable (state t) r q
  unfolding may_link
  link_told a = a ∙ on_table_lem t r q e (le_of_suc-le-suc hr) (le_of_suc-le-suc hq)

  pub link_leaves : {t' : List ℕ} → b ≡ may_link t r q → t' ≡ after_link t r q → t' ≡ (when b then encode (refreshed (with_direct (state t) r ((state t).direct r with q))) else t)
  unfolding after_link relinked
  link_leaves a k = k ∙ ap (λ (c : Bool). when c then encode (refreshed (with_direct (state t) r ((state t).direct r with q))) else t) (sym a)

  pub unlink_told : b ≡ may_unlink t r q → b ≡ unlinkable (state t) r q
  unfolding may_unlink
  unlink_told a = a ∙ on_table_lem t r q e (le_of_suc-le-suc hr) (le_of_suc-le-suc hq)

  pub unlink_leaves : {t' : List ℕ} → b ≡ may_unlink t r q → t' ≡ after_unlink t r q → t' ≡ (when b then encode (refreshed (with_direct (state t) r ((state t).direct r without q))) else t)
  unfolding after_unlink relinked
  unlink_leaves a k = k ∙ ap (λ (c : Bool). when c then encode (refreshed (with_direct (state t) r ((state t).direct r without q))) else t) (sym a)

-- the two clauses of a contract
module _ {t' : List ℕ} (t : List ℕ) (r w : ℕ) {b : Bool} where
  pub answer_no : b ≡ false → t' ≡ t → record { answer : false ≡ b; table : t' ≡ relinked t r w b }
  unfolding relinked
  answer_no e k = record { answer = sym e; table = k ∙ sym (if_false _ _ e) }

  pub answer_yes : b ≡ true → t' ≡ encode (refreshed (with_direct (state t) r w)) → record { answer : true ≡ b; table : t' ≡ relinked t r w b }
  unfolding relinked
  answer_yes e k = record { answer = sym e; table = k ∙ sym (if_true _ _ e) }

-- the rows and the word of role r put back
pub put_back : (t : List ℕ) {t₁ t₂ rows : List ℕ} (r w : ℕ) {old : ℕ} → length t ≡ table_length
    → t₁ ≡ encode (with_direct (state t) r w) → rows ≡ tabulate 64 (λ i. word t (0 + i)) → old ≡ word t (direct_at r)
    → t₂ ≡ encode (set_seniority (state t₁) (λ p. get_or rows p 0) (upd (state t₁).direct r old)) → t₂ ≡ t
put_back t {t₁} {t₂} {rows} r w {old} e k d o z =
    z
    ∙ encode_cong (agree_set_seniority now
    (λ p h. ap (λ (l : List ℕ). get_or l p 0) d ∙ get_d_tabulate 64 _ 0 p h ∙ ap (λ (i : ℕ). word t i) (zero-add p))
    (λ p h.
    by_upd (state t₁).direct r old (λ (v : ℕ). v ≡ word t (direct_at p)) p
    (λ i. o ∙ ap (λ (a : ℕ). word t (direct_at a)) (sym i))
    (λ n. now.direct p h ∙ upd_other (state t).direct r w p n)))
    ∙ sym (encode_state t e)
  where
    now : Agree (state t₁) (with_direct (state t) r w)
    now = rw k (state_encode (with_direct (state t) r w))
