-- The objects of a session's roles joined are its mask. Assumes nothing.
use Prim.Native.Nat.{ℕ, ◌+◌, ◌*◌, ◌%◌, ◌^◌, ◌<◌}
use mathlib.Core.Path.{◌≡◌, refl, sym, ap, ap₂, subst, ◌∙◌}
use mathlib.Core.List.{List}
use native.Mathlib.Omega.{arith}
use lib.ListN.{length, get_or, replicate, get_or-replicate}
use borrow.Author.Tests.{lt-ltb}
use Rattle.bits.specs.Words.{◌and◌, has, pack}
use Rattle.bits.specs.Sets.{some, overlap, IsLowest, IsRest}
use Rattle.bits.proofs.Truth.{same_truth, and_intro, and_left, and_right, if_true}
use Rattle.bits.proofs.Word.{has_pack, pack_cong}
use Rattle.bits.proofs.Membership.{some_intro, some_elim, some_cong, overlap_intro, overlap_elim}
use Rattle.bits.proofs.Walk.{Joining, join_start, join_step, join_end}
use Rattle.bits.proofs.Tabulate.{length_tabulate, get_d_tabulate, tabulated}
use Rattle.table.specs.State.{State}
use Rattle.table.specs.Authority.{permission, covers, effective}
use Rattle.table.specs.Masks.{mask_of}
use Rattle.table.proofs.State.{effective_is}
use Rattle.masks.specs.Gathered.{own_objects, gathered, with_row, joined_rows}

-- ---- a loop that joins the rows of the roles of w: those of m are left

pub record JoiningRows (objects : List ℕ) (w : ℕ) (words : List ℕ) (m : ℕ) : Type 0 where
  pub long : length words ≡ 8
  pub rows : (x : ℕ) → x < 8 → Joining w (λ q. get_or objects (8 * q + x) 0) m (get_or words x 0)

module _ {objects : List ℕ} {w : ℕ} where
  pub rows_start : w < 2 ^ 64 → JoiningRows objects w (replicate 8 0) w
  rows_start h = record { long = refl; rows = λ x l. subst (Joining _ _ _) (sym (get_or-replicate 8 x 0 0 l)) (join_start h) }

  pub rows_step : {words words' : List ℕ} {m q m' : ℕ} → JoiningRows objects w words m → (m ≡ 0 → ⊥) → IsLowest m q → IsRest m m'
      → words' ≡ with_row words objects q → JoiningRows objects w words' m'
  unfolding with_row
  rows_step k n e d z = record {
    long = ap length z ∙ length_tabulate 8 _;
    rows = λ x l. join_step (k.rows x l) n e d (ap (λ (y : List ℕ). get_or y x 0) z ∙ get_d_tabulate 8 _ 0 x l);
  }

  pub rows_end : {words : List ℕ} {m : ℕ} → JoiningRows objects w words m → m ≡ 0 → words ≡ joined_rows objects w
  unfolding joined_rows
  rows_end k e = tabulated 8 _ k.long (λ x l. join_end (k.rows x l) e)

-- ---- the mask of a session

module _ (S : State) where
  -- the members of what was gathered
  own_has : (q x o : ℕ) → o < 64 → has (own_objects S q x) o ≡ permission S x o and has (S.granted x o) q
  unfolding own_objects
  own_has q x o h = has_pack _ 64 o h

  gathered_row : (q x : ℕ) → q < 64 → x < 8 → get_or (gathered S 8) (8 * q + x) 0 ≡ own_objects S q x
  unfolding gathered
  gathered_row q x hq hx =
      get_d_tabulate 512 _ 0 (8 * q + x) (omega arith)
      ∙ if_true _ _ (lt-ltb ((8 * q + x) % 8) 8 (omega arith))
      ∙ ap₂ (own_objects S) (omega arith) (omega arith)

  module _ (s x roles : ℕ) (r : roles ≡ pack 64 (covers S (S.active s))) where
    -- an object is effective that is of one of the roles
    of_one : (o : ℕ) → o < 64 → some roles (λ q. has (own_objects S q x) o) ≡ effective S s x o
    of_one o h =
        same_truth
        (λ a.
        let f = some_elim roles (λ q. has (own_objects S q x) o) a in
        let b = sym (own_has f.at x o h) ∙ f.holds in
        and_intro (and_left (permission S x o) _ b) (overlap_intro (S.granted x o) roles f.at f.below (and_right (permission S x o) _ b) f.member))
        (λ e.
        let f = overlap_elim (S.granted x o) roles (and_right (permission S x o) _ e) in
        some_intro roles (λ q. has (own_objects S q x) o) f.at f.below f.holds
        (own_has f.at x o h ∙ and_intro (and_left (permission S x o) _ e) f.member))
        ∙ ap (λ (w : ℕ). permission S x o and overlap (S.granted x o) w) r
        ∙ sym (effective_is S s x o)

    pub mask_joined : {objects words : List ℕ} → objects ≡ gathered S 8 → x < 8 → words ≡ joined_rows objects roles → get_or words x 0 ≡ mask_of S s x
    unfolding joined_rows mask_of
    mask_joined e hx j =
        ap (λ (y : List ℕ). get_or y x 0) j ∙ get_d_tabulate 8 _ 0 x hx
        ∙ pack_cong 64 (λ o h.
        some_cong roles (λ q l. ap (λ (w : ℕ). has w o) (ap (λ (y : List ℕ). get_or y (8 * q + x) 0) e ∙ gathered_row q x l hx)) ∙ of_one o h)
