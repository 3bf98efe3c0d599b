-- Masks worked out anew as the code does it: those of one session at once, one pair session by session. Assumes nothing.
use Prim.Native.Nat.{ℕ, ◌+◌, ◌*◌, ◌/◌, ◌%◌, ◌≤◌, ◌<◌}
use mathlib.Core.Path.{◌≡◌, sym, ap, ap₂, ◌∙◌}
use mathlib.Core.Bool.{Bool, true, false}
use mathlib.Core.List.{List}
use native.Mathlib.Omega.{arith}
use lib.Dec.{ltb}
use lib.ListN.{length, get_or, set}
use borrow.Author.Tests.{lt-ltb, le-ltb, ltb-true, ltb-false}
use Rattle.bits.specs.Words.{◌and◌, when◌then◌else◌, upd}
use Rattle.bits.specs.Sets.{overlap}
use Rattle.bits.proofs.Truth.{by_truth, same_truth, and_intro, and_left, and_right, true_and, false_and, if_true, if_false}
use Rattle.bits.proofs.Word.{has_pack, pack_cong, pack_none}
use Rattle.bits.proofs.Membership.{overlap_intro, overlap_elim}
use Rattle.bits.proofs.Tabulate.{get_d_tabulate}
use Rattle.table.specs.State.{State}
use Rattle.table.specs.Authority.{permission, effective}
use Rattle.table.specs.Changes.{set_masks}
use Rattle.table.specs.Masks.{mask_of, put, refreshed, refreshed_at, refreshed_pair}
use Rattle.table.specs.Answers.{senior_roles, effective_permissions, overlay}
use Rattle.table.specs.Reading.{active_at, masks_at, state}
use Rattle.table.specs.Table.{table_length, is_table, encode}
use Rattle.table.proofs.State.{effective_intro, effective_elim}
use Rattle.table.proofs.Table.{in_table, is_table_lem}
use Rattle.table.proofs.Answers.{effective_permissions_are}
use Rattle.table.proofs.Agree.{Agree, agree_refl, agree_sym, agree_with_masks, agree_set_masks, effective_agree, mask_agree, by_upd, upd_agree}
use Rattle.table.proofs.Encode.{encode_state, encode_length, encode_cong, state_encode, write_mask}
use Rattle.table.proofs.Overlaying.{write_masks, write_all_masks}
use Rattle.masks.specs.Answers.{session_refreshed, pair_refreshed, all_masks}
use Rattle.masks.specs.Gathered.{giving_roles}

-- ---- all of them

pub all_masks_at : (t : List ℕ) (i : ℕ) → length t ≡ table_length → i < 256 → get_or (all_masks t) i 0 ≡ mask_of (state t) (i / 8) (i % 8)
unfolding all_masks
all_masks_at t i e h = get_d_tabulate 256 _ 0 i h ∙ if_true _ _ (is_table_lem t e)

pub all_masks_of : (t : List ℕ) (s x : ℕ) → length t ≡ table_length → s < 32 → x < 8 → get_or (all_masks t) (8 * s + x) 0 ≡ mask_of (state t) s x
all_masks_of t s x e hs hx = all_masks_at t (8 * s + x) e (omega arith) ∙ ap₂ (λ (p y : ℕ). mask_of (state t) p y) (omega arith) (omega arith)

pub all_refreshed : {t : List ℕ} (S : State) {words : List ℕ} → t ≡ encode S → words ≡ all_masks t → length words ≡ 256 → overlay t 1096 words ≡ encode (refreshed S)
all_refreshed {t} S {words} z k e =
    write_all_masks S z words e
    ∙ encode_cong (agree_set_masks (agree_refl S) (λ s x hs hx.
    ap (λ (l : List ℕ). get_or l (8 * s + x) 0) k ∙ all_masks_of t s x (ap length z ∙ encode_length S) hs hx ∙ mask_agree (rw z (state_encode S)) s x hs hx))

-- ---- one session

-- the eight masks that a session should have
pub permissions_are : (t : List ℕ) (s x : ℕ) → length t ≡ table_length → s < 32 → x < 8 → get_or (effective_permissions t s) x 0 ≡ mask_of (state t) s x
unfolding mask_of
permissions_are t s x e hs hx =
    ap (λ (l : List ℕ). get_or l x 0) (sym (effective_permissions_are t s (in_table t s 32 e hs))) ∙ get_d_tabulate 8 _ 0 x hx

pub session_refreshed_lem : (t : List ℕ) (s : ℕ) {words : List ℕ} → length t ≡ table_length → s < 32 → words ≡ effective_permissions t s → length words ≡ 8
    → overlay t (1096 + 8 * s) words ≡ session_refreshed t s
unfolding session_refreshed
session_refreshed_lem t s {words} e hs k l =
    write_masks (state t) (encode_state t e) s words hs l
    ∙ encode_cong (agree_with_masks (agree_refl (state t)) s (λ x hx. ap (λ (w : List ℕ). get_or w x 0) k ∙ permissions_are t s x e hs hx))
    ∙ sym (if_true _ _ (in_table t s 32 e hs))

pub session_shown : {t : List ℕ} (S : State) (s : ℕ) → t ≡ encode S → s < 32 → session_refreshed t s ≡ encode (refreshed_at s S)
unfolding session_refreshed
session_shown {t} S s z hs =
    let a : Agree (state t) S = rw z (state_encode S) in
    if_true _ _ (in_table t s 32 (ap length z ∙ encode_length S) hs) ∙ encode_cong (agree_with_masks a s (λ x hx. mask_agree a s x hs hx))

pub session_left : (t : List ℕ) (s : ℕ) → is_table t and ltb s 32 ≡ false → t ≡ session_refreshed t s
unfolding session_refreshed
session_left t s e = sym (if_false _ _ e)

-- ---- a pair

-- it is effective for the sessions with an active role that gives it
giving_effective : (S : State) (s x o : ℕ) → overlap (S.active s) (giving_roles S x o) ≡ effective S s x o
unfolding giving_roles
giving_effective S s x o =
    same_truth
    (λ e.
    let f = overlap_elim (S.active s) _ e in
    let g = sym (has_pack _ 64 f.at f.below) ∙ f.holds in
    let d = overlap_elim (S.juniors f.at) (S.granted x o) (and_right (permission S x o) _ g) in
    effective_intro S s x o (record {
      permitted_pair = and_left (permission S x o) _ g;
      role = f.at;
      below = f.below;
      active_in = f.member;
      junior = d.at;
      junior_below = d.below;
      senior_to = d.member;
      granted_to = d.holds;
    }))
    (λ e.
    let f = effective_elim S s x o e in
    overlap_intro (S.active s) _ f.role f.below f.active_in
    (has_pack _ 64 f.role f.below
    ∙ and_intro f.permitted_pair (overlap_intro (S.juniors f.role) (S.granted x o) f.junior f.junior_below f.senior_to f.granted_to)))

-- the sessions below i are done
pub pairing : State → ℕ → ℕ → ℕ → State
pairing S x o i = set_masks S (λ s. when ltb s i then upd (S.masks s) x (put (S.masks s x) o (effective S s x o)) else S.masks s)

module _ (S : State) (x o : ℕ) where
  pub pairing_none : {t : List ℕ} → t ≡ encode S → t ≡ encode (pairing S x o 0)
  unfolding pairing
  pairing_none e =
      e ∙ encode_cong (agree_sym (agree_set_masks (agree_refl S) (λ s y hs hy. ap (λ (f : ℕ → ℕ). f y) (if_false _ _ (le-ltb s 0 (omega arith))))))

  pub pairing_more : {t : List ℕ} (s : ℕ) {w roles : ℕ} {b : Bool} → s < 32 → x < 8 → o < 64 → t ≡ encode (pairing S x o s) → roles ≡ giving_roles S x o
      → b ≡ overlap (get_or t (active_at s) 0) roles → w ≡ put (get_or t (masks_at s x) 0) o b → set t (masks_at s x) w ≡ encode (pairing S x o (s + 1))
  unfolding pairing
  pairing_more {t} s {w} {roles} {b} hs hx ho e r k j =
      write_mask (pairing S x o s) e s x w hs hx
      ∙ encode_cong (agree_set_masks (agree_refl S) (λ p y hp hy.
      by_upd (pairing S x o s).masks s (upd ((pairing S x o s).masks s) x w) (λ (f : ℕ → ℕ). f y ≡ (pairing S x o (s + 1)).masks p y) p
      (λ q. ap₂ (λ (f : ℕ → ℕ) (v : ℕ). upd f x v y) here is
      ∙ sym (ap (λ (n : ℕ). (pairing S x o (s + 1)).masks n y) q ∙ ap (λ (f : ℕ → ℕ). f y) (if_true _ _ (lt-ltb s (s + 1) (omega arith)))))
      (λ n. by_truth (ltb p s)
      (λ c. let d = ltb-true p s c in ap (λ (f : ℕ → ℕ). f y) (if_true _ _ c ∙ sym (if_true _ _ (lt-ltb p (s + 1) (omega arith)))))
      (λ c. let d = ltb-false p s c in ap (λ (f : ℕ → ℕ). f y) (if_false _ _ c ∙ sym (if_false _ _ (le-ltb p (s + 1) (omega (arith, n)))))))))
    where
      here : (pairing S x o s).masks s ≡ S.masks s
      here = if_false _ _ (le-ltb s s (omega arith))

      is : w ≡ put (S.masks s x) o (effective S s x o)
      is =
          j
          ∙ ap₂ (λ (v : ℕ) (c : Bool). put v o c)
          (ap (λ (z : List ℕ). get_or z (masks_at s x) 0) e ∙ (state_encode (pairing S x o s)).masks s x hs hx ∙ ap (λ (f : ℕ → ℕ). f x) here)
          (k
          ∙ ap₂ overlap (ap (λ (z : List ℕ). get_or z (active_at s) 0) e ∙ (state_encode (pairing S x o s)).active s hs) r
          ∙ giving_effective S s x o)

  pub pairing_all : {t : List ℕ} (i : ℕ) → 32 ≤ i → t ≡ encode (pairing S x o i) → t ≡ encode (refreshed_pair x o S)
  unfolding pairing
  pairing_all i h e =
      e ∙ encode_cong (agree_set_masks (agree_refl S) (λ s y hs hy. ap (λ (f : ℕ → ℕ). f y) (if_true _ _ (lt-ltb s i (omega arith)))))

-- the roles that give it, as the code finds them
module _ (t : List ℕ) (x o : ℕ) where
  pub giving_none : permission (state t) x o ≡ false → 0 ≡ giving_roles (state t) x o
  unfolding giving_roles
  giving_none e = sym (pack_none 64 (λ r h. false_and _ e))

  pub giving_are : length t ≡ table_length → permission (state t) x o ≡ true → senior_roles t ((state t).granted x o) ≡ giving_roles (state t) x o
  unfolding giving_roles senior_roles
  giving_are l e = if_true _ _ (is_table_lem t l) ∙ pack_cong 64 (λ r h. sym (true_and _ e))

module _ (t : List ℕ) (x o : ℕ) where
  pub pair_refreshed_lem : length t ≡ table_length → x < 8 → o < 64 → encode (refreshed_pair x o (state t)) ≡ pair_refreshed t x o
  unfolding pair_refreshed
  pair_refreshed_lem e hx ho = sym (if_true _ _ (true_and _ (is_table_lem t e) ∙ true_and _ (lt-ltb x 8 hx) ∙ lt-ltb o 64 ho))

  pub pair_shown : (S : State) → t ≡ encode S → x < 8 → o < 64 → pair_refreshed t x o ≡ encode (refreshed_pair x o S)
  pair_shown S z hx ho =
      let a : Agree (state t) S = rw z (state_encode S) in
      sym (pair_refreshed_lem (ap length z ∙ encode_length S) hx ho)
      ∙ encode_cong (agree_set_masks a (λ s y hs hy. upd_agree ((state t).masks s) (S.masks s) x y
      (ap₂ (λ (w : ℕ) (b : Bool). put w o b) (a.masks s x hs hx) (effective_agree a s x o hs hx ho)) (a.masks s y hs hy)))

  pub pair_left : is_table t and ltb x 8 and ltb o 64 ≡ false → t ≡ pair_refreshed t x o
  unfolding pair_refreshed
  pair_left e = sym (if_false _ _ e)
