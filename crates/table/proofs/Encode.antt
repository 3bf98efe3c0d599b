-- The table of a state: it shows that state, every table is the table of the state that it shows, and writing one word
-- replaces one word of the state. A law of one section says nothing of what comes behind it. Assumes nothing.
use Prim.Native.Nat.{ℕ, ◌+◌, ◌*◌, ◌-◌, ◌/◌, ◌%◌, ◌≤◌, ◌<◌}
use mathlib.Core.Path.{◌≡◌, refl, sym, ap, ap₂, subst, ◌∙◌}
use mathlib.Core.List.{List, [], ◌∷◌, ◌++◌}
use native.Mathlib.Omega.{arith}
use native.Mathlib.Nat.{zero-add, suc-add}
use lib.Dec.{eqb, ltb}
use lib.ListN.{length, get_or, set, length-set, length-append, get_or-append}
use lib.Seq.{ext_get_or, get_or-append-add, get_or-set_same, get_or-set_other, set-append_left}
use borrow.Author.Tests.{eqb-true, eqb-false, ltb-true, ltb-false}
use Rattle.bits.proofs.Truth.{by_truth}
use Rattle.table.specs.State.{State}
use Rattle.bits.specs.Words.{upd, tabulate}
use Rattle.table.specs.Changes.{with_assigned, with_granted, with_owner, with_active, with_holds, set_sets, set_seniority, with_masks}
use Rattle.table.specs.Reading.{juniors_at, permitted_at, assigned_at, granted_at, owner_at, active_at, holds_at, sets_at, direct_at, masks_at, word, state}
use Rattle.table.specs.Table.{table_length, encode}
use Rattle.bits.proofs.Tabulate.{length_tabulate, get_d_tabulate, tabulate_cong}
use Rattle.bits.proofs.Upd.{upd_same, upd_other, by_upd}

-- ---- agreement, over the users, roles, objects, sessions and modes that there are

pub record Agree (S S' : State) : Type 0 where
  pub juniors : (r : ℕ) → r < 64 → S.juniors r ≡ S'.juniors r
  pub permitted : (x : ℕ) → x < 8 → S.permitted x ≡ S'.permitted x
  pub assigned : (u : ℕ) → u < 64 → S.assigned u ≡ S'.assigned u
  pub granted : (x o : ℕ) → x < 8 → o < 64 → S.granted x o ≡ S'.granted x o
  pub owner : (s : ℕ) → s < 32 → S.owner s ≡ S'.owner s
  pub active : (s : ℕ) → s < 32 → S.active s ≡ S'.active s
  pub holds : (s x : ℕ) → s < 32 → x < 8 → S.holds s x ≡ S'.holds s x
  pub sets : (i : ℕ) → i < 64 → S.sets i ≡ S'.sets i
  pub direct : (r : ℕ) → r < 64 → S.direct r ≡ S'.direct r
  pub masks : (s x : ℕ) → s < 32 → x < 8 → S.masks s x ≡ S'.masks s x

-- ---- reading the table of a state

first : (n : ℕ) (f : ℕ → ℕ) (ys : List ℕ) (i : ℕ) → i < n → get_or (tabulate n f ++ ys) i 0 ≡ f i
first n f ys i h = get_or-append (tabulate n f) ys 0 i (let e = length_tabulate n f in omega arith) ∙ get_d_tabulate n f 0 i h

later : (n : ℕ) (f : ℕ → ℕ) (ys : List ℕ) (i j : ℕ) → j ≡ n + i → get_or (tabulate n f ++ ys) j 0 ≡ get_or ys i 0
later n f ys i j e =
    ap (λ (k : ℕ). get_or (tabulate n f ++ ys) k 0) (e ∙ sym (ap (λ (k : ℕ). k + i) (length_tabulate n f)))
    ∙ get_or-append-add (tabulate n f) ys i 0

module _ (S : State) where
  abbrev from_masks : List ℕ
  from_masks = tabulate 256 (λ i. S.masks (i / 8) (i % 8))

  abbrev from_direct : List ℕ
  from_direct = tabulate 64 S.direct ++ from_masks

  abbrev from_sets : List ℕ
  from_sets = tabulate 64 S.sets ++ from_direct

  abbrev from_holds : List ℕ
  from_holds = tabulate 256 (λ i. S.holds (i / 8) (i % 8)) ++ from_sets

  abbrev from_active : List ℕ
  from_active = tabulate 32 S.active ++ from_holds

  abbrev from_owner : List ℕ
  from_owner = tabulate 32 S.owner ++ from_active

  abbrev from_granted : List ℕ
  from_granted = tabulate 512 (λ i. S.granted (i / 64) (i % 64)) ++ from_owner

  abbrev from_assigned : List ℕ
  from_assigned = tabulate 64 S.assigned ++ from_granted

  abbrev from_permitted : List ℕ
  from_permitted = tabulate 8 S.permitted ++ from_assigned

  -- past the first sections
  at_assigned : (i j : ℕ) → j ≡ 72 + i → get_or (encode S) j 0 ≡ get_or from_assigned i 0
  unfolding encode
  at_assigned i j e = later 64 _ from_permitted (8 + i) j (omega arith) ∙ later 8 _ from_assigned i (8 + i) refl

  at_owner : (i j : ℕ) → j ≡ 648 + i → get_or (encode S) j 0 ≡ get_or from_owner i 0
  at_owner i j e =
      at_assigned (576 + i) j (omega arith)
      ∙ later 64 _ from_granted (512 + i) (576 + i) (omega arith)
      ∙ later 512 _ from_owner i (512 + i) refl

  at_holds : (i j : ℕ) → j ≡ 712 + i → get_or (encode S) j 0 ≡ get_or from_holds i 0
  at_holds i j e =
      at_owner (64 + i) j (omega arith)
      ∙ later 32 _ from_active (32 + i) (64 + i) (omega arith)
      ∙ later 32 _ from_holds i (32 + i) refl

  at_sets : (i j : ℕ) → j ≡ 968 + i → get_or (encode S) j 0 ≡ get_or from_sets i 0
  at_sets i j e = at_holds (256 + i) j (omega arith) ∙ later 256 _ from_sets i (256 + i) refl

  at_direct : (i j : ℕ) → j ≡ 1032 + i → get_or (encode S) j 0 ≡ get_or from_direct i 0
  at_direct i j e = at_sets (64 + i) j (omega arith) ∙ later 64 _ from_direct i (64 + i) refl

  pub state_encode : Agree (state (encode S)) S
  unfolding encode
  state_encode = record {
    juniors = λ r h. first 64 _ from_permitted r h;
    permitted = λ x h. later 64 _ from_permitted x (permitted_at x) refl ∙ first 8 _ from_assigned x h;
    assigned = λ u h. at_assigned u (assigned_at u) refl ∙ first 64 _ from_granted u h;
    granted = λ x o hx ho.
        at_assigned (64 + (64 * x + o)) (granted_at x o) (omega arith)
        ∙ later 64 _ from_granted (64 * x + o) (64 + (64 * x + o)) refl
        ∙ first 512 _ from_owner (64 * x + o) (omega arith)
        ∙ ap₂ (λ (y p : ℕ). S.granted y p) (div_row x o ho) (mod_row x o ho);
    owner = λ s h. at_owner s (owner_at s) refl ∙ first 32 _ from_active s h;
    active = λ s h. at_owner (32 + s) (active_at s) (omega arith) ∙ later 32 _ from_active s (32 + s) refl ∙ first 32 _ from_holds s h;
    holds = λ s x hs hx.
        at_holds (8 * s + x) (holds_at s x) (omega arith)
        ∙ first 256 _ from_sets (8 * s + x) (omega arith)
        ∙ ap₂ (λ (y p : ℕ). S.holds y p) (div_mode s x hx) (mod_mode s x hx);
    sets = λ i h. at_sets i (sets_at i) refl ∙ first 64 _ from_direct i h;
    direct = λ r h. at_direct r (direct_at r) refl ∙ first 64 _ from_masks r h;
    masks = λ s x hs hx.
        at_direct (64 + (8 * s + x)) (masks_at s x) (omega arith)
        ∙ later 64 _ from_masks (8 * s + x) (64 + (8 * s + x)) refl
        ∙ get_d_tabulate 256 _ 0 (8 * s + x) (omega arith)
        ∙ ap₂ (λ (y p : ℕ). S.masks y p) (div_mode s x hx) (mod_mode s x hx);
  }
    where
      div_row : (x o : ℕ) → o < 64 → (64 * x + o) / 64 ≡ x
      div_row x o h = omega arith

      mod_row : (x o : ℕ) → o < 64 → (64 * x + o) % 64 ≡ o
      mod_row x o h = omega arith

      div_mode : (s x : ℕ) → x < 8 → (8 * s + x) / 8 ≡ s
      div_mode s x h = omega arith

      mod_mode : (s x : ℕ) → x < 8 → (8 * s + x) % 8 ≡ x
      mod_mode s x h = omega arith

  pub encode_length : length (encode S) ≡ table_length
  unfolding encode
  encode_length = simp (length-append, length_tabulate)

-- ---- a table is the table of the state that it shows

-- every place of a table is one word's
by_place : (P : ℕ → Type 0)
    → ((r : ℕ) → r < 64 → P (juniors_at r)) → ((x : ℕ) → x < 8 → P (permitted_at x)) → ((u : ℕ) → u < 64 → P (assigned_at u))
    → ((x o : ℕ) → x < 8 → o < 64 → P (granted_at x o)) → ((s : ℕ) → s < 32 → P (owner_at s)) → ((s : ℕ) → s < 32 → P (active_at s))
    → ((s x : ℕ) → s < 32 → x < 8 → P (holds_at s x)) → ((i : ℕ) → i < 64 → P (sets_at i)) → ((r : ℕ) → r < 64 → P (direct_at r))
    → ((s x : ℕ) → s < 32 → x < 8 → P (masks_at s x)) → (i : ℕ) → i < table_length → P i
by_place P j p a g o c h n d m i l =
    on 64 (λ b. j i b) (λ b1.
    on 72 (λ b. subst P (omega arith) (p (i - 64) (omega arith))) (λ b2.
    on 136 (λ b. subst P (omega arith) (a (i - 72) (omega arith))) (λ b3.
    on 648 (λ b. subst P (granted_place b3) (g ((i - 136) / 64) ((i - 136) % 64) (omega arith) (omega arith))) (λ b4.
    on 680 (λ b. subst P (omega arith) (o (i - 648) (omega arith))) (λ b5.
    on 712 (λ b. subst P (omega arith) (c (i - 680) (omega arith))) (λ b6.
    on 968 (λ b. subst P (holds_place b6) (h ((i - 712) / 8) ((i - 712) % 8) (omega arith) (omega arith))) (λ b7.
    on 1032 (λ b. subst P (omega arith) (n (i - 968) (omega arith))) (λ b8.
    on 1096 (λ b. subst P (omega arith) (d (i - 1032) (omega arith))) (λ b9.
    subst P (masks_place b9) (m ((i - 1096) / 8) ((i - 1096) % 8) (omega arith) (omega arith)))))))))))
  where
    on : (n : ℕ) → (i < n → P i) → (n ≤ i → P i) → P i
    on n f g = by_truth (ltb i n) (λ e. f (ltb-true i n e)) (λ e. g (ltb-false i n e))

    granted_place : 136 ≤ i → granted_at ((i - 136) / 64) ((i - 136) % 64) ≡ i
    granted_place b = omega arith

    holds_place : 712 ≤ i → holds_at ((i - 712) / 8) ((i - 712) % 8) ≡ i
    holds_place b = omega arith

    masks_place : 1096 ≤ i → masks_at ((i - 1096) / 8) ((i - 1096) % 8) ≡ i
    masks_place b = omega arith

pub encode_cong : {S S' : State} → Agree S S' → encode S ≡ encode S'
unfolding encode
encode_cong {S} {S'} a =
    ap₂ ◌++◌ (tabulate_cong 64 a.juniors)
    (ap₂ ◌++◌ (tabulate_cong 8 a.permitted)
    (ap₂ ◌++◌ (tabulate_cong 64 a.assigned)
    (ap₂ ◌++◌ (tabulate_cong 512 (λ i h. a.granted (i / 64) (i % 64) (omega arith) (omega arith)))
    (ap₂ ◌++◌ (tabulate_cong 32 a.owner)
    (ap₂ ◌++◌ (tabulate_cong 32 a.active)
    (ap₂ ◌++◌ (tabulate_cong 256 (λ i h. a.holds (i / 8) (i % 8) (omega arith) (omega arith)))
    (ap₂ ◌++◌ (tabulate_cong 64 a.sets)
    (ap₂ ◌++◌ (tabulate_cong 64 a.direct)
    (tabulate_cong 256 (λ i h. a.masks (i / 8) (i % 8) (omega arith) (omega arith)))))))))))

-- states with the same table agree
pub agreed : {S S' : State} → encode S ≡ encode S' → Agree S S'
agreed {S} {S'} e = record {
  juniors = λ r h. same (juniors_at r) ((state_encode S).juniors r h) ((state_encode S').juniors r h);
  permitted = λ x h. same (permitted_at x) ((state_encode S).permitted x h) ((state_encode S').permitted x h);
  assigned = λ u h. same (assigned_at u) ((state_encode S).assigned u h) ((state_encode S').assigned u h);
  granted = λ x o h k. same (granted_at x o) ((state_encode S).granted x o h k) ((state_encode S').granted x o h k);
  owner = λ s h. same (owner_at s) ((state_encode S).owner s h) ((state_encode S').owner s h);
  active = λ s h. same (active_at s) ((state_encode S).active s h) ((state_encode S').active s h);
  holds = λ s x h k. same (holds_at s x) ((state_encode S).holds s x h k) ((state_encode S').holds s x h k);
  sets = λ i h. same (sets_at i) ((state_encode S).sets i h) ((state_encode S').sets i h);
  direct = λ r h. same (direct_at r) ((state_encode S).direct r h) ((state_encode S').direct r h);
  masks = λ s x h k. same (masks_at s x) ((state_encode S).masks s x h k) ((state_encode S').masks s x h k);
}
  where
    same : (i : ℕ) {v w : ℕ} → word (encode S) i ≡ v → word (encode S') i ≡ w → v ≡ w
    same i p q = sym p ∙ ap (λ (l : List ℕ). word l i) e ∙ q

pub same_table : (t t' : List ℕ) → length t ≡ table_length → length t' ≡ table_length → Agree (state t) (state t') → t ≡ t'
same_table t t' e e' a =
    ext_get_or 0 t t' (e ∙ sym e')
    (λ i h. by_place (λ k. word t k ≡ word t' k) a.juniors a.permitted a.assigned a.granted a.owner a.active a.holds a.sets a.direct a.masks i (omega arith))

-- the state that a table shows
pub encode_state : (t : List ℕ) → length t ≡ table_length → t ≡ encode (state t)
encode_state t e = sym (same_table (encode (state t)) t (encode_length (state t)) e (state_encode (state t)))

pub shown : (t : List ℕ) (S : State) → length t ≡ table_length → Agree (state t) S → t ≡ encode S
shown t S e a = encode_state t e ∙ encode_cong a

-- ---- writing one word of a section

append_later : (xs ys : List ℕ) (i v : ℕ) → set (xs ++ ys) (length xs + i) v ≡ xs ++ set ys i v
append_later [] ys i v = ap (λ (k : ℕ). set ys k v) (zero-add i)
append_later (x ∷ xs) ys i v =
    ap (λ (k : ℕ). set (x ∷ (xs ++ ys)) k v) (suc-add (length xs) i) ∙ ap (λ (l : List ℕ). x ∷ l) (append_later xs ys i v)

module _ (n : ℕ) (f : ℕ → ℕ) where
  pub set_tabulate : (i v : ℕ) → i < n → set (tabulate n f) i v ≡ tabulate n (upd f i v)
  set_tabulate i v h =
      ext_get_or 0 (set (tabulate n f) i v) (tabulate n (upd f i v)) (length-set (tabulate n f) i v ∙ length_tabulate n f ∙ sym (length_tabulate n (upd f i v)))
      (λ j k.
      let l : length (set (tabulate n f) i v) ≡ n = length-set (tabulate n f) i v ∙ length_tabulate n f in
      by_upd f i v (λ (w : ℕ). get_or (set (tabulate n f) i v) j 0 ≡ w) j
      (λ e. ap (λ (m : ℕ). get_or (set (tabulate n f) i v) m 0) e ∙ get_or-set_same (tabulate n f) i v 0 (let m = length_tabulate n f in omega arith))
      (λ d. get_or-set_other (tabulate n f) i j v 0 d ∙ get_d_tabulate n f 0 j (omega arith))
      ∙ sym (get_d_tabulate n (upd f i v) 0 j (omega arith)))

  set_first : (ys : List ℕ) (i v : ℕ) → i < n → set (tabulate n f ++ ys) i v ≡ tabulate n (upd f i v) ++ ys
  set_first ys i v h =
      set-append_left (tabulate n f) ys i v (let e = length_tabulate n f in omega arith) ∙ ap (λ (l : List ℕ). l ++ ys) (set_tabulate i v h)

  -- past a section, and what is written behind it
  past : (ys : List ℕ) (i j v : ℕ) {zs : List ℕ} → j ≡ n + i → set ys i v ≡ zs → set (tabulate n f ++ ys) j v ≡ tabulate n f ++ zs
  past ys i j v e k =
      ap (λ (m : ℕ). set (tabulate n f ++ ys) m v) (e ∙ sym (ap (λ (m : ℕ). m + i) (length_tabulate n f)))
      ∙ append_later (tabulate n f) ys i v
      ∙ ap (λ (l : List ℕ). tabulate n f ++ l) k

-- a word of a section in rows: the place at is the only one in row x and column o
by_rows : (row column : ℕ → ℕ) (g : ℕ → ℕ → ℕ) (at x o v i : ℕ) → row at ≡ x → column at ≡ o → (row i ≡ x → column i ≡ o → i ≡ at)
    → upd (λ j. g (row j) (column j)) at v i ≡ upd g x (upd (g x) o v) (row i) (column i)
by_rows row column g at x o v i er ec only =
    by_truth (eqb (row i) x)
    (λ b.
    let e = eqb-true (row i) x b in
    let there : (p : ℕ) → upd g x (upd (g x) o v) (row i) p ≡ upd (g x) o v p =
    λ p. ap (λ (a : ℕ). upd g x (upd (g x) o v) a p) e ∙ ap (λ (f : ℕ → ℕ). f p) (upd_same g x (upd (g x) o v)) in
    by_upd (λ j. g (row j) (column j)) at v (λ (w : ℕ). w ≡ upd g x (upd (g x) o v) (row i) (column i)) i
    (λ q. sym (there (column i) ∙ ap (upd (g x) o v) (ap column q ∙ ec) ∙ upd_same (g x) o v))
    (λ n. sym (there (column i) ∙ upd_other (g x) o v (column i) (λ c. n (only e c)) ∙ sym (ap (λ (a : ℕ). g a (column i)) e))))
    (λ b.
    let d = eqb-false (row i) x b in
    upd_other (λ j. g (row j) (column j)) at v i (λ q. d (ap row q ∙ er)) ∙ sym (ap (λ (f : ℕ → ℕ). f (column i)) (upd_other g x (upd (g x) o v) (row i) d)))

module _ (S : State) where
  -- behind the permissions, and behind the grants
  past_permitted : (i j v : ℕ) {zs : List ℕ} → j ≡ 72 + i → set (from_assigned S) i v ≡ zs
      → set (encode S) j v ≡ tabulate 64 S.juniors ++ (tabulate 8 S.permitted ++ zs)
  unfolding encode
  past_permitted i j v e k = past 64 _ _ (8 + i) j v (omega arith) (past 8 _ _ i (8 + i) v refl k)

  past_granted : (i j v : ℕ) {zs : List ℕ} → j ≡ 648 + i → set (from_owner S) i v ≡ zs
      → set (encode S) j v
      ≡ tabulate 64 S.juniors ++ (tabulate 8 S.permitted ++ (tabulate 64 S.assigned ++ (tabulate 512 (λ i. S.granted (i / 64) (i % 64)) ++ zs)))
  past_granted i j v e k =
      past_permitted (576 + i) j v (omega arith) (past 64 _ _ (512 + i) (576 + i) v (omega arith) (past 512 _ _ i (512 + i) v refl k))

module _ {t : List ℕ} (S : State) (z : t ≡ encode S) where
  on : (i v : ℕ) → set t i v ≡ set (encode S) i v
  on i v = ap (λ (l : List ℕ). set l i v) z

  pub write_assigned : (u v : ℕ) → u < 64 → set t (assigned_at u) v ≡ encode (with_assigned S u v)
  unfolding encode
  write_assigned u v h = on (assigned_at u) v ∙ past_permitted S u (assigned_at u) v refl (set_first 64 _ _ u v h)

  pub write_granted : (x o v : ℕ) → x < 8 → o < 64 → set t (granted_at x o) v ≡ encode (with_granted S x o v)
  unfolding encode
  write_granted x o v hx ho =
      on (granted_at x o) v
      ∙ past_permitted S (64 + (64 * x + o)) (granted_at x o) v (omega arith) (past 64 _ _ (64 * x + o) (64 + (64 * x + o)) v refl
      (set_first 512 _ _ (64 * x + o) v (omega arith) ∙ ap (λ (l : List ℕ). l ++ from_owner S) (tabulate_cong 512 (λ i h. by_rows (λ j. j / 64) (λ j. j % 64) S.granted (64 * x + o) x o v i (omega arith) (omega arith) (λ p q. omega arith)))))

  pub write_owner : (s v : ℕ) → s < 32 → set t (owner_at s) v ≡ encode (with_owner S s v)
  unfolding encode
  write_owner s v h = on (owner_at s) v ∙ past_granted S s (owner_at s) v refl (set_first 32 _ _ s v h)

  pub write_active : (s v : ℕ) → s < 32 → set t (active_at s) v ≡ encode (with_active S s v)
  unfolding encode
  write_active s v h =
      on (active_at s) v ∙ past_granted S (32 + s) (active_at s) v (omega arith) (past 32 _ _ s (32 + s) v refl (set_first 32 _ _ s v h))

  pub write_holds : (s x v : ℕ) → s < 32 → x < 8 → set t (holds_at s x) v ≡ encode (with_holds S s (upd (S.holds s) x v))
  unfolding encode
  write_holds s x v hs hx =
      on (holds_at s x) v
      ∙ past_granted S (64 + (8 * s + x)) (holds_at s x) v (omega arith) (past 32 _ _ (32 + (8 * s + x)) (64 + (8 * s + x)) v (omega arith) (past 32 _ _ (8 * s + x) (32 + (8 * s + x)) v refl
      (set_first 256 _ _ (8 * s + x) v (omega arith) ∙ ap (λ (l : List ℕ). l ++ from_sets S) (tabulate_cong 256 (λ i h. by_rows (λ j. j / 8) (λ j. j % 8) S.holds (8 * s + x) s x v i (omega arith) (omega arith) (λ p q. omega arith))))))

  pub write_sets : (i v : ℕ) → i < 64 → set t (sets_at i) v ≡ encode (set_sets S (upd S.sets i v))
  unfolding encode
  write_sets i v h =
      on (sets_at i) v
      ∙ past_granted S (320 + i) (sets_at i) v (omega arith) (past 32 _ _ (288 + i) (320 + i) v (omega arith) (past 32 _ _ (256 + i) (288 + i) v (omega arith) (past 256 _ _ i (256 + i) v refl
      (set_first 64 _ _ i v h))))

  pub write_direct : (r v : ℕ) → r < 64 → set t (direct_at r) v ≡ encode (set_seniority S S.juniors (upd S.direct r v))
  unfolding encode
  write_direct r v h =
      on (direct_at r) v
      ∙ past_granted S (384 + r) (direct_at r) v (omega arith) (past 32 _ _ (352 + r) (384 + r) v (omega arith) (past 32 _ _ (320 + r) (352 + r) v (omega arith) (past 256 _ _ (64 + r) (320 + r) v (omega arith)
      (past 64 _ _ r (64 + r) v refl (set_first 64 _ _ r v h)))))

  pub write_mask : (s x v : ℕ) → s < 32 → x < 8 → set t (masks_at s x) v ≡ encode (with_masks S s (upd (S.masks s) x v))
  unfolding encode
  write_mask s x v hs hx =
      on (masks_at s x) v
      ∙ past_granted S (448 + (8 * s + x)) (masks_at s x) v (omega arith) (past 32 _ _ (416 + (8 * s + x)) (448 + (8 * s + x)) v (omega arith) (past 32 _ _ (384 + (8 * s + x)) (416 + (8 * s + x)) v (omega arith) (past 256 _ _ (128 + (8 * s + x)) (384 + (8 * s + x)) v (omega arith)
      (past 64 _ _ (64 + (8 * s + x)) (128 + (8 * s + x)) v (omega arith) (past 64 _ _ (8 * s + x) (64 + (8 * s + x)) v refl
      (set_tabulate 256 _ (8 * s + x) v (omega arith) ∙ tabulate_cong 256 (λ i h. by_rows (λ j. j / 8) (λ j. j % 8) S.masks (8 * s + x) s x v i (omega arith) (omega arith) (λ p q. omega arith))))))))
