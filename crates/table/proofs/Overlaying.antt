-- Many words of a table written anew: the first 64 show other juniors, eight of a session what it holds or its masks, the last 256
-- all masks, and the rest is as it was. Assumes nothing.
use Prim.Native.Nat.{ℕ, ◌+◌, ◌*◌, ◌≤◌, ◌<◌}
use mathlib.Core.Path.{◌≡◌, refl, ap, ◌∙◌}
use mathlib.Core.List.{List}
use native.Mathlib.Omega.{arith}
use lib.Dec.{ltb}
use lib.ListN.{length, get_or}
use borrow.Author.Tests.{ltb-true, ltb-false}
use Rattle.bits.specs.Words.{upd}
use Rattle.bits.proofs.Truth.{by_truth}
use Rattle.table.specs.State.{State}
use Rattle.table.specs.Answers.{overlay}
use Rattle.table.specs.Changes.{set_seniority, set_masks, with_holds, with_masks}
use Rattle.table.specs.Reading.{masks_at}
use Rattle.table.specs.Table.{table_length, encode}
use Rattle.table.proofs.Answers.{length_overlay, overlay_at, overlay_before, overlay_past}
use Rattle.table.proofs.Agree.{by_upd, agree_refl, agree_set_masks}
use Rattle.table.proofs.Encode.{state_encode, encode_length, encode_cong, shown}

-- ---- the juniors

module _ {t : List ℕ} (S : State) (z : t ≡ encode S) (rows : List ℕ) (e : length rows ≡ 64) where
  abbrev over : List ℕ
  over = overlay t 0 rows

  long : length t ≡ table_length
  long = ap length z ∙ encode_length S

  at : (r : ℕ) → r < 64 → get_or over r 0 ≡ get_or rows r 0
  at r h = let k = long in overlay_at t 0 rows r (omega arith) (omega arith) (omega arith) ∙ ap (λ (n : ℕ). get_or rows n 0) (omega arith)

  past : (i : ℕ) → 64 ≤ i → i < table_length → get_or over i 0 ≡ get_or (encode S) i 0
  past i h m = let k = long in overlay_past t 0 rows i (omega arith) (omega arith) ∙ ap (λ (l : List ℕ). get_or l i 0) z

  pub write_juniors : over ≡ encode (set_seniority S (λ r. get_or rows r 0) S.direct)
  write_juniors =
      let a = state_encode S in
      shown over _ (length_overlay t 0 rows ∙ long) (record {
        juniors = at;
        permitted = λ x h. past _ (omega arith) (omega arith) ∙ a.permitted x h;
        assigned = λ u h. past _ (omega arith) (omega arith) ∙ a.assigned u h;
        granted = λ x o h k. past _ (omega arith) (omega arith) ∙ a.granted x o h k;
        owner = λ s h. past _ (omega arith) (omega arith) ∙ a.owner s h;
        active = λ s h. past _ (omega arith) (omega arith) ∙ a.active s h;
        holds = λ s x h k. past _ (omega arith) (omega arith) ∙ a.holds s x h k;
        sets = λ i h. past _ (omega arith) (omega arith) ∙ a.sets i h;
        direct = λ r h. past _ (omega arith) (omega arith) ∙ a.direct r h;
        masks = λ s x h k. past _ (omega arith) (omega arith) ∙ a.masks s x h k;
      })

-- ---- eight words of one session

module _ {t : List ℕ} (S : State) (z : t ≡ encode S) where
  whole : length t ≡ table_length
  whole = ap length z ∙ encode_length S

  module _ (at : ℕ) (words : List ℕ) where
    abbrev written : List ℕ
    written = overlay t at words

    before : (i : ℕ) → i < at → i < table_length → get_or written i 0 ≡ get_or (encode S) i 0
    before i h l = let k = whole in overlay_before t at words i h (omega arith) ∙ ap (λ (w : List ℕ). get_or w i 0) z

    beyond : (i : ℕ) → at + length words ≤ i → i < table_length → get_or written i 0 ≡ get_or (encode S) i 0
    beyond i h l = let k = whole in overlay_past t at words i h (omega arith) ∙ ap (λ (w : List ℕ). get_or w i 0) z

  -- in a section of eight words a session that begins at base
  module _ (base : ℕ) (g : ℕ → ℕ → ℕ) (s : ℕ) (words : List ℕ) (hb : base + 256 ≤ table_length) (hs : s < 32) (e : length words ≡ 8) where
    row : ((p x : ℕ) → p < 32 → x < 8 → get_or (encode S) (base + 8 * p + x) 0 ≡ g p x)
        → (p x : ℕ) → p < 32 → x < 8 → get_or (overlay t (base + 8 * s) words) (base + 8 * p + x) 0 ≡ upd g s (λ y. get_or words y 0) p x
    row k p x hp hx =
        let l = whole in
        by_upd g s (λ y. get_or words y 0) (λ (f : ℕ → ℕ). get_or (overlay t (base + 8 * s) words) (base + 8 * p + x) 0 ≡ f x) p
        (λ q. overlay_at t (base + 8 * s) words (base + 8 * p + x) (omega arith) (omega arith) (omega arith) ∙ ap (λ (n : ℕ). get_or words n 0) (omega arith))
        (λ n. by_truth (ltb p s)
        (λ b. let m = ltb-true p s b in before (base + 8 * s) words (base + 8 * p + x) (omega arith) (omega arith))
        (λ b. let m = ltb-false p s b in beyond (base + 8 * s) words (base + 8 * p + x) (later m n) (omega arith))
        ∙ k p x hp hx)
      where
        later : s ≤ p → (p ≡ s → ⊥) → base + 8 * s + length words ≤ base + 8 * p + x
        later m n = let d : s < p = omega arith in omega arith

  -- what it holds
  pub write_held : (s : ℕ) (words : List ℕ) → s < 32 → length words ≡ 8 → overlay t (712 + 8 * s) words ≡ encode (with_holds S s (λ x. get_or words x 0))
  write_held s words hs e =
      let a = state_encode S in
      shown _ _ (length_overlay t (712 + 8 * s) words ∙ whole) (record {
        juniors = λ r h. before _ words _ (omega arith) (omega arith) ∙ a.juniors r h;
        permitted = λ x h. before _ words _ (omega arith) (omega arith) ∙ a.permitted x h;
        assigned = λ u h. before _ words _ (omega arith) (omega arith) ∙ a.assigned u h;
        granted = λ x o h k. before _ words _ (omega arith) (omega arith) ∙ a.granted x o h k;
        owner = λ p h. before _ words _ (omega arith) (omega arith) ∙ a.owner p h;
        active = λ p h. before _ words _ (omega arith) (omega arith) ∙ a.active p h;
        holds = row 712 S.holds s words (omega arith) hs e a.holds;
        sets = λ i h. beyond _ words _ (omega arith) (omega arith) ∙ a.sets i h;
        direct = λ r h. beyond _ words _ (omega arith) (omega arith) ∙ a.direct r h;
        masks = λ p x h k. beyond _ words _ (omega arith) (omega arith) ∙ a.masks p x h k;
      })

  -- ---- masks

  -- written behind the direct juniors
  module _ (at : ℕ) (words : List ℕ) (far : 1096 ≤ at) where
    write_behind : overlay t at words ≡ encode (set_masks S (λ s x. get_or (overlay t at words) (masks_at s x) 0))
    write_behind =
        let a = state_encode S in
        shown _ _ (length_overlay t at words ∙ whole) (record {
          juniors = λ r h. before at words _ (omega arith) (omega arith) ∙ a.juniors r h;
          permitted = λ x h. before at words _ (omega arith) (omega arith) ∙ a.permitted x h;
          assigned = λ u h. before at words _ (omega arith) (omega arith) ∙ a.assigned u h;
          granted = λ x o h k. before at words _ (omega arith) (omega arith) ∙ a.granted x o h k;
          owner = λ s h. before at words _ (omega arith) (omega arith) ∙ a.owner s h;
          active = λ s h. before at words _ (omega arith) (omega arith) ∙ a.active s h;
          holds = λ s x h k. before at words _ (omega arith) (omega arith) ∙ a.holds s x h k;
          sets = λ i h. before at words _ (omega arith) (omega arith) ∙ a.sets i h;
          direct = λ r h. before at words _ (omega arith) (omega arith) ∙ a.direct r h;
          masks = λ s x h k. refl;
        })

  -- the eight of session s
  pub write_masks : (s : ℕ) (words : List ℕ) → s < 32 → length words ≡ 8 → overlay t (1096 + 8 * s) words ≡ encode (with_masks S s (λ x. get_or words x 0))
  write_masks s words hs e =
      write_behind (1096 + 8 * s) words (omega arith)
      ∙ encode_cong (agree_set_masks (agree_refl S) (row 1096 S.masks s words (omega arith) hs e (state_encode S).masks))

  -- all 256
  pub write_all_masks : (words : List ℕ) → length words ≡ 256 → overlay t 1096 words ≡ encode (set_masks S (λ s x. get_or words (8 * s + x) 0))
  write_all_masks words e =
      let k = whole in
      write_behind 1096 words (omega arith)
      ∙ encode_cong (agree_set_masks (agree_refl S) (λ s x hs hx.
      overlay_at t 1096 words (masks_at s x) (omega arith) (omega arith) (omega arith) ∙ ap (λ (n : ℕ). get_or words n 0) (omega arith)))
