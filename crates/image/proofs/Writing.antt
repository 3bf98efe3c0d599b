-- The table that the label set-up writes, section by section. Assumes nothing.
use Prim.Native.Nat.{ℕ, zero, suc, ◌+◌, ◌*◌, ◌≤◌, ◌<◌}
use mathlib.Core.Path.{◌≡◌, refl, sym, ap, ◌∙◌}
use mathlib.Core.List.{List}
use native.Mathlib.Omega.{arith}
use lib.Dec.{ltb}
use lib.ListN.{length, get_or}
use Rattle.bits.specs.Words.{pack, ◌with◌, tabulate}
use Rattle.bits.proofs.Truth.{and_false}
use Rattle.bits.proofs.Word.{pack_none}
use Rattle.table.specs.Answers.{overlay, cleared_from}
use Rattle.table.specs.Reading.{masks_at}
use Rattle.table.specs.Table.{table_length}
use Rattle.table.proofs.Answers.{length_cleared, cleared_before, cleared_after, length_overlay, overlay_at, overlay_before, overlay_past}
use Rattle.table.proofs.Encode as encode
use Rattle.bits.proofs.Tabulate.{length_tabulate, get_d_tabulate}
use Rattle.machine.specs.Machine.{begin, may_open}
use Rattle.image.specs.Image.{above, cleared_roles, seat_roles, seat_owner, granted_roles, shown, image}
use Rattle.image.proofs.Rows.{rows, row_is, masks, mask_is}

module _ (t clearances labels : List ℕ) (whole : length t ≡ table_length) where
  abbrev seniority : List ℕ
  seniority = tabulate 64 (λ r. pack 64 (above r))

  abbrev assigned : List ℕ
  assigned = tabulate 64 (λ u. cleared_roles (get_or clearances u 0))

  abbrev granted : ℕ → List ℕ
  granted first = tabulate 64 (λ o. 0 with (first + get_or labels o 0))

  -- the table after each write
  abbrev t1 : List ℕ
  t1 = overlay t 0 seniority

  abbrev t2 : List ℕ
  t2 = overlay t1 64 masks

  abbrev t3 : List ℕ
  t3 = overlay t2 72 assigned

  abbrev t4 : List ℕ
  t4 = overlay t3 136 (granted 0)

  abbrev t5 : List ℕ
  t5 = overlay t4 200 (granted 32)

  abbrev t6 : List ℕ
  t6 = cleared_from t5 264

  abbrev t7 : List ℕ
  t7 = overlay t6 1032 rows

  long1 : length t1 ≡ table_length
  long1 = length_overlay t 0 seniority ∙ whole

  long2 : length t2 ≡ table_length
  long2 = length_overlay t1 64 masks ∙ long1

  long3 : length t3 ≡ table_length
  long3 = length_overlay t2 72 assigned ∙ long2

  long4 : length t4 ≡ table_length
  long4 = length_overlay t3 136 (granted 0) ∙ long3

  long5 : length t5 ≡ table_length
  long5 = length_overlay t4 200 (granted 32) ∙ long4

  long6 : length t6 ≡ table_length
  long6 = length_cleared t5 264 ∙ long5

  -- a word that a write leaves, and one that it writes
  left : (l : List ℕ) → length l ≡ table_length → (at : ℕ) (words : List ℕ) (i : ℕ) → i < at → at < table_length
      → get_or (overlay l at words) i 0 ≡ get_or l i 0
  left l e at words i h k = overlay_before l at words i h (omega arith)

  put : (l : List ℕ) → length l ≡ table_length → (at : ℕ) (words : List ℕ) (i j n : ℕ) → j ≡ at + i → length words ≡ n → i < n
      → at + n ≤ table_length → get_or (overlay l at words) j 0 ≡ get_or words i 0
  put l e at words i j n p z h k =
      overlay_at l at words j (omega arith) (omega arith) (omega arith) ∙ ap (λ (q : ℕ). get_or words q 0) (omega arith)

  before_1032 : (i : ℕ) → i < 1032 → get_or t7 i 0 ≡ get_or t6 i 0
  before_1032 i h = left t6 long6 1032 rows i h (omega arith)

  late : (i : ℕ) → 264 ≤ i → i < 1032 → get_or t7 i 0 ≡ 0
  late i h k = before_1032 i k ∙ cleared_after t5 264 i h (let e = long5 in omega arith)

  -- a word before each section's end, in the table after that section's write
  before_264 : (i : ℕ) → i < 264 → get_or t7 i 0 ≡ get_or t5 i 0
  before_264 i h = before_1032 i (omega arith) ∙ cleared_before t5 264 i h (let e = long5 in omega arith)

  before_200 : (i : ℕ) → i < 200 → get_or t7 i 0 ≡ get_or t4 i 0
  before_200 i h = before_264 i (omega arith) ∙ left t4 long4 200 (granted 32) i h (omega arith)

  before_136 : (i : ℕ) → i < 136 → get_or t7 i 0 ≡ get_or t3 i 0
  before_136 i h = before_200 i (omega arith) ∙ left t3 long3 136 (granted 0) i h (omega arith)

  before_72 : (i : ℕ) → i < 72 → get_or t7 i 0 ≡ get_or t2 i 0
  before_72 i h = before_136 i (omega arith) ∙ left t2 long2 72 assigned i h (omega arith)

  before_64 : (i : ℕ) → i < 64 → get_or t7 i 0 ≡ get_or t1 i 0
  before_64 i h = before_72 i (omega arith) ∙ left t1 long1 64 masks i h (omega arith)

  -- the words of the image
  role_of : (first o : ℕ) → o < 64 → get_or (granted first) o 0 ≡ 0 with (first + get_or labels o 0)
  role_of first o h = get_d_tabulate 64 _ 0 o h

  granted_words : (x o : ℕ) → x < 8 → o < 64 → get_or t7 (136 + 64 * x + o) 0 ≡ granted_roles (get_or labels o 0) x
  unfolding granted_roles
  granted_words zero o hx ho =
      before_200 (136 + 0 + o) (omega arith) ∙ put t3 long3 136 (granted 0) o (136 + 0 + o) 64 (omega arith) (length_tabulate 64 _) ho (omega arith) ∙ role_of 0 o ho ∙ ap (λ (r : ℕ). 0 with r) (omega arith)
  granted_words (suc zero) o hx ho =
      before_264 (136 + 64 + o) (omega arith) ∙ put t4 long4 200 (granted 32) o (136 + 64 + o) 64 (omega arith) (length_tabulate 64 _) ho (omega arith) ∙ role_of 32 o ho
  granted_words (suc (suc x)) o hx ho = late (136 + 64 * suc (suc x) + o) (omega arith) (omega arith)

  pub written_image : t7 ≡ image (begin clearances labels)
  unfolding shown begin seat_owner seat_roles may_open
  written_image =
      encode.shown t7 (shown (begin clearances labels)) (length_overlay t6 1032 rows ∙ long6) (record {
        juniors = λ r h.
            before_64 r h ∙ put t whole 0 seniority r r 64 (omega arith) (length_tabulate 64 _) h (omega arith) ∙ get_d_tabulate 64 _ 0 r h;
        permitted = λ x h. before_72 (64 + x) (omega arith) ∙ put t1 long1 64 masks x (64 + x) 8 refl refl h (omega arith) ∙ mask_is x h;
        assigned = λ u h.
            before_136 (72 + u) (omega arith)
            ∙ put t2 long2 72 assigned u (72 + u) 64 refl (length_tabulate 64 _) h (omega arith)
            ∙ get_d_tabulate 64 _ 0 u h;
        granted = granted_words;
        owner = λ s h. late (648 + s) (omega arith) (omega arith);
        active = λ s h. late (680 + s) (omega arith) (omega arith);
        holds = λ s x h k.
            late (712 + 8 * s + x) (omega arith) (omega arith) ∙ sym (pack_none 64 (λ o l. and_false (ltb x 2) refl));
        sets = λ i h. late (968 + i) (omega arith) (omega arith);
        direct = λ r h. put t6 long6 1032 rows r (1032 + r) 64 refl refl h (omega arith) ∙ row_is r h;
        masks = λ s x h k.
            let e = long6 in let d = long5 in
            overlay_past t6 1032 rows (masks_at s x) (omega arith) (omega arith) ∙ cleared_after t5 264 (masks_at s x) (omega arith) (omega arith)
            ∙ sym (pack_none 64 (λ o l. and_false (ltb x 2) refl));
      })
