-- Laws of bytes stored one behind the other or one over the other, and of the length of a number's text. Assumes nothing.
use Prim.Native.Nat.{ℕ, zero, suc, ◌+◌, ◌-◌, ◌/◌, ◌%◌, ◌≤◌, ◌<◌}
use mathlib.Core.Path.{◌≡◌, refl, sym, ap, ap₂, ◌∙◌}
use mathlib.Core.List.{List, [], ◌∷◌, ◌++◌, append_assoc}
use native.Mathlib.Nat.{add-zero, add-suc, suc-add, le_trans}
use native.Mathlib.Numerals.{add-one, sub-one}
use native.Mathlib.Omega.{arith}
use borrow.Rule.Slice.PartMut.{put_mid}
use lib.Dec.{leb}
use lib.ListN.{length, set, take, drop, length-append, length-take, length-drop, take-append-drop}
use Rattle.std.proofs.lemmas.List.{take_all}
use lib.Seq.{sets, sets-eq, set-set, set_comm, drop-drop, take-add, length-take-le}
use borrow.Author.Tests.{leb-true, le-leb, lt-leb}
use Rattle.bits.proofs.Truth.{and_intro, and_left, and_right, if_true, if_false, by_if}
use Rattle.output.specs.Text.{text, decimal, column, row_of, row, row_room, fitting, holding, numbered, Wrote}

pub wrote_nothing : (l : List ℕ) (at : ℕ) → Wrote l at [] l at
wrote_nothing l at = record { result_is = refl; next_is = omega arith }

pub wrote_one : (l : List ℕ) (at b v : ℕ) → v ≡ b → Wrote l at (b ∷ []) (set l at v) (at + 1)
wrote_one l at b v e = record { result_is = ap (set l at) e; next_is = refl }

pub wrote_two : (l : List ℕ) (at a b v : ℕ) → v ≡ a → Wrote l at (a ∷ b ∷ []) (set (set l at v) (at + 1) b) (at + 2)
wrote_two l at a b v e = record { result_is = rw (add-one at, e); next_is = refl }

pub sets_append : (l : List ℕ) (at : ℕ) (vs ws : List ℕ) → sets l at (vs ++ ws) ≡ sets (sets l at vs) (at + length vs) ws
sets_append l at [] ws = rw (add-zero at)
sets_append l at (v ∷ vs) ws = sets_append (set l at v) (suc at) vs ws ∙ ap (λ (k : ℕ). sets (sets (set l at v) (suc at) vs) k ws) (suc-add at (length vs) ∙ sym (add-suc at (length vs)))

-- bytes behind bytes
pub wrote_more : {l m r : List ℕ} {at i j : ℕ} {vs ws : List ℕ} → Wrote l at vs m i → Wrote m i ws r j → Wrote l at (vs ++ ws) r j
wrote_more {l} {m} {r} {at} {i} {j} {vs} {ws} p q = record {
  result_is = q.result_is ∙ rw (p.result_is, p.next_is) (sym (sets_append l at vs ws));
  next_is = let a = p.next_is in let b = q.next_is in rw (length-append vs ws) (omega arith);
}

-- bytes copied into a part
pub sets_part : (l : List ℕ) (at k : ℕ) (vs : List ℕ) → at + length vs ≤ length l → k ≡ length vs → put_mid at k l vs ≡ sets l at vs
sets_part l at k vs h size =
    rw (size, drop-drop (length vs) at l) (sym (append_assoc (take at l) vs (drop (at + length vs) l)) ∙ sym (sets-eq vs l at h))

-- ---- bytes over bytes

-- a store before them
pub set_sets : (l : List ℕ) (i j b : ℕ) (vs : List ℕ) → j < i → set (sets l i vs) j b ≡ sets (set l j b) i vs
set_sets l i j b [] h = refl
set_sets l i j b (v ∷ vs) h =
    set_sets (set l i v) (suc i) j b vs (omega arith) ∙ ap (λ (m : List ℕ). sets m (suc i) vs) (set_comm l i j v b (λ e. omega arith))

-- no fewer bytes at the same place
sets_over : (l : List ℕ) (i : ℕ) (vs ws : List ℕ) → length vs ≤ length ws → sets (sets l i vs) i ws ≡ sets l i ws
sets_over l i [] ws h = refl
sets_over l i (v ∷ vs) [] h = absurd (omega arith)
sets_over l i (v ∷ vs) (w ∷ ws) h =
    ap (λ (m : List ℕ). sets m (suc i) ws) (set_sets (set l i v) (suc i) i w vs (omega arith) ∙ ap (λ (m : List ℕ). sets m (suc i) vs) (set-set l i v w))
    ∙ sets_over (set l i w) (suc i) vs ws (omega arith)

-- the first n bytes, and then m from the place j on, which are the rest
pub sets_both : (l s : List ℕ) (at n j m : ℕ) → j ≤ n → n ≤ length s → length s ≤ j + m
    → sets (sets l at (take n s)) (at + j) (take m (drop j s)) ≡ sets l at s
sets_both l s at n j m h some more =
    let head = take j s in
    let again = take (n - j) (drop j s) in
    let rest = drop j s in
    let size : length head ≡ j = length-take-le j s (omega arith) in
    let fewer : length again ≤ length rest = simp (length-take, length-drop) (omega arith) in
    let whole : n ≡ j + (n - j) = omega arith in
    let split : take n s ≡ head ++ again = ap (λ (a : ℕ). take a s) whole ∙ take-add j (n - j) s in
    let all : take m rest ≡ rest = take_all m rest (simp length-drop (omega arith)) in
    ap₂ (λ (v w : List ℕ). sets (sets l at v) (at + j) w) split all
    ∙ ap (λ (d : List ℕ). sets d (at + j) rest) (sets_append l at head again ∙ ap (λ (k : ℕ). sets (sets l at head) (at + k) again) size)
    ∙ sets_over (sets l at head) (at + j) again rest fewer
    ∙ ap (λ (k : ℕ). sets (sets l at head) (at + k) rest) (sym size)
    ∙ sym (sets_append l at head rest)
    ∙ ap (sets l at) (take-append-drop j s)

-- ---- the text of a number

pub text_none : (k n : ℕ) → k ≡ 0 → text k n ≡ []
unfolding text
text_none k n e = rw e

pub text_one : (k n : ℕ) → (k ≡ 0 → ⊥) → n ≤ 9 → text k n ≡ (48 + n) ∷ []
unfolding text
text_one zero n h s = absurd (h refl)
text_one (suc k) n h s = if_true _ _ (le-leb n 9 s)

pub text_more : (k n : ℕ) → (k ≡ 0 → ⊥) → 9 < n → text k n ≡ text (k - 1) (n / 10) ++ ((48 + n % 10) ∷ [])
unfolding text
text_more zero n h s = absurd (h refl)
text_more (suc k) n h s = rw (if_false _ _ (lt-leb n 9 s), sub-one)

pub length_text : (k n : ℕ) → length (text k n) ≤ k
unfolding text
length_text zero n = omega arith
length_text (suc k) n =
    let ih = length_text k (n / 10) in
    by_if (λ (l : List ℕ). length l ≤ suc k) _ (λ e. omega arith) (λ e. rw (length-append (text k (n / 10)) ((48 + n % 10) ∷ [])) (omega arith))

pub length_decimal : (n : ℕ) → length (decimal n) ≤ 20
unfolding decimal
length_decimal n = le_trans (length_text _ n) (omega arith)

pub decimal_one : (n : ℕ) → n ≤ 9 → decimal n ≡ (48 + n) ∷ []
unfolding decimal
decimal_one n h = text_one _ n (λ e. omega arith) h

pub length_column : (n b : ℕ) → length (column n b) ≤ 21
unfolding column
length_column n b = let k = length_decimal n in rw (length-append (decimal n) (b ∷ [])) (omega arith)

pub length_row_of : (digits : List ℕ) (a s : ℕ) → length digits ≤ 20 → length (row_of digits a s) ≤ 63
unfolding row_of column
length_row_of digits a s h =
    let i = length_decimal a in
    let j = length_decimal s in
    simp length-append (omega arith)

pub length_row : (n a s : ℕ) → length (row n a s) ≤ 63
unfolding row
length_row n a s = length_row_of (decimal n) a s (length_decimal n)

-- ---- a row, where there is room for one

module _ (out : List ℕ) (at : ℕ) (bytes : List ℕ) where
  pub wrote_fitting : {result : List ℕ} {next : ℕ} → at + row_room ≤ length out
      → Wrote out at bytes result next → Wrote out at (fitting out at bytes) result next
  unfolding fitting
  wrote_fitting h w = rw (if_true bytes [] (le-leb _ _ h)) w

  -- bytes where there is room for n
  pub wrote_holding : {result : List ℕ} {next : ℕ} (n : ℕ) → n ≤ length out
      → Wrote out at bytes result next → Wrote out at (holding out n bytes) result next
  unfolding holding
  wrote_holding n h w = rw (if_true bytes [] (le-leb _ _ h)) w

  pub wrote_unheld : (n : ℕ) → length out < n → Wrote out at (holding out n bytes) out at
  unfolding holding
  wrote_unheld n h = rw (if_false bytes [] (lt-leb _ _ h)) (wrote_nothing out at)

pub wrote_held : {result : List ℕ} {next : ℕ} (out : List ℕ) (at n : ℕ) (bytes : List ℕ) → n ≤ length out
    → Wrote out at (holding out n bytes) result next → Wrote out at bytes result next
unfolding holding
wrote_held out at n bytes h w = rw (if_true bytes [] (le-leb n (length out) h)) at w

module _ (digits : List ℕ) (k answer spent : ℕ) where
  pub numbered_there : k ≤ 20 → k ≤ length digits → numbered digits k answer spent ≡ row_of (take k digits) answer spent
  unfolding numbered
  numbered_there h i = if_true _ [] (and_intro (le-leb k 20 h) (le-leb k (length digits) i))

-- a row where there is room for one
pub wrote_row : (out : List ℕ) (at : ℕ) (bytes result : List ℕ) (next : ℕ) → at + row_room ≤ length out
    → Wrote out at (fitting out at bytes) result next → Wrote out at bytes result next
unfolding fitting
wrote_row out at bytes result next h w = rw (if_true bytes [] (le-leb (at + row_room) (length out) h)) at w

pub wrote_no_row : (out : List ℕ) (at : ℕ) → Wrote out at (fitting out at []) out at
unfolding fitting
wrote_no_row out at = by_if (λ (l : List ℕ). Wrote out at l out at) _ (λ e. wrote_nothing out at) (λ e. wrote_nothing out at)

-- no row where there is no room for one, or not the digits to number it
pub wrote_none : (out : List ℕ) (at : ℕ) (digits : List ℕ) (k answer spent : ℕ) → (at + row_room ≤ length out → k ≤ 20 → k ≤ length digits → ⊥)
    → Wrote out at (fitting out at (numbered digits k answer spent)) out at
unfolding fitting numbered
wrote_none out at digits k answer spent h =
    by_if (λ (l : List ℕ). Wrote out at l out at) _
    (λ room. by_if (λ (l : List ℕ). Wrote out at l out at) _
    (λ e. absurd (h (leb-true (at + row_room) (length out) room) (leb-true k 20 (and_left _ _ e)) (leb-true k (length digits) (and_right (leb k 20) _ e))))
    (λ e. wrote_nothing out at))
    (λ full. wrote_nothing out at)

-- with room for a row or without, it ends within out
pub wrote_within : (out : List ℕ) (at : ℕ) (bytes result : List ℕ) (next : ℕ) → at ≤ length out → length bytes ≤ row_room
    → Wrote out at (fitting out at bytes) result next → next ≤ length out
unfolding fitting
wrote_within out at bytes result next h k =
    by_if (λ (l : List ℕ). Wrote out at l result next → next ≤ length out) _
    (λ e v. let room = leb-true (at + row_room) (length out) e in omega (arith, v.next_is))
    (λ e v. omega (arith, v.next_is))
