-- What the bytes of a block up to a newline, or up to its end, come to, and what the end of the input does. Assumes nothing.
use Prim.Native.Nat.{ℕ, suc, ◌+◌, ◌-◌, ◌^◌, ◌≤◌, ◌<◌}
use mathlib.Core.Path.{◌≡◌, refl, sym, ap, ap₂, ◌∙◌}
use mathlib.Core.Bool.{true, false}
use mathlib.Core.List.{List, [], ◌∷◌, ◌++◌, append_assoc}
use native.Mathlib.Omega.{arith}
use lib.Dec.{eqb, ltb}
use lib.ListN.{length, drop}
use borrow.Author.Tests.{eq-eqb, ne_eqb, lt-ltb, le-ltb, ltb-true, ltb-false}
use Rattle.bits.proofs.Truth.{clash, by_truth, and_intro, and_false, false_and, or_left, or_right, false_or, if_true, if_false}
use Rattle.reader.specs.Reader.{step_of, fresh}
use Rattle.reader.specs.declared.Reader.{Reader}
use Rattle.lines.specs.Blocks.{fed}
use Rattle.lines.specs.declared.Fed.{Fed}
use Rattle.lines.proofs.Going.{fed_none, fed_line, fed_byte}
use Rattle.output.specs.Text.{row, row_room}
use Rattle.entries.specs.declared.Fault.TheVariants.{WrongForm}
use Rattle.entries.specs.Words.{fault_number}
use Rattle.ledger.specs.Step.{Guards}
use Rattle.transcript.specs.Stream.{Standing, reading, replied, reply, closing, Stop, halt, ahead, full, serving}

-- one stretch behind the other
pub ahead_more : (j k : ℕ) (w v : List ℕ) (s : Stop) → ahead j w (ahead k v s) ≡ ahead (j + k) (w ++ v) s
ahead_more j k w v s = ap₂ (λ (n : ℕ) (u : List ℕ). record { stands = s.stands; read = n; wrote = u }) (omega arith) (sym (append_assoc w v s.wrote))

-- the place behind a block with no newline
pub fed_used : (s : Reader) (l : List ℕ) (at : ℕ) → (fed s l at).whole ≡ false → (fed s l at).next ≡ at + length l
fed_used s [] at h = rw (fed_none s at) (omega arith)
fed_used s (b ∷ l) at h =
    by_truth (eqb b 10) (λ e. clash (ap (λ (f : Fed). f.whole) (fed_line s b l at e)) h)
    (λ e.
    let f = fed_byte s b l at e in
    ap (λ (g : Fed). g.next) f ∙ fed_used (step_of s b) l (at + 1) (sym (ap (λ (g : Fed). g.whole) f) ∙ h) ∙ omega arith)

-- ---- where it stops

pub full_room : (room number : ℕ) → room < row_room → full room number ≡ true
unfolding full
full_room room number h = or_left _ (lt-ltb room row_room h)

pub full_number : (room number : ℕ) → number ≡ 2 ^ 64 - 1 → full room number ≡ true
unfolding full
full_number room number e = or_right (ltb room row_room) (eq-eqb number (2 ^ 64 - 1) e)

pub not_full : (room number : ℕ) → row_room ≤ room → (number ≡ 2 ^ 64 - 1 → ⊥) → full room number ≡ false
unfolding full
not_full room number h n = false_or _ (le-ltb room row_room h) ∙ ne_eqb number (2 ^ 64 - 1) n

module _ (room number : ℕ) (free : full room number ≡ false) where
  pub room_left : row_room ≤ room
  room_left = by_truth (ltb room row_room) (λ e. clash (full_room room number (ltb-true room row_room e)) free) (ltb-false room row_room)

  pub number_left : number ≡ 2 ^ 64 - 1 → ⊥
  number_left e = clash (full_number room number e) free

module _ (G : Guards) (room : ℕ) where
  pub serving_full : (p : Standing) (l : List ℕ) → full room p.number ≡ true → serving G room true p l ≡ halt p
  unfolding serving
  serving_full p [] h = refl
  serving_full p (b ∷ l) h = if_true _ _ (and_intro refl h)

  pub serving_open : (p : Standing) (l : List ℕ) → full room p.number ≡ false → serving G room true p l ≡ serving G room false p l
  unfolding serving
  serving_open p [] h = refl
  serving_open p (b ∷ l) h = if_false _ _ (and_false true h) ∙ sym (if_false _ _ (false_and _ refl))

  -- with a byte to read and no refusal to go on it is read
  read_on : (p : Standing) (b : ℕ) (l : List ℕ) → 1 ≤ (serving G room false p (b ∷ l)).read
  unfolding serving
  read_on p b l =
      rw (if_false _ _ (false_and _ refl)) (by_truth (eqb b 10) (λ e. rw (if_true _ _ e) (omega arith)) (λ e. rw (if_false _ _ e) (omega arith)))

  pub serving_reads : (p : Standing) (b : ℕ) (l : List ℕ) → full room p.number ≡ false → 1 ≤ (serving G room true p (b ∷ l)).read
  serving_reads p b l h = rw (serving_open p (b ∷ l) h) (read_on p b l)

  -- ---- no newline

  serving_byte : (p : Standing) (b : ℕ) (l : List ℕ) → eqb b 10 ≡ false → serving G room false p (b ∷ l) ≡ ahead 1 [] (serving G room false (reading p (step_of p.reader b)) l)
  unfolding serving
  serving_byte p b l e = if_false _ _ (false_and _ refl) ∙ if_false _ _ e

  pub serving_used : (p : Standing) (l : List ℕ) (at : ℕ) → (fed p.reader l at).whole ≡ false
      → serving G room false p l ≡ record { stands = reading p (fed p.reader l at).reader; read = length l; wrote = [] }
  unfolding serving
  serving_used p [] at h = rw (fed_none p.reader at)
  serving_used p (b ∷ l) at h =
      by_truth (eqb b 10) (λ e. clash (ap (λ (f : Fed). f.whole) (fed_line p.reader b l at e)) h)
      (λ e.
      let s = step_of p.reader b in
      let f = fed_byte p.reader b l at e in
      serving_byte p b l e
      ∙ ap (ahead 1 []) (serving_used (reading p s) l (at + 1) (sym (ap (λ (g : Fed). g.whole) f) ∙ h))
      ∙ rw f (ap (λ (n : ℕ). record { stands = reading p (fed s l (at + 1)).reader; read = n; wrote = [] }) (omega arith)))

  -- ---- a newline

  -- a line ends behind k bytes of l and its newline, with the reader at s
  abbrev pub Ends : Stop → Standing → List ℕ → ℕ → Reader → ℕ → Type 0
  Ends stop p l at s next =
      (k : ℕ) × (next ≡ at + suc k) × (suc k ≤ length l)
      × (stop ≡ ahead (suc k) (reply G p s) (serving G (room - length (reply G p s)) true (replied G p s) (drop (suc k) l)))

  pub serving_line : (p : Standing) (l : List ℕ) (at : ℕ) → (fed p.reader l at).whole ≡ true
      → Ends (serving G room false p l) p l at (fed p.reader l at).reader (fed p.reader l at).next
  unfolding serving
  serving_line p [] at h = clash h (ap (λ (f : Fed). f.whole) (fed_none p.reader at))
  serving_line p (b ∷ l) at h =
      by_truth (eqb b 10)
      (λ e. rw (fed_line p.reader b l at e) (0, refl, omega arith, if_false _ _ (false_and _ refl) ∙ if_true _ _ e))
      (λ e.
      let f = fed_byte p.reader b l at e in
      let w = serving_line (reading p (step_of p.reader b)) l (at + 1) (sym (ap (λ (g : Fed). g.whole) f) ∙ h) in
      let r = reply G p (fed (step_of p.reader b) l (at + 1)).reader in
      let rest = serving G (room - length r) true (replied G p (fed (step_of p.reader b) l (at + 1)).reader) (drop (suc w.0) l) in
      rw f (
        suc w.0,
        omega (arith, w.1),
        omega (arith, w.2),
        serving_byte p b l e ∙ ap (ahead 1 []) w.3 ∙ ap (λ (n : ℕ). record { stands = rest.stands; read = n; wrote = r ++ rest.wrote }) (omega arith),
      ))

-- ---- the end of the input

module _ (number : ℕ) (s : Reader) where
  pub closing_fresh : fresh s ≡ true → closing number s ≡ []
  unfolding closing
  closing_fresh e = if_true _ _ e

  pub closing_begun : {n : ℕ} → fresh s ≡ false → n ≡ fault_number WrongForm → closing number s ≡ row number n 0
  unfolding closing
  closing_begun e f = if_false _ _ e ∙ ap (λ (m : ℕ). row number m 0) (sym f)
