-- A word is told by its letters packed in one number. Assumes nothing.
use Prim.Native.Nat.{ℕ, ◌+◌, ◌*◌, ◌^◌}
use mathlib.Core.Path.{◌≡◌, refl, sym, ap, ap₂, ◌∙◌}
use mathlib.Core.Bool.{Bool, true}
use mathlib.Core.List.{List, [], ◌∷◌, reverse_aux, reverse, reverse-reverse}
use native.Mathlib.Omega.{arith}
use lib.Dec.{eqb, ltb, lit<}
use Rattle.std.specs.Prelude.{Option, None}
use borrow.Author.Tests.{eqb-true, eq-eqb, ne_eqb}
use Rattle.bits.specs.Words.{◌and◌, when◌then◌else◌}
use Rattle.reader.specs.Bytes.{every, same}
use Rattle.reader.specs.Line.{Entry, words, find, spelled}
use Rattle.reader.specs.Reader.{letter, packed, known, word_of}
use Rattle.reader.specs.declared.Word.{Word}
use Rattle.bits.proofs.Truth.{clash, by_truth, and_left, and_right, and_intro, if_true, if_false, if_same}
use Rattle.reader.proofs.Stepping.{letter_least, letter_most}
use Rattle.reader.proofs.Values.{along, total, along_total}

-- ---- equal lists

pub same_true : (p q : List ℕ) → same p q ≡ true → p ≡ q
unfolding same
same_true [] [] h = refl
same_true [] (y ∷ ys) h = clash {b = true} refl (sym h)
same_true (x ∷ xs) [] h = clash {b = true} refl (sym h)
same_true (x ∷ xs) (y ∷ ys) h = ap₂ ◌∷◌ (eqb-true x y (and_left _ _ h)) (same_true xs ys (and_right (eqb x y) _ h))

same_refl : (p : List ℕ) → same p p ≡ true
unfolding same
same_refl [] = refl
same_refl (x ∷ xs) = and_intro (eq-eqb x x refl) (same_refl xs)

-- ---- letters are read off the number that they are packed in

-- the last letter first
low : List ℕ → ℕ
low [] = 0
low (b ∷ r) = low r * 256 + b

packed_low : (p r : List ℕ) → packed (low r) p ≡ low (reverse_aux p r)
unfolding low
packed_low [] r = refl
packed_low (b ∷ p) r = packed_low p (b ∷ r)

every_reverse : (p r : List ℕ) → every letter p ≡ true → every letter r ≡ true → every letter (reverse_aux p r) ≡ true
unfolding every
every_reverse [] r h k = k
every_reverse (b ∷ p) r h k = every_reverse p (b ∷ r) (and_right (letter b) _ h) (and_intro (and_left _ _ h) k)

low_injective : (r s : List ℕ) → every letter r ≡ true → every letter s ≡ true → low r ≡ low s → r ≡ s
unfolding low every
low_injective [] [] h k e = refl
low_injective [] (b ∷ s) h k e =
    let f = letter_least b (and_left _ _ k) in
    absurd (omega arith)
low_injective (a ∷ r) [] h k e =
    let f = letter_least a (and_left _ _ h) in
    absurd (omega arith)
low_injective (a ∷ r) (b ∷ s) h k e =
    let f = letter_most a (and_left _ _ h) in
    let g = letter_most b (and_left _ _ k) in
    ap₂ ◌∷◌ (omega arith) (low_injective r s (and_right (letter a) _ h) (and_right (letter b) _ k) (omega arith))

packed_injective : (p q : List ℕ) → every letter p ≡ true → every letter q ≡ true → packed 0 p ≡ packed 0 q → p ≡ q
unfolding low every
packed_injective p q h k e =
    let r : reverse p ≡ reverse q =
    low_injective (reverse p) (reverse q) (every_reverse p [] h refl) (every_reverse q [] k refl)
    (sym (packed_low p []) ∙ e ∙ packed_low q []) in
    sym (reverse-reverse p) ∙ ap reverse r ∙ reverse-reverse q

-- ---- words

-- letters that fit in one number
abbrev fit : List ℕ → Bool
fit p = every letter p and ltb (packed 0 p) (2 ^ 64)

all_fit : List Entry → Bool
all_fit [] = true
all_fit (e ∷ es) = fit e.letters and all_fit es

packed_find : (es : List Entry) (p : List ℕ) → all_fit es ≡ true → (when fit p then known es (packed 0 p) else None) ≡ find es p
unfolding find all_fit
packed_find [] p h = if_same (fit p) None
packed_find (e ∷ es) p h =
    let here : fit e.letters ≡ true = and_left _ _ h in
    by_truth (same p e.letters)
    (λ a. let q = same_true p e.letters a in
    if_true _ _ (ap fit q ∙ here) ∙ if_true _ _ (eq-eqb _ _ (ap (packed 0) q)) ∙ sym (if_true _ _ a))
    (λ a.
    let rest : (when fit p then known es (packed 0 p) else None) ≡ find (e ∷ es) p =
    packed_find es p (and_right (fit e.letters) _ h) ∙ sym (if_false _ _ a) in
    by_truth (fit p)
    (λ b.
    let differ : packed 0 p ≡ packed 0 e.letters → ⊥ = λ q.
    clash (rw (packed_injective p e.letters (and_left _ _ b) (and_left _ _ here) q) (same_refl e.letters)) a in
    ap (λ (o : Option Word). when fit p then o else None) (if_false _ _ (ne_eqb _ _ differ)) ∙ rest)
    (λ b. if_false _ _ b ∙ sym (if_false _ _ b) ∙ rest))

packed_total : (x : ℕ) (l : List ℕ) → total 256 (λ b. b) x l ≡ packed x l
unfolding total
packed_total x [] = refl
packed_total x (b ∷ l) = packed_total (x * 256 + b) l

-- letters a byte at a time
abbrev pub letters_from : ℕ → List ℕ → Option Word
letters_from = along letter 256 (λ b. b) word_of None

pub letters_spelled : (p : List ℕ) → letters_from 0 p ≡ spelled p
unfolding spelled word_of all_fit every ◌and◌
letters_spelled p =
    along_total letter 256 (λ b. b) (λ v b. omega arith) word_of None 0 p (lit< tt)
    ∙ rw (packed_total 0 p) (packed_find words p refl)
