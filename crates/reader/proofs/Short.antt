-- A line that is read is short: 8 letters and three times a tab and 20 digits at most, so the limit of 128 bytes never decides. Assumes nothing.
use Prim.Native.Nat.{ℕ, suc, ◌+◌, ◌-◌, ◌*◌, ◌^◌, ◌<◌, ◌≤◌}
use mathlib.Core.Path.{◌≡◌, refl, sym, ap, ◌∙◌}
use mathlib.Core.Bool.{Bool, true}
use mathlib.Core.List.{List, [], ◌∷◌}
use Rattle.std.specs.Prelude.{Option, Some, None}
use Rattle.std.proofs.lemmas.Option.{none-some}
use native.Mathlib.Omega.{arith}
use native.Mathlib.Nat.{pow-succ', pow-le-pow_right, mul-le-mul_right, mul_assoc}
use lib.Dec.{eqb, leb, ltb, lit<}
use lib.ListN.{length}
use borrow.Author.Tests.{eqb-false, ltb-true, leb-true, leb-false, ltb-false}
use Rattle.bits.specs.Words.{◌and◌}
use Rattle.reader.specs.Bytes.{same}
use Rattle.reader.specs.Line.{Entry, words, first, others, find, spelled, digit, worth, plain, number, behind, push, fields, joined, line}
use Rattle.reader.specs.declared.Word.{Word}
use Rattle.reader.specs.declared.Fields.{Fields}
use Rattle.reader.specs.declared.Fields.TheVariants.{Without, One, Two, Three}
use Rattle.bits.proofs.Truth.{by_truth, and_left, and_right, if_true, if_false}
use Rattle.reader.proofs.Stepping.{digit_least}
use Rattle.reader.proofs.Shown.{empty_is}
use Rattle.reader.proofs.Words.{same_true}
use Rattle.reader.proofs.Resume.{fields_none}

-- ---- the pieces make up the line

-- the bytes of pieces, every with the tab before it
span : List (List ℕ) → ℕ
span [] = 0
span (p ∷ ps) = suc (length p) + span ps

length_pieces : (l : List ℕ) → length l ≡ length (first l) + span (others l)
unfolding first others span
length_pieces [] = refl
length_pieces (b ∷ l) =
    let ih = length_pieces l in
    by_truth (eqb b 9) (λ e. simp if_true (omega arith)) (λ e. simp if_false (omega arith))

-- ---- a number has 20 digits at most

worth_long : (v : ℕ) (l : List ℕ) → v * 10 ^ length l ≤ worth v l
unfolding worth
worth_long v [] = omega arith
worth_long v (b ∷ l) =
    let ih = worth_long (v * 10 + (b - 48)) l in
    let more : v * 10 * 10 ^ length l ≤ (v * 10 + (b - 48)) * 10 ^ length l = mul-le-mul_right (10 ^ length l) (omega arith) in
    let turn : v * 10 ^ suc (length l) ≡ v * 10 * 10 ^ length l = ap (λ (k : ℕ). v * k) (pow-succ' 10 (length l)) ∙ sym (mul_assoc v 10 (10 ^ length l)) in
    omega arith

-- what starts with another digit than 0 has 20 at most
digits_short : (v : ℕ) (l : List ℕ) → 1 ≤ v → worth v l < 2 ^ 64 → length l < 20
digits_short v l h k =
    by_truth (ltb (length l) 20) (ltb-true _ _)
    (λ e.
    let big : 10 ^ 20 ≤ 10 ^ length l = pow-le-pow_right (lit< tt) (ltb-false _ _ e) in
    let once : 1 * 10 ^ length l ≤ v * 10 ^ length l = mul-le-mul_right (10 ^ length l) h in
    let all = worth_long v l in
    absurd (omega arith))

plain_short : (p : List ℕ) → plain p ≡ true → worth 0 p < 2 ^ 64 → length p ≤ 20
unfolding plain worth
plain_short [] h k = omega arith
plain_short (b ∷ l) h k =
    by_truth (eqb b 48)
    (λ e. let z = ap length (empty_is l (sym (if_true _ _ e) ∙ and_right (digit b) _ h)) in omega arith)
    (λ e.
    let least = digit_least b (and_left _ _ h) in
    let other : b ≡ 48 → ⊥ = eqb-false b 48 e in
    digits_short (0 * 10 + (b - 48)) l (omega arith) k)

number_short : (p : List ℕ) (n : ℕ) → number p ≡ Some n → length p ≤ 20
unfolding number
number_short p n h =
    by_truth (plain p and ltb (worth 0 p) (2 ^ 64))
    (λ e. plain_short p (and_left _ _ e) (ltb-true _ _ (and_right (plain p) _ e)))
    (λ e. absurd (none-some n (sym (if_false _ _ e) ∙ h)))

-- ---- a word has 8 letters at most

all_short : List Entry → Bool
all_short [] = true
all_short (e ∷ es) = leb (length e.letters) 8 and all_short es

find_short : (es : List Entry) (p : List ℕ) (w : Word) → all_short es ≡ true → find es p ≡ Some w → length p ≤ 8
unfolding find all_short
find_short [] p w a h = let z : ◌≡◌ {A = ℕ} 0 1 = cc in absurd (omega arith)
find_short (e ∷ es) p w a h =
    by_truth (same p e.letters)
    (λ s. rw (same_true p e.letters s) (leb-true _ _ (and_left _ _ a)))
    (λ s. find_short es p w (and_right (leb (length e.letters) 8) _ a) (sym (if_false _ _ s) ∙ h))

-- ---- a line

-- the bytes that more fields may have
room : Fields → ℕ
room Without = 63
room (One a) = 42
room (Two a b) = 21
room (Three a b c) = 0

not_none : {A : Type 0} (ps : List (List ℕ)) (fs : Fields) → fields ps None ≡ Some fs → A
not_none ps fs h = absurd (none-some fs (sym (fields_none ps) ∙ h))

span_more : (p : List ℕ) (ps : List (List ℕ)) (gs fs : Fields) (n : ℕ) → length p ≤ 20 → fields ps (behind gs n) ≡ Some fs
    → ((hs : Fields) → fields ps (Some hs) ≡ Some fs → span ps ≤ room hs) → suc (length p) + span ps ≤ room gs
unfolding behind room
span_more p ps Without fs n s h ih = let k = ih (One n) h in omega arith
span_more p ps (One a) fs n s h ih = let k = ih (Two a n) h in omega arith
span_more p ps (Two a b) fs n s h ih = let k = ih (Three a b n) h in omega arith
span_more p ps (Three a b c) fs n s h ih = not_none ps fs h

fields_span : (ps : List (List ℕ)) (gs fs : Fields) → fields ps (Some gs) ≡ Some fs → span ps ≤ room gs
unfolding fields push span
fields_span [] gs fs h = omega arith
fields_span (p ∷ ps) gs fs h = go (number p) refl h (λ hs k. fields_span ps hs fs k)
  where
    go : (o : Option ℕ) → number p ≡ o → fields ps (push (Some gs) o) ≡ Some fs
        → ((hs : Fields) → fields ps (Some hs) ≡ Some fs → span ps ≤ room hs) → suc (length p) + span ps ≤ room gs
    go None e k ih = not_none ps fs k
    go (Some n) e k ih = span_more p ps gs fs n (number_short p n e) k ih

pub line_joined : (l : List ℕ) → joined (spelled (first l)) (fields (others l) (Some Without)) ≡ line l
unfolding line spelled joined all_short ◌and◌ room
line_joined l = by_truth (leb (length l) 128) (λ e. sym (if_true _ _ e)) (λ e. long _ _ (leb-false _ _ e) refl refl ∙ sym (if_false _ _ e))
  where
    long : (o : Option Word) (f : Option Fields) → 128 < length l → find words (first l) ≡ o → fields (others l) (Some Without) ≡ f → joined o f ≡ None
    long None f h a b = refl
    long (Some w) None h a b = refl
    long (Some w) (Some fs) h a b =
        let word = find_short words (first l) w refl a in
        let numbers : span (others l) ≤ 63 = fields_span (others l) Without fs b in
        let whole = length_pieces l in
        absurd (omega arith)
