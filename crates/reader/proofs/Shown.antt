-- Digits that are a number's, and numbers among the pieces of a line. Assumes nothing.
use Prim.Native.Nat.{ℕ, ◌+◌, ◌-◌, ◌*◌, ◌^◌, ◌≤◌, ◌<◌}
use mathlib.Core.Path.{◌≡◌, refl, sym, ap, ap₂, ◌∙◌}
use mathlib.Core.Bool.{Bool, true, false}
use mathlib.Core.List.{List, [], ◌∷◌, ◌++◌, append-nil}
use Rattle.std.specs.Prelude.{Some}
use Rattle.std.proofs.lemmas.Option.{none-some}
use native.Mathlib.Omega.{arith}
use lib.Dec.{eqb}
use borrow.Author.Tests.{eqb-true, le-leb, lt-ltb, ne_eqb}
use Rattle.bits.proofs.Truth.{clash, by_truth, and_intro, and_left, and_right, false_and, if_true, if_false, by_if, if_same}
use Rattle.reader.specs.Bytes.{tab, every, empty}
use Rattle.reader.specs.Line.{first, others, digit, worth, plain, number, behind, push, fields}
use Rattle.reader.specs.declared.Fields.TheVariants.{Without, Three}
use Rattle.reader.proofs.Stepping.{digit_least}

pub empty_is : (l : List ℕ) → empty l ≡ true → l ≡ []
unfolding empty
empty_is [] h = refl
empty_is (b ∷ l) h = clash {b = true} refl (sym h)

-- ---- digits behind digits

worth_more : (v : ℕ) (l : List ℕ) (b : ℕ) → worth v (l ++ (b ∷ [])) ≡ worth v l * 10 + (b - 48)
unfolding worth
worth_more v [] b = refl
worth_more v (a ∷ l) b = worth_more (v * 10 + (a - 48)) l b

every_more : (f : ℕ → Bool) (l : List ℕ) (b : ℕ) → every f l ≡ true → f b ≡ true → every f (l ++ (b ∷ [])) ≡ true
unfolding every
every_more f [] b h k = and_intro k refl
every_more f (a ∷ l) b h k = and_intro (and_left _ _ h) (every_more f l b (and_right (f a) _ h) k)

-- a digit may stand behind those of a number that is not 0
plain_more : (l : List ℕ) (b : ℕ) → plain l ≡ true → 1 ≤ worth 0 l → digit b ≡ true → plain (l ++ (b ∷ [])) ≡ true
unfolding plain worth
plain_more [] b h k d = clash {b = true} refl (sym h)
plain_more (a ∷ l) b h k d =
    let rest = and_right (digit a) _ h in
    and_intro (and_left _ _ h) (by_if (λ (t : Bool). t ≡ true) _
    (λ e. let alone = rw (empty_is l (sym (if_true _ _ e) ∙ rest)) at k in absurd (omega (arith, eqb-true a 48 e)))
    (λ e. every_more digit l b (sym (if_false _ _ e) ∙ rest) d))

-- digits as a field has them, and what they are worth
pub record Shown (p : List ℕ) (n : ℕ) : Type 0 where
  pub plainly : plain p ≡ true
  pub worth_is : worth 0 p ≡ n

digit_byte : (d : ℕ) → d ≤ 9 → digit (48 + d) ≡ true
digit_byte d h = and_intro (le-leb 48 (48 + d) (omega arith)) (le-leb (48 + d) 57 (omega arith))

pub shown_one : (d : ℕ) → d ≤ 9 → Shown ((48 + d) ∷ []) d
unfolding plain worth every empty
shown_one d h = record { plainly = and_intro (digit_byte d h) (if_same _ true); worth_is = omega arith }

pub shown_more : {l : List ℕ} {v d : ℕ} → Shown l v → 1 ≤ v → d ≤ 9 → Shown (l ++ ((48 + d) ∷ [])) (v * 10 + d)
shown_more {l} {v} {d} s h k = record {
  plainly = plain_more l (48 + d) s.plainly (rw s.worth_is h) (digit_byte d k);
  worth_is = worth_more 0 l (48 + d) ∙ omega (arith, s.worth_is);
}

pub shown_number : {p : List ℕ} {n : ℕ} → Shown p n → n < 2 ^ 64 → number p ≡ Some n
unfolding number
shown_number {p} {n} s h =
    if_true _ _ (and_intro s.plainly (lt-ltb (worth 0 p) (2 ^ 64) (omega (arith, s.worth_is)))) ∙ ap Some s.worth_is

-- ---- numbers among the pieces of a line

number_digits : (p : List ℕ) {n : ℕ} → number p ≡ Some n → every digit p ≡ true
unfolding number plain every
number_digits [] h = refl
number_digits (b ∷ l) {n} h =
    by_truth (plain (b ∷ l))
    (λ p.
    let rest = and_right (digit b) _ p in
    and_intro (and_left _ _ p) (by_truth (eqb b 48) (λ e. ap (every digit) (empty_is l (sym (if_true _ _ e) ∙ rest))) (λ e. sym (if_false _ _ e) ∙ rest)))
    (λ p. absurd (none-some n (sym (if_false _ _ (false_and _ p)) ∙ h)))

not_tab : (b : ℕ) → digit b ≡ true → eqb b tab ≡ false
not_tab b h = let low = digit_least b h in ne_eqb b 9 (λ e. omega arith)

first_digits : (l m : List ℕ) → every digit l ≡ true → first (l ++ m) ≡ l ++ first m
unfolding first every
first_digits [] m h = refl
first_digits (b ∷ l) m h = if_false _ _ (not_tab b (and_left _ _ h)) ∙ ap (λ (r : List ℕ). b ∷ r) (first_digits l m (and_right (digit b) _ h))

others_digits : (l m : List ℕ) → every digit l ≡ true → others (l ++ m) ≡ others m
unfolding others every
others_digits [] m h = refl
others_digits (b ∷ l) m h = if_false _ _ (not_tab b (and_left _ _ h)) ∙ others_digits l m (and_right (digit b) _ h)

-- the pieces of bytes that digits begin
abbrev pub pieces : List ℕ → List (List ℕ)
pieces l = first l ∷ others l

pieces_tab : (p m : List ℕ) → every digit p ≡ true → pieces (p ++ tab ∷ m) ≡ p ∷ pieces m
unfolding first others
pieces_tab p m h =
    ap₂ ◌∷◌ (first_digits p (tab ∷ m) h ∙ ap (λ (l : List ℕ). p ++ l) (if_true _ _ refl) ∙ append-nil p) (others_digits p (tab ∷ m) h ∙ if_true _ _ refl)

pieces_end : (p : List ℕ) → every digit p ≡ true → pieces p ≡ p ∷ []
unfolding first others
pieces_end p h = ap pieces (sym (append-nil p)) ∙ ap₂ ◌∷◌ (first_digits p [] h ∙ append-nil p) (others_digits p [] h)

-- three numbers with a tab between each two are three fields
pub fields_three : (p q r : List ℕ) {a b c : ℕ} → number p ≡ Some a → number q ≡ Some b → number r ≡ Some c
    → fields (pieces (p ++ tab ∷ (q ++ tab ∷ r))) (Some Without) ≡ Some (Three a b c)
unfolding fields push behind
fields_three p q r x y z =
    let apart = pieces_tab p _ (number_digits p x) ∙ ap (λ (ps : List (List ℕ)). p ∷ ps) (pieces_tab q r (number_digits q y) ∙ ap (λ (ps : List (List ℕ)). q ∷ ps) (pieces_end r (number_digits r z))) in
    ap (λ (ps : List (List ℕ)). fields ps (Some Without)) apart ∙ rw (x, y, z)
