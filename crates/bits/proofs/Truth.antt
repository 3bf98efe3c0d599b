-- Laws of the connectives. Assumes nothing.
use mathlib.Core.Path.{◌≡◌, refl, sym, ap, ◌∙◌}
use mathlib.Core.Bool.{Bool, true, false, not, true≢false}
use borrow.Author.Tests.{not-true, not-false}
use Rattle.bits.specs.Words.{◌and◌, ◌or◌, ◌implies◌, when◌then◌else◌}

-- ---- truth values

pub clash : {A : Type 0} {b : Bool} → b ≡ true → b ≡ false → A
clash p q = absurd (true≢false (sym p ∙ q))

-- by whether b is true
pub by_truth : {A : Type 0} (b : Bool) → (b ≡ true → A) → (b ≡ false → A) → A
by_truth true f g = f refl
by_truth false f g = g refl

pub is_false : {b : Bool} → (b ≡ true → ⊥) → b ≡ false
is_false {b} h = by_truth b (λ p. absurd (h p)) (λ q. q)

-- two truth values are the same that are true together
pub same_truth : {a b : Bool} → (a ≡ true → b ≡ true) → (b ≡ true → a ≡ true) → a ≡ b
same_truth {a} {b} f g = by_truth a (λ p. p ∙ sym (f p)) (λ p. p ∙ sym (is_false (λ q. clash (g q) p)))

pub not_intro : {b : Bool} → b ≡ false → not b ≡ true
not_intro p = ap not p

-- what a call answered, where a branch on its negation told which
pub confirmed : {b c : Bool} → b ≡ c → not b ≡ false → c ≡ true
confirmed {b} e p = sym e ∙ not-false b p

pub refuted : {b c : Bool} → b ≡ c → not b ≡ true → c ≡ false
refuted {b} e p = sym e ∙ not-true b p

-- ---- and

pub and_intro : {a b : Bool} → a ≡ true → b ≡ true → a and b ≡ true
unfolding ◌and◌
and_intro p q = rw (p, ◌and◌) q

pub and_left : (a b : Bool) → a and b ≡ true → a ≡ true
unfolding ◌and◌
and_left true b e = refl
and_left false b e = e

pub and_right : (a b : Bool) → a and b ≡ true → b ≡ true
unfolding ◌and◌
and_right true b e = e
and_right false b e = clash e refl

pub true_and : {a : Bool} (b : Bool) → a ≡ true → a and b ≡ b
unfolding ◌and◌
true_and b p = rw (p, ◌and◌)

pub false_and : {a : Bool} (b : Bool) → a ≡ false → a and b ≡ false
unfolding ◌and◌
false_and b p = rw (p, ◌and◌)

pub and_false : (a : Bool) {b : Bool} → b ≡ false → a and b ≡ false
and_false a q = is_false (λ e. clash (and_right a _ e) q)

pub and_true : (a : Bool) {b : Bool} → b ≡ true → a and b ≡ a
unfolding ◌and◌
and_true true e = e
and_true false e = refl

pub and_assoc : (a b c : Bool) → (a and b) and c ≡ a and (b and c)
unfolding ◌and◌
and_assoc true b c = refl
and_assoc false b c = refl

pub and_comm : (a b : Bool) → a and b ≡ b and a
and_comm a b =
    same_truth (λ e. and_intro (and_right a b e) (and_left a b e)) (λ e. and_intro (and_right b a e) (and_left b a e))

-- what `&&` comes to, where its first part, of which a is known, was answered yes or no
pub and_yes : {a b x : Bool} → x ≡ a → x ≡ true → b ≡ a and b
and_yes e p = sym (true_and _ (sym e ∙ p))

pub and_no : {a x : Bool} (b : Bool) → x ≡ a → x ≡ false → x ≡ a and b
and_no b e p = p ∙ sym (false_and _ (sym e ∙ p))

-- ---- or

pub or_left : {a : Bool} (b : Bool) → a ≡ true → a or b ≡ true
unfolding ◌or◌
or_left b p = rw (p, ◌or◌)

pub or_right : (a : Bool) {b : Bool} → b ≡ true → a or b ≡ true
unfolding ◌or◌
or_right true q = refl
or_right false q = q

pub or_elim : {A : Type 0} (a b : Bool) → a or b ≡ true → (a ≡ true → A) → (b ≡ true → A) → A
unfolding ◌or◌
or_elim true b e f g = f refl
or_elim false b e f g = g e

pub false_or : {a : Bool} (b : Bool) → a ≡ false → a or b ≡ b
unfolding ◌or◌
false_or b p = rw (p, ◌or◌)

pub or_false : (a : Bool) {b : Bool} → b ≡ false → a or b ≡ a
unfolding ◌or◌
or_false true q = refl
or_false false q = q

pub or_comm : (a b : Bool) → a or b ≡ b or a
or_comm a b =
    same_truth (λ e. or_elim a b e (or_right b) (or_left a)) (λ e. or_elim b a e (or_right a) (or_left b))

pub or_assoc : (a b c : Bool) → (a or b) or c ≡ a or (b or c)
unfolding ◌or◌
or_assoc true b c = refl
or_assoc false b c = refl

-- ---- implies

pub implies_intro : (a b : Bool) → (a ≡ true → b ≡ true) → a implies b ≡ true
unfolding ◌implies◌
implies_intro true b f = f refl
implies_intro false b f = refl

pub implies_elim : (a b : Bool) → a implies b ≡ true → a ≡ true → b ≡ true
unfolding ◌implies◌
implies_elim true b e p = e
implies_elim false b e p = clash p refl

pub implies_fails : {a b : Bool} → a ≡ true → b ≡ false → a implies b ≡ false
implies_fails {a} {b} p q = is_false (λ e. clash (implies_elim a b e p) q)

pub implies_counter : (a b : Bool) → not (a implies b) ≡ true → (a ≡ true) × (b ≡ false)
unfolding ◌implies◌
implies_counter true b e = (refl, not-true b e)
implies_counter false b e = clash e refl

-- ---- choice

pub if_true : {A : Type 0} {b : Bool} (x y : A) → b ≡ true → (when b then x else y) ≡ x
unfolding when◌then◌else◌
if_true x y p = rw (p, when◌then◌else◌)

pub if_false : {A : Type 0} {b : Bool} (x y : A) → b ≡ false → (when b then x else y) ≡ y
unfolding when◌then◌else◌
if_false x y p = rw (p, when◌then◌else◌)

-- what holds of a choice, by its test
pub by_if : {A : Type 0} (P : A → Type 0) (b : Bool) {x y : A} → (b ≡ true → P x) → (b ≡ false → P y) → P (when b then x else y)
by_if P b {x} {y} f g = by_truth b (λ p. rw (if_true x y p) (f p)) (λ p. rw (if_false x y p) (g p))

pub if_same : {A : Type 0} (b : Bool) (x : A) → (when b then x else x) ≡ x
if_same b x = by_truth b (if_true x x) (if_false x x)

-- past a test that does not refuse, and stopped by one that does
pub past : {A : Type 0} {b : Bool} (x y : A) → b ≡ true → (when not b then x else y) ≡ y
past x y p = if_false x y (ap not p)

pub stopped : {A : Type 0} {b : Bool} (x y : A) → b ≡ false → (when not b then x else y) ≡ x
stopped x y p = if_true x y (ap not p)
