-- What every specification here is written in: names of the library, the connectives of truth values, and words as sets of
-- the numbers 0 to 63. 01: "Bit 0 of a word is the bit worth 1." A `let` marks what is worked out only where it is asked for.
pub use Rattle.std.specs.Prelude.{ℕ, zero, suc, ◌+◌, ◌-◌, ◌*◌, ◌/◌, ◌%◌, ◌^◌, ◌≤◌, ◌<◌, ◌≡◌, Bool, true, false, not, eqb, leb, ltb, length, get_or}
pub use mathlib.Core.List.{List, [], ◌∷◌, ◌++◌, Memᴰ}

infixr 35 ◌and◌
infixr 30 ◌or◌
infixr 25 ◌implies◌
infixr 10 when◌then◌else◌
infixl 55 ◌with◌
unfoldable pub ◌and◌ : Bool → Bool → Bool
◌and◌ true b = b
◌and◌ false b = false

unfoldable pub ◌or◌ : Bool → Bool → Bool
◌or◌ true b = true
◌or◌ false b = b

unfoldable pub ◌implies◌ : Bool → Bool → Bool
◌implies◌ true b = b
◌implies◌ false b = true

unfoldable pub when◌then◌else◌ : {A : Type 0} → Bool → A → A → A
when◌then◌else◌ true x y = x
when◌then◌else◌ false x y = y

-- f with v at i
unfoldable pub upd : {A : Type 0} → (ℕ → A) → ℕ → A → ℕ → A
upd f i v j = when eqb j i then v else f j

-- the number i is a member of the word w: the bit worth 2 ^ i is set
unfoldable pub has : ℕ → ℕ → Bool
has w i = eqb (w / 2 ^ i % 2) 1

-- f holds of every number below n: asked from 0 up, and no further than the first of which it does not
unfoldable pub all : ℕ → (ℕ → Bool) → Bool
all zero f = true
all (suc n) f = let last = f n in all n f and last

-- every member of a is one of b
unfoldable pub subset : ℕ → ℕ → Bool
subset a b = all 64 (λ i. has a i implies has b i)

-- 1 for true, 0 for false
unfoldable pub bit : Bool → ℕ
bit true = 1
bit false = 0

-- the word whose members are the numbers below n of which f holds
unfoldable pub pack : ℕ → (ℕ → Bool) → ℕ
pack zero f = 0
pack (suc n) f = bit (f n) * 2 ^ n + pack n f

-- the word w with the member i; a number past 63 changes nothing
unfoldable pub ◌with◌ : ℕ → ℕ → ℕ
◌with◌ w i = pack 64 (λ j. eqb j i or has w j)

-- f 0, f 1, .. , f (n - 1)
unfoldable pub tabulate : {A : Type 0} → ℕ → (ℕ → A) → List A
tabulate zero f = []
tabulate (suc n) f = f 0 ∷ tabulate n (λ i. f (suc i))
