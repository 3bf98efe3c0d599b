-- What holds of some number, of each or of some member of a word, how many it holds of, and more words that are made of words.
use Rattle.std.specs.Prelude.{◌+◌, ◌-◌, ◌≤◌, ◌<◌, ◌≡◌, ◌≢◌, Option, MatchOption}
use Rattle.bits.specs.Words.{ℕ, zero, suc, Bool, false, not, eqb, ◌and◌, ◌or◌, ◌implies◌, when◌then◌else◌, has, all, bit, pack}

infixl 55 ◌without◌
-- f holds of some number below n: asked from 0 up, and no further than the first of which it does
unfoldable pub any : ℕ → (ℕ → Bool) → Bool
any zero f = false
any (suc n) f = let last = f n in any n f or last

-- f holds of every member of w; an empty word is not gone through
unfoldable pub each : ℕ → (ℕ → Bool) → Bool
each w f =
    let members = all 64 (λ i. let r = f i in has w i implies r) in
    eqb w 0 or members

-- f holds of some member of w; an empty word is not gone through
unfoldable pub some : ℕ → (ℕ → Bool) → Bool
some w f =
    let members = any 64 (λ i. let r = f i in has w i and r) in
    not (eqb w 0) and members

-- a and b have a member in common
unfoldable pub overlap : ℕ → ℕ → Bool
overlap a b = some a (has b)

-- the word w without the member i; a number past 63 changes nothing
unfoldable pub ◌without◌ : ℕ → ℕ → ℕ
◌without◌ w i = pack 64 (λ j. not (eqb j i) and has w j)

-- the members of a and of b together
unfoldable pub join : ℕ → ℕ → ℕ
join a b = pack 64 (λ j. has a j or has b j)

-- the members that a and b have in common
unfoldable pub meet : ℕ → ℕ → ℕ
meet a b = pack 64 (λ j. has a j and has b j)

-- how many numbers below n f holds of, and how many members w has
unfoldable pub count : ℕ → (ℕ → Bool) → ℕ
count zero f = 0
count (suc n) f = bit (f n) + count n f

unfoldable pub size : ℕ → ℕ
size w = count 64 (has w)

-- the least number below n of which f holds, or 0 where there is none
unfoldable pub least : ℕ → (ℕ → Bool) → ℕ
least zero f = 0
least (suc n) f = when any n f then least n f else (when f n then n else 0)

-- the lowest member of w, or 0 where it is empty; and the word without that member
unfoldable pub lowest : ℕ → ℕ
lowest w = least 64 (has w)

unfoldable pub rest : ℕ → ℕ
rest w = w without lowest w

-- ---- what a function that goes through the members of a word is told: which number, and a bound

pub record IsLowest (w r : ℕ) : Type 0 where
  pub is : r ≡ lowest w
  pub below : r < 64

pub record IsRest (w r : ℕ) : Type 0 where
  pub is : r ≡ rest w
  pub less : r ≤ w - 1

-- one step through the members of a word: its lowest member is given and the rest is left; of an empty word nothing is given
abbrev pub Takes : ℕ → Option ℕ → ℕ → Type 0
Takes before given after = MatchOption given ((before ≡ 0) × (after ≡ 0)) (λ i. (before ≢ 0) × IsLowest before i × IsRest before after)
