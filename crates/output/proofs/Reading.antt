-- A number's digits are a field of a line, and worth the number. Assumes nothing.
use Prim.Native.Nat.{ℕ, zero, suc, ◌+◌, ◌*◌, ◌/◌, ◌%◌, ◌^◌, ◌≤◌, ◌<◌}
use mathlib.Core.Path.{◌≡◌}
use mathlib.Core.List.{List}
use native.Mathlib.Nat.{pow-succ'}
use native.Mathlib.Omega.{arith}
use borrow.Author.Tests.{leb-true, leb-false}
use Rattle.bits.proofs.Truth.{by_if}
use Rattle.reader.proofs.Shown.{Shown, shown_one, shown_more}
use Rattle.output.specs.Text.{text}

-- a digit fewer for a tenth
tenth : (k n : ℕ) → n < 10 ^ suc k → n / 10 < 10 ^ k
tenth k n h = let e = pow-succ' 10 k in omega arith

-- more than one digit
more : (k n : ℕ) → n < 10 ^ suc k → 9 < n → 1 ≤ k
more zero n h s = absurd (omega arith)
more (suc k) n h s = omega arith

pub text_shown : (k n : ℕ) → 1 ≤ k → n < 10 ^ k → Shown (text k n) n
unfolding text
text_shown zero n p h = absurd (omega arith)
text_shown (suc k) n p h =
    by_if (λ (l : List ℕ). Shown l n) _ (λ e. shown_one n (leb-true n 9 e))
    (λ e.
    let large = leb-false n 9 e in
    let whole : n / 10 * 10 + n % 10 ≡ n = omega arith in
    rw whole at (shown_more {d = n % 10} (text_shown k (n / 10) (more k n h large) (tenth k n h)) (omega arith) (omega arith)))
