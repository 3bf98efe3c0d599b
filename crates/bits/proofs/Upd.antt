-- A function with one value replaced. Assumes nothing.
use Prim.Native.Nat.{ℕ}
use mathlib.Core.Path.{◌≡◌, refl, sym, ap, ap₂, subst, ◌∙◌}
use lib.Dec.{eqb}
use borrow.Author.Tests.{eq-eqb, ne_eqb, eqb-true, eqb-false}
use Rattle.bits.specs.Words.{when◌then◌else◌, upd}
use Rattle.bits.proofs.Truth.{by_truth, if_true, if_false}

module _ {A : Type 0} (f : ℕ → A) (i : ℕ) (v : A) where
  pub upd_same : upd f i v i ≡ v
  unfolding upd
  upd_same = if_true v (f i) (eq-eqb i i refl)

  pub upd_other : (j : ℕ) → (j ≡ i → ⊥) → upd f i v j ≡ f j
  unfolding upd
  upd_other j n = if_false v (f j) (ne_eqb j i n)

  -- at i it is v, elsewhere as it was
  pub by_upd : (P : A → Type 0) (j : ℕ) → (j ≡ i → P v) → ((j ≡ i → ⊥) → P (f j)) → P (upd f i v j)
  by_upd P j p q =
      by_truth (eqb j i)
      (λ b. let e = eqb-true j i b in subst P (sym (ap (upd f i v) e ∙ upd_same)) (p e))
      (λ b. let n = eqb-false j i b in subst P (sym (upd_other j n)) (q n))

  -- its own value put in
  pub upd_own : v ≡ f i → (j : ℕ) → upd f i v j ≡ f j
  upd_own e j = by_upd (λ (x : A). x ≡ f j) j (λ q. e ∙ sym (ap f q)) (λ n. refl)

-- one value of a grid replaced
module _ {A : Type 0} (g : ℕ → ℕ → A) (i p : ℕ) (v : A) where
  pub grid_same : upd g i (upd (g i) p v) i p ≡ v
  grid_same = ap (λ (f : ℕ → A). f p) (upd_same g i (upd (g i) p v)) ∙ upd_same (g i) p v

  pub by_grid : {B : Type 0} (j q : ℕ) → (j ≡ i → q ≡ p → B) → (upd g i (upd (g i) p v) j q ≡ g j q → B) → B
  by_grid j q f k =
      by_truth (eqb j i)
      (λ b.
      let e = eqb-true j i b in
      by_truth (eqb q p) (λ c. f e (eqb-true q p c))
      (λ c. k (ap (λ (n : ℕ). upd g i (upd (g i) p v) n q) e
      ∙ ap (λ (h : ℕ → A). h q) (upd_same g i (upd (g i) p v))
      ∙ upd_other (g i) p v q (eqb-false q p c)
      ∙ sym (ap (λ (n : ℕ). g n q) e))))
      (λ b. k (ap (λ (h : ℕ → A). h q) (upd_other g i (upd (g i) p v) j (eqb-false j i b))))

-- a value put in before and after f
pub upd_ap : {A B : Type 0} (f : A → B) (g : ℕ → A) (i : ℕ) (v : A) (j : ℕ) → upd (λ k. f (g k)) i (f v) j ≡ f (upd g i v j)
upd_ap {A} f g i v j =
    by_upd g i v (λ (x : A). upd (λ k. f (g k)) i (f v) j ≡ f x) j
    (λ e. ap (upd (λ k. f (g k)) i (f v)) e ∙ upd_same (λ k. f (g k)) i (f v))
    (upd_other (λ k. f (g k)) i (f v) j)

-- a value put in twice
pub upd_twice : (f : ℕ → ℕ) (i v w j : ℕ) → upd (upd f i v) i w j ≡ upd f i w j
upd_twice f i v w j =
    by_upd (upd f i v) i w (λ (n : ℕ). n ≡ upd f i w j) j
    (λ e. sym (ap (upd f i w) e ∙ upd_same f i w))
    (λ n. upd_other f i v j n ∙ sym (upd_other f i w j n))

-- values that agree, with values that agree put in
pub upd_agree : {A : Type 0} (f g : ℕ → A) (i j : ℕ) {v w : A} → v ≡ w → f j ≡ g j → upd f i v j ≡ upd g i w j
unfolding upd
upd_agree f g i j e k = ap₂ (when◌then◌else◌ (eqb j i)) e k

pub row_agree : (f g : ℕ → ℕ → ℕ) (i j x : ℕ) (v w : ℕ → ℕ) → v x ≡ w x → f j x ≡ g j x → upd f i v j x ≡ upd g i w j x
row_agree f g i j x v w e k =
    by_upd f i v (λ (h : ℕ → ℕ). h x ≡ upd g i w j x) j
    (λ q. e ∙ sym (ap (λ (n : ℕ). upd g i w n x) q ∙ ap (λ (h : ℕ → ℕ). h x) (upd_same g i w)))
    (λ n. k ∙ sym (ap (λ (h : ℕ → ℕ). h x) (upd_other g i w j n)))

pub grid_agree : (f g : ℕ → ℕ → ℕ) (i p j q : ℕ) {v w : ℕ} → v ≡ w → f j q ≡ g j q → upd f i (upd (f i) p v) j q ≡ upd g i (upd (g i) p w) j q
grid_agree f g i p j q {v} {w} e k =
    by_truth (eqb j i)
    (λ b.
    let z = eqb-true j i b in
    row_agree f g i j q (upd (f i) p v) (upd (g i) p w) (upd_agree (f i) (g i) p q e (sym (ap (λ (n : ℕ). f n q) z) ∙ k ∙ ap (λ (n : ℕ). g n q) z)) k)
    (λ b.
    let n = eqb-false j i b in
    ap (λ (h : ℕ → ℕ). h q) (upd_other f i (upd (f i) p v) j n) ∙ k ∙ sym (ap (λ (h : ℕ → ℕ). h q) (upd_other g i (upd (g i) p w) j n)))
