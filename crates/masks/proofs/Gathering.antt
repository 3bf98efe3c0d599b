-- The objects of each role gathered: what the loops over roles and over objects keep. Assumes nothing.
use Prim.Native.Nat.{ℕ, ◌+◌, ◌*◌, ◌/◌, ◌%◌, ◌^◌, ◌<◌}
use mathlib.Core.Path.{◌≡◌, refl, sym, ap, ap₂, subst, ◌∙◌}
use mathlib.Core.Bool.{Bool}
use mathlib.Core.List.{List}
use native.Mathlib.Omega.{arith}
use lib.Dec.{eqb, ltb}
use lib.ListN.{length, get_or, set, length-set, replicate}
use lib.Seq.{get_or-set_same, get_or-set_other}
use borrow.Author.Tests.{eq-eqb, ne_eqb, eqb-true, eqb-false, lt-ltb, le-ltb, ltb-true, ltb-false}
use Rattle.bits.specs.Words.{◌and◌, when◌then◌else◌, has, ◌with◌}
use Rattle.bits.specs.Sets.{IsLowest, IsRest}
use Rattle.bits.proofs.Truth.{by_truth, and_intro, and_false, false_and, if_true, if_false}
use Rattle.bits.proofs.Word.{has_zero}
use Rattle.bits.proofs.Walk.{lowest_there, lowest_gone, others_left, Picking, pick_start, pick_take, pick_pass, pick_end}
use Rattle.bits.proofs.Tabulate.{length_tabulate, get_d_tabulate, tabulated, zeros}
use Rattle.table.specs.State.{State}
use Rattle.masks.specs.Gathered.{own_objects, noted, gathered}

-- ---- a loop that notes the object o at mode x of the roles of w: those of m are left

abbrev placed : ℕ → ℕ → List ℕ → ℕ → ℕ → ℕ
placed x o l roles i = when eqb (i % 8) x and has roles (i / 8) then get_or l i 0 with o else get_or l i 0

pub record Noting (x o : ℕ) (old : List ℕ) (w : ℕ) (out : List ℕ) (m : ℕ) : Type 0 where
  pub word : m < 2 ^ 64
  pub long : length out ≡ 512
  pub left : (i : ℕ) → i < 512 → placed x o out m i ≡ placed x o old w i

module _ {x o : ℕ} {old : List ℕ} {w : ℕ} where
  pub note_start : w < 2 ^ 64 → length old ≡ 512 → Noting x o old w old w
  note_start h e = record { word = h; long = e; left = λ i l. refl }

  pub note_end : {out : List ℕ} {m : ℕ} → Noting x o old w out m → m ≡ 0 → out ≡ noted old w x o
  unfolding noted
  note_end {out} {m} k e = tabulated 512 _ k.long (λ i h. sym (if_false _ _ (and_false _ (ap (λ (y : ℕ). has y (i / 8)) e ∙ has_zero (i / 8)))) ∙ k.left i h)

  pub note_step : {out : List ℕ} {m q m' v : ℕ} → Noting x o old w out m → x < 8 → (m ≡ 0 → ⊥) → IsLowest m q → IsRest m m'
      → v ≡ get_or out (8 * q + x) 0 with o → Noting x o old w (set out (8 * q + x) v) m'
  note_step {out} {m} {q} {m'} {v} k hx n e d z =
      let b = e.below in
      let l = k.long in
      let other : (i : ℕ) → (i ≡ 8 * q + x → ⊥) → get_or (set out (8 * q + x) v) i 0 ≡ get_or out i 0 = λ i y. get_or-set_other out (8 * q + x) i v 0 y in
      record {
        word = let y = k.word in let c = d.less in omega arith;
        long = length-set out (8 * q + x) v ∙ l;
        left = λ i h.
            by_truth (eqb i (8 * q + x))
            (λ p.
            let y = eqb-true i (8 * q + x) p in
            let r : i / 8 ≡ q = omega arith in
            let c : i % 8 ≡ x = omega arith in
            if_false _ _ (and_false _ (ap (has m') r ∙ lowest_gone k.word n e d))
            ∙ ap (λ (j : ℕ). get_or (set out (8 * q + x) v) j 0) y
            ∙ get_or-set_same out (8 * q + x) v 0 (omega arith)
            ∙ z
            ∙ sym (ap (λ (j : ℕ). get_or out j 0 with o) y)
            ∙ sym (if_true _ _ (and_intro (eq-eqb (i % 8) x c) (ap (has m) r ∙ lowest_there k.word n e d))))
            (λ p.
            let y = eqb-false i (8 * q + x) p in
            by_truth (eqb (i % 8) x)
            (λ c.
            let a = eqb-true (i % 8) x c in
            ap₂ (λ (t : Bool) (u : ℕ). when eqb (i % 8) x and t then u with o else u)
            (others_left k.word n e d (i / 8) (omega arith) (λ r. y (omega arith)))
            (other i y))
            (λ c. if_false _ _ (false_and _ c) ∙ other i y ∙ sym (if_false _ _ (false_and _ c))))
            ∙ k.left i h;
      }

-- ---- a loop that gathers the objects of mode x: those of m are left

pub record Gathering (S : State) (x : ℕ) (out : List ℕ) (m : ℕ) : Type 0 where
  pub long : length out ≡ 512
  pub own : (i : ℕ) → i < 512 → i % 8 ≡ x → Picking (S.permitted x) (λ o. has (S.granted x o) (i / 8)) m (get_or out i 0)
  pub kept : (i : ℕ) → i < 512 → (i % 8 ≡ x → ⊥) → get_or out i 0 ≡ get_or (gathered S x) i 0

module _ (S : State) where
  gathered_at : (n i : ℕ) → i < 512 → get_or (gathered S n) i 0 ≡ when ltb (i % 8) n then own_objects S (i / 8) (i % 8) else 0
  unfolding gathered
  gathered_at n i h = get_d_tabulate 512 _ 0 i h

  length_gathered : (n : ℕ) → length (gathered S n) ≡ 512
  unfolding gathered
  length_gathered n = length_tabulate 512 _

module _ {S : State} {x : ℕ} where
  pub gather_start : {out : List ℕ} → out ≡ gathered S x → S.permitted x < 2 ^ 64 → Gathering S x out (S.permitted x)
  gather_start {out} e h = record {
    long = ap length e ∙ length_gathered S x;
    own = λ i l c. subst (Picking _ _ _) (sym (ap (λ (y : List ℕ). get_or y i 0) e ∙ gathered_at S x i l ∙ if_false _ _ (le-ltb (i % 8) x (omega arith)))) (pick_start h);
    kept = λ i l c. ap (λ (y : List ℕ). get_or y i 0) e;
  }

  -- an object is noted at its roles
  pub gather_step : {out out' : List ℕ} {m q m' : ℕ} → Gathering S x out m → (m ≡ 0 → ⊥) → IsLowest m q → IsRest m m'
      → out' ≡ noted out (S.granted x q) x q → Gathering S x out' m'
  unfolding noted
  gather_step {out} {out'} {m} {q} k n e d z =
      let at : (i : ℕ) → i < 512 → get_or out' i 0 ≡ placed x q out (S.granted x q) i =
      λ i l. ap (λ (y : List ℕ). get_or y i 0) z ∙ get_d_tabulate 512 _ 0 i l in
      record {
        long = ap length z ∙ length_tabulate 512 _;
        own = λ i l c.
            by_truth (has (S.granted x q) (i / 8))
            (λ h. pick_take (k.own i l c) n e d h (at i l ∙ if_true _ _ (and_intro (eq-eqb (i % 8) x c) h)))
            (λ h. subst (Picking _ _ _) (sym (at i l ∙ if_false _ _ (and_false _ h))) (pick_pass (k.own i l c) n e d h));
        kept = λ i l c. at i l ∙ if_false _ _ (false_and _ (ne_eqb (i % 8) x c)) ∙ k.kept i l c;
      }

  module _ {out : List ℕ} {m : ℕ} (k : Gathering S x out m) (e : m ≡ 0) where
    pub gather_end : out ≡ gathered S (x + 1)
    unfolding gathered
    gather_end =
        tabulated 512 _ k.long (λ i h.
        by_truth (eqb (i % 8) x)
        (λ b.
        let c = eqb-true (i % 8) x b in
        unfold own_objects in pick_end (k.own i h c) e
        ∙ ap (λ (y : ℕ). own_objects S (i / 8) y) (sym c)
        ∙ sym (if_true _ _ (lt-ltb (i % 8) (x + 1) (omega arith))))
        (λ b.
        let c = eqb-false (i % 8) x b in
        k.kept i h c ∙ gathered_at S x i h
        ∙ by_truth (ltb (i % 8) x)
        (λ l. let a = ltb-true (i % 8) x l in if_true _ _ l ∙ sym (if_true _ _ (lt-ltb (i % 8) (x + 1) (omega arith))))
        (λ l. let a = ltb-false (i % 8) x l in let y : x < i % 8 = omega (arith, c) in if_false _ _ l ∙ sym (if_false _ _ (le-ltb (i % 8) (x + 1) (omega arith))))))

-- before the first mode nothing is gathered
pub gathered_none : (S : State) → replicate 512 0 ≡ gathered S 0
unfolding gathered
gathered_none S = zeros 512 _ (λ i h. if_false _ _ (le-ltb (i % 8) 0 (omega arith)))
