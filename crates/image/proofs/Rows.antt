-- The direct juniors of the image's roles, worked out. Assumes nothing.
use Prim.Native.Nat.{ℕ, ◌+◌, ◌≤◌, ◌<◌}
use mathlib.Core.Path.{◌≡◌, refl, sym, ap, ◌∙◌}
use mathlib.Core.List.{List, [], ◌∷◌}
use native.Mathlib.Omega.{arith}
use lib.ListN.{length, get_or, drop, length-drop}
use Rattle.std.proofs.lemmas.List.{get_or-take, get_or-drop, length-take}
use borrow.Rule.Slice.PartMut.{mid_of}
use borrow.Author.Tests.{eq-eqb, eqb-true}
use Rattle.std.specs.Cmp.Lexicographic.{pointwise}
use Rattle.std.proofs.lemmas.Slice.Eq.{slice_eq-Decides}
use Rattle.std.proofs.lemmas.Bool.Decides.{Decides-eqb}
use mathlib.Core.Bool.{Bool, not}
use lib.Dec.{eqb}
use Rattle.bits.specs.Words.{◌and◌, ◌implies◌, when◌then◌else◌, has, all, subset, bit, pack, tabulate}
use Rattle.bits.specs.Sets.{◌without◌}
use Rattle.bits.proofs.Word.{has_pack, pack_cong}
use Rattle.bits.proofs.Tabulate.{get_d_tabulate, tabulated}
use Rattle.bits.proofs.Truth.{same_truth}
use Rattle.bits.proofs.Below.{all_intro, all_elim}
use Rattle.machine.specs.Label.{class, brands, stands, equal_or_above}
use Rattle.image.specs.Image.{above, permitted_objects}

-- the direct juniors of role r
abbrev pub linked : ℕ → ℕ
linked r = pack 64 (λ q. not (eqb q r) and above r q)

-- all juniors but the role
pub others_linked : (r : ℕ) → pack 64 (above r) without r ≡ linked r
unfolding ◌without◌
others_linked r = pack_cong 64 (λ q h. ap (λ (b : Bool). not (eqb q r) and b) (has_pack (above r) 64 q h))

abbrev pub rows : List ℕ
rows = 0 ∷ 1 ∷ 1 ∷ 7 ∷ 1 ∷ 19 ∷ 21 ∷ 127 ∷ 1 ∷ 259 ∷ 261 ∷ 1807 ∷ 273 ∷ 4915 ∷ 5461 ∷ 32767 ∷ 257 ∷ 66307 ∷ 66821 ∷ 462607 ∷ 69905 ∷ 1258291 ∷ 1398101 ∷ 8388607 ∷ 65793 ∷ 16974595 ∷ 17106181 ∷ 118427407 ∷ 17895697 ∷ 322122547 ∷ 357913941 ∷ 2147483647 ∷ 18446744065119617024 ∷ 12297829371019788288 ∷ 14757395238351798272 ∷ 9838263469328039936 ∷ 17361641408376602624 ∷ 11574427513958432768 ∷ 13889312906798956544 ∷ 9259541571362095104 ∷ 18446741874686296064 ∷ 12297826450442027008 ∷ 14757389981311827968 ∷ 9838254123479203840 ∷ 17361622854117883904 ∷ 11574391779830530048 ∷ 13889241988298964992 ∷ 9259400833873739776 ∷ 18446181123756130304 ∷ 12297078782535139328 ∷ 14756044179079430144 ∷ 9835861586177163264 ∷ 17356872963885891584 ∷ 11565243843087433728 ∷ 13871086852301127680 ∷ 9223372036854775808 ∷ 18302628885633695744 ∷ 12105675798371893248 ∷ 14411518807585587200 ∷ 9223372036854775808 ∷ 16140901064495857664 ∷ 9223372036854775808 ∷ 9223372036854775808 ∷ 0 ∷ []

-- worked out
pub rows_are : rows ≡ tabulate 64 linked
unfolding tabulate pack bit above when◌then◌else◌ ◌and◌ ◌implies◌ stands equal_or_above class brands subset all has
rows_are = refl

pub row_is : (r : ℕ) → r < 64 → get_or rows r 0 ≡ linked r
row_is r h = ap (λ (l : List ℕ). get_or l r 0) rows_are ∙ get_d_tabulate 64 linked 0 r h

-- words of a table compared with those that f lists
pub words_are : (t : List ℕ) (at n : ℕ) (f : ℕ → ℕ) {words : List ℕ} {r : Bool} → at + n ≤ length t → words ≡ tabulate n f
    → r ≡ pointwise eqb (mid_of at n t) words → r ≡ all n (λ i. eqb (get_or t (at + i) 0) (f i))
words_are t at n f {words} {r} h e c =
    let d = slice_eq-Decides Decides-eqb (mid_of at n t) words r c in
    let read = λ (i : ℕ) (l : i < n). get_or-take n (drop at t) i 0 l ∙ get_or-drop at t i 0 in
    same_truth
    (λ y. all_intro _ n (λ i l. eq-eqb _ _ (sym (read i l) ∙ ap (λ (k : List ℕ). get_or k i 0) (d.0 y ∙ e) ∙ get_d_tabulate n f 0 i l)))
    (λ y. d.1 (tabulated n f (simp (length-take, length-drop) (omega arith)) (λ i l. read i l ∙ eqb-true _ _ (all_elim _ n y i l)) ∙ sym e))

-- the objects permitted in each mode
abbrev pub masks : List ℕ
masks = 18446744073709551615 ∷ 18446744073709551615 ∷ 0 ∷ 0 ∷ 0 ∷ 0 ∷ 0 ∷ 0 ∷ []

pub masks_are : masks ≡ tabulate 8 permitted_objects
unfolding tabulate pack bit permitted_objects
masks_are = refl

pub mask_is : (x : ℕ) → x < 8 → get_or masks x 0 ≡ permitted_objects x
mask_is x h = ap (λ (l : List ℕ). get_or l x 0) masks_are ∙ get_d_tabulate 8 permitted_objects 0 x h
