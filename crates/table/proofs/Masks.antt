-- Laws of the masks: when all are true, and what masks worked out anew are. Assumes nothing.
use Prim.Native.Nat.{ℕ, ◌<◌}
use mathlib.Core.Path.{◌≡◌, refl}
use mathlib.Core.Bool.{true, false}
use borrow.Author.Tests.{eqb-true, eq-eqb}
use Rattle.bits.proofs.Truth.{is_false}
use Rattle.bits.proofs.Below.{all_intro, all_elim}
use Rattle.bits.specs.Words.{has}
use Rattle.bits.proofs.Word.{has_pack}
use Rattle.table.specs.State.{State}
use Rattle.table.specs.Authority.{effective}
use Rattle.table.specs.Changes.{set_masks}
use Rattle.table.specs.Masks.{mask_of, masks_true, refreshed, MasksTrue}

module _ (S : State) where
  pub masks_elim : masks_true S ≡ true → MasksTrue S
  unfolding masks_true
  masks_elim e s x hs hx = eqb-true (S.masks s x) (mask_of S s x) (all_elim _ 8 (all_elim _ 32 e s hs) x hx)

  pub masks_intro : MasksTrue S → masks_true S ≡ true
  unfolding masks_true
  masks_intro f = all_intro _ 32 (λ s hs. all_intro _ 8 (λ x hx. eq-eqb (S.masks s x) (mask_of S s x) (f s x hs hx)))

  -- one that is not true
  pub masks_fail : (s x : ℕ) → s < 32 → x < 8 → (S.masks s x ≡ mask_of S s x → ⊥) → masks_true S ≡ false
  masks_fail s x hs hx n = is_false (λ e. n (masks_elim e s x hs hx))

  -- the members of a mask
  pub mask_has : (s x o : ℕ) → o < 64 → has (mask_of S s x) o ≡ effective S s x o
  unfolding mask_of
  mask_has s x o h = has_pack _ 64 o h

  pub refreshed_true : MasksTrue (refreshed S)
  unfolding mask_of effective
  refreshed_true s x hs hx = refl

-- a mask does not hang on the masks
pub mask_apart : (S : State) (f : ℕ → ℕ → ℕ) (s x : ℕ) → mask_of (set_masks S f) s x ≡ mask_of S s x
unfolding mask_of effective
mask_apart S f s x = refl
