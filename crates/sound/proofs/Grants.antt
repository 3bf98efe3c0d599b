-- The grants of one mode: every pair by itself, and none at all. Assumes nothing.
use Prim.Native.Nat.{ℕ, ◌^◌, ◌<◌}
use mathlib.Core.Path.{◌≡◌}
use mathlib.Core.Bool.{true}
use lib.Dec.{eqb}
use Rattle.bits.specs.Words.{all}
use Rattle.bits.proofs.Truth.{or_left}
use Rattle.bits.proofs.Below.{all_elim, all_intro}
use Rattle.table.specs.State.{State}
use Rattle.table.specs.Sound.{Ruled}
use Rattle.sound.specs.Tests.{grant_fits, grants_fit}
use Rattle.sound.proofs.Items.{sound_grant}

module _ (S : State) (x : ℕ) where
  pub none_fits : all 64 (λ o. eqb (S.granted x o) 0) ≡ true → grants_fit S x ≡ true
  unfolding grants_fit grant_fits
  none_fits e = all_intro _ 64 (λ o h. or_left _ (all_elim _ 64 e o h))

  pub sound_grants : Ruled S → ((o : ℕ) → S.granted x o < 2 ^ 64) → x < 8 → grants_fit S x ≡ true
  unfolding grants_fit
  sound_grants f w hx = all_intro _ 64 (λ o h. sound_grant S f x o (w o) hx h)

  pub each_grant : grants_fit S x ≡ true → (o : ℕ) → o < 64 → grant_fits S x o ≡ true
  unfolding grants_fit
  each_grant e o h = all_elim _ 64 e o h
