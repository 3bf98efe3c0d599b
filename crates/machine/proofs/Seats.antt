-- Seats are told apart, and each has one user and one level. Assumes nothing.
use Prim.Native.Nat.{ℕ}
use mathlib.Core.Path.{◌≡◌, ap, subst}
use Rattle.machine.specs.Machine.{Seat, idle, at}

busy : Seat → Type 0
busy idle = Unit
busy (at u y) = ⊥

pub idle_at : (u y : ℕ) → idle ≡ at u y → ⊥
unfolding busy
idle_at u y e = subst busy e tt

user_of : Seat → ℕ
user_of idle = 0
user_of (at u y) = u

level_of : Seat → ℕ
level_of idle = 0
level_of (at u y) = y

module _ (u y v z : ℕ) (e : at u y ≡ at v z) where
  pub same_user_lem : u ≡ v
  unfolding user_of
  same_user_lem = ap user_of e

  pub same_level : y ≡ z
  unfolding level_of
  same_level = ap level_of e
