-- RBAC96 (source 000) and what 02 adds to it: users, roles and objects 0 to 63, sessions 0 to 31, modes 0 to 7 (01). A set is a word.
use Rattle.bits.specs.Words.{ℕ}

pub record State : Type 0 where
  pub juniors : ℕ → ℕ  -- of role r: the roles that r is senior to, and r
  pub permitted : ℕ → ℕ  -- of mode x: the objects o for which (x, o) is a permission
  pub assigned : ℕ → ℕ  -- of user u: the roles assigned to u
  pub granted : ℕ → ℕ → ℕ  -- of mode x and object o: the roles granted (x, o)
  pub owner : ℕ → ℕ  -- of session s: 0 when s is idle, else its user plus 1
  pub active : ℕ → ℕ  -- of session s: its active roles
  pub holds : ℕ → ℕ → ℕ  -- of session s and mode x: the objects that s holds open in mode x
  pub sets : ℕ → ℕ  -- of pair n, static set n or, from 16 on, dynamic set n - 16 (02, S-4): at 2 n its roles, at 2 n + 1 its bound
  pub direct : ℕ → ℕ  -- of role r: its direct juniors as given, without r (02, S-5)
  pub masks : ℕ → ℕ → ℕ  -- of session s and mode x: the objects that s may open in mode x (02, S-6)
