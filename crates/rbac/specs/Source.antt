-- Table 1 of source 000 (§4.2.1), in its own terms: the state (m, user, UA, PA, roles) of §2.4, the effective permissions EP of
-- §2.5 and the transition for an opening (+) and a closing (-). Sets are tests of their elements.
use Rattle.std.specs.Prelude.{◌<◌, ◌≡◌}
use Rattle.bits.specs.Words.{ℕ, Bool, true, not, eqb, ◌and◌, ◌or◌, has}
use Rattle.bits.specs.Sets.{any}
use Rattle.table.specs.State.{State}
use Rattle.requests.specs.Request.{Outcome, decide}

pub record Sigma : Type 0 where
  -- (s, o, x) is a current access
  pub m : ℕ → ℕ → ℕ → Bool
  -- the user of a session, plus 1; 0 for none
  pub user : ℕ → ℕ
  -- user u is assigned role r
  pub UA : ℕ → ℕ → Bool
  -- role r is granted the permission (x, o)
  pub PA : ℕ → ℕ → ℕ → Bool
  -- role r is active in session s
  pub roles : ℕ → ℕ → Bool

-- the state of source 000 that a state of the table is
unfoldable pub sigma : State → Sigma
sigma S = record {
  m = λ s o x. has (S.holds s x) o;
  user = S.owner;
  UA = λ u r. has (S.assigned u) r;
  PA = λ x o r. has (S.granted x o) r;
  roles = λ s r. has (S.active s) r;
}

-- EP(s, PA, roles) has (x, o): some r ∈ roles(s) and some r'' ≤ r have ((x, o), r'') ∈ PA, for (x, o) ∈ P
unfoldable pub EP : (ℕ → ℕ → Bool) → (ℕ → ℕ → Bool) → Sigma → ℕ → ℕ → ℕ → Bool
EP P above σ s x o = P x o and any 64 (λ r. σ.roles s r and any 64 (λ q. above r q and σ.PA x o q))

-- m ∪ {(s, o, x)} and m \ {(s, o, x)}
unfoldable pub opened : Sigma → ℕ → ℕ → ℕ → Sigma
opened σ s o x = record {
  m = λ p q y. (eqb p s and eqb q o and eqb y x) or σ.m p q y;
  user = σ.user;
  UA = σ.UA;
  PA = σ.PA;
  roles = σ.roles;
}

unfoldable pub closed : Sigma → ℕ → ℕ → ℕ → Sigma
closed σ s o x = record {
  m = λ p q y. not (eqb p s and eqb q o and eqb y x) and σ.m p q y;
  user = σ.user;
  UA = σ.UA;
  PA = σ.PA;
  roles = σ.roles;
}

-- the transition of table 1 for ⟨+, s, o, x⟩ and for ⟨-, s, o, x⟩
unfoldable pub tau_open : (ℕ → ℕ → Bool) → (ℕ → ℕ → Bool) → Sigma → ℕ → ℕ → ℕ → Outcome Sigma
tau_open P above σ s o x = decide (EP P above σ s x o) 1 1 (opened σ s o x) σ

unfoldable pub tau_close : Sigma → ℕ → ℕ → ℕ → Outcome Sigma
tau_close σ s o x = decide true 1 1 (closed σ s o x) σ

-- the same state of source 000, over the users, roles, objects, sessions and modes that there are
pub record Same (σ σ' : Sigma) : Type 0 where
  pub m : (s o x : ℕ) → s < 32 → o < 64 → x < 8 → σ.m s o x ≡ σ'.m s o x
  pub user : (s : ℕ) → s < 32 → σ.user s ≡ σ'.user s
  pub UA : (u r : ℕ) → u < 64 → r < 64 → σ.UA u r ≡ σ'.UA u r
  pub PA : (x o r : ℕ) → x < 8 → o < 64 → r < 64 → σ.PA x o r ≡ σ'.PA x o r
  pub roles : (s r : ℕ) → s < 32 → r < 64 → σ.roles s r ≡ σ'.roles s r
