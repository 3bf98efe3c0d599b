-- What is claimed of the role set-up, each as the answer to a question. proofs/Claims.antt proves them.
use Rattle.std.specs.Prelude.{◌↔◌, ◌<◌, ◌≡◌}
use Rattle.bits.specs.Words.{ℕ, true, List, length}
use Rattle.table.specs.Table.{table_length}
use Rattle.sound.specs.Answers.{is_sound}
use Rattle.closure.specs.Closure.{Reaches}
use Rattle.setup.specs.SetUp.{role_set_up}

-- two different roles that reach each other
pub record Cycle (direct : List ℕ) : Type 0 where
  pub first : ℕ
  pub second : ℕ
  pub first_below : first < 64
  pub second_below : second < 64
  pub different : first ≡ second → ⊥
  pub there : Reaches direct first second
  pub back : Reaches direct second first

-- When is a set-up with lists of their lengths refused 20? Exactly when two different roles reach each other.
abbrev pub CycleRefused : Type 0
CycleRefused =
    (t direct permissions : List ℕ) → length t ≡ table_length → length direct ≡ 64 → length permissions ≡ 8
    → (role_set_up t direct permissions).answer ≡ 20 ↔ Cycle direct

-- Is the table of an accepted set-up sound? Always.
abbrev pub SetUpSound : Type 0
SetUpSound =
    (t direct permissions : List ℕ) → (role_set_up t direct permissions).answer ≡ 1
    → is_sound (role_set_up t direct permissions).state ≡ true

-- Does a refused set-up change anything? Nothing, in a list of any length.
abbrev pub SetUpRefused : Type 0
SetUpRefused =
    (t direct permissions : List ℕ) → ((role_set_up t direct permissions).answer ≡ 1 → ⊥)
    → (role_set_up t direct permissions).state ≡ t

-- Do the old contents of the table matter to an accepted set-up? Neither to the answer nor to the table.
abbrev pub OldContents : Type 0
OldContents =
    (t t' direct permissions : List ℕ) → length t ≡ length t' → (role_set_up t direct permissions).answer ≡ 1
    → role_set_up t direct permissions ≡ role_set_up t' direct permissions
