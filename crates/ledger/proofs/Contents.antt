-- The old contents of the table do not matter: of two stores that differ in them alone a line shows the same, and an accepted
-- `run` writes the same table in both. Assumes nothing.
use Prim.Native.Nat.{ℕ}
use mathlib.Core.Path.{◌≡◌, refl, ap}
use mathlib.Core.List.{List}
use borrow.Author.Tests.{eq-eqb, ne_eqb}
use Rattle.bits.proofs.Truth.{if_true, if_false}
use Rattle.table.specs.Table.{is_table}
use Rattle.requests.specs.Request.{Ask, ask, Outcome, refuse, accept}
use Rattle.std.specs.Prelude.{Option, Result, Ok, Err}
use Rattle.reader.specs.declared.Line.{Line}
use Rattle.entries.specs.Words.{due_of}
use Rattle.entries.specs.declared.Mode.{Mode}
use Rattle.entries.specs.declared.Mode.TheVariants.{RoleMode, LatticeMode}
use Rattle.entries.specs.declared.Phase.{Phase}
use Rattle.entries.specs.declared.Phase.TheVariants.{Opening, SettingUp, Running}
use Rattle.entries.specs.declared.Setting.{Setting}
use Rattle.entries.specs.declared.Setting.TheVariants.{Juniors, Permissions, Clearances, Labels}
use Rattle.entries.specs.declared.Fault.{Fault}
use Rattle.entries.specs.declared.Due.{Due}
use Rattle.entries.specs.declared.Due.TheVariants.{Choose, Put, SetUp, Request}
use Rattle.ledger.specs.Store.{Store, with_table}
use Rattle.ledger.specs.Step.{guarded, asked, set_up_by, lifted, put, phase_after, ran, performed, step}
use Rattle.entries.proofs.Places.{Fits, due_fits}
use Rattle.ledger.proofs.Spending.{by_set_up}
use Rattle.ledger.proofs.Lattice.{by_label_set_up}

-- the tables of two such stores: of any contents before an accepted `run`, and equal behind it
abbrev pub SameIn : Phase → List ℕ → List ℕ → Type 0
SameIn Opening t u = is_table t ≡ is_table u
SameIn (SettingUp m) t u = is_table t ≡ is_table u
SameIn (Running m) t u = t ≡ u

-- two outcomes show the same, and leave stores that differ in the table alone
pub record Matches (o p : Outcome Store) : Type 0 where
  pub answers : o.answer ≡ p.answer
  pub spends : o.spent ≡ p.spent
  pub stores : p.state ≡ with_table o.state p.state.table
  pub tables : SameIn o.state.phase o.state.table p.state.table

module _ (d : Store) (u : List ℕ) where
  abbrev other : Store
  other = with_table d u

  put_matches : (s : Setting) (i v : ℕ) → SameIn d.phase d.table u → Matches (put d s i v) (put other s i v)
  unfolding put lifted
  put_matches Juniors i v h = record { answers = refl; spends = refl; stores = refl; tables = h }
  put_matches Permissions i v h = record { answers = refl; spends = refl; stores = refl; tables = h }
  put_matches Clearances i v h = record { answers = refl; spends = refl; stores = refl; tables = h }
  put_matches Labels i v h = record { answers = refl; spends = refl; stores = refl; tables = h }

  by_made : {A : Type 0} (m : Mode) → is_table d.table ≡ is_table u
      → ((n : ℕ) → (n ≡ 1 → ⊥) → set_up_by m d ≡ refuse n d.table → set_up_by m other ≡ refuse n u → A)
      → ((new : List ℕ) → set_up_by m d ≡ accept new → set_up_by m other ≡ accept new → A) → A
  unfolding set_up_by
  by_made RoleMode e f g = by_set_up d.table u d.juniors d.permissions e f g
  by_made LatticeMode e f g = by_label_set_up d.table u d.clearances d.labels e f g

  ran_matches : (m : Mode) → is_table d.table ≡ is_table u → Matches (ran d m (set_up_by m d)) (ran other m (set_up_by m other))
  unfolding ran lifted phase_after
  ran_matches m e =
      by_made m e
      (λ n k a b. rw (a, b) (record {
        answers = refl;
        spends = refl;
        stores = refl;
        tables = rw (if_false (Running m) (SettingUp m) (ne_eqb n 1 k)) e;
      }))
      (λ new a b. rw (a, b) (record {
        answers = refl;
        spends = refl;
        stores = refl;
        tables = rw (if_true (Running m) (SettingUp m) (eq-eqb 1 1 refl)) refl;
      }))

  asked_matches : (m : Mode) (q : Ask) → d.phase ≡ Running m → d.table ≡ u
      → Matches (lifted (with_table d) (asked guarded m d.table q)) (lifted (with_table other) (asked guarded m u q))
  unfolding lifted
  asked_matches m q p e = record {
    answers = ap (λ (t : List ℕ). (asked guarded m t q).answer) e;
    spends = ap (λ (t : List ℕ). (asked guarded m t q).spent) e;
    stores = refl;
    tables = rw p (ap (λ (t : List ℕ). (asked guarded m t q).state) e);
  }

  due_matches : (x : Result Due Fault) → SameIn d.phase d.table u → Fits d.phase x → Matches (performed guarded d x) (performed guarded other x)
  unfolding performed
  due_matches (Err f) h p = record { answers = refl; spends = refl; stores = refl; tables = h }
  due_matches (Ok (Choose m)) h p = record { answers = refl; spends = refl; stores = refl; tables = rw p at h }
  due_matches (Ok (Put s i v)) h p = put_matches s i v h
  due_matches (Ok (SetUp m)) h p = ran_matches m (rw p at h)
  due_matches (Ok (Request m code a b c)) h p = asked_matches m (ask code a b c) p.0 (rw p.0 at h)

  pub line_matches : (l : Option Line) → SameIn d.phase d.table u → Matches (step guarded d l) (step guarded other l)
  unfolding step
  line_matches l h = due_matches (due_of d.phase l) h (due_fits d.phase l)
