-- The claims of specs/Claims.antt: by what is due for the line. Assumes nothing.
use Prim.Native.Nat.{ℕ, ◌<◌}
use mathlib.Core.Path.{◌≡◌, refl, sym, ap, ap₂, ◌∙◌}
use mathlib.Core.Bool.{Bool, not}
use mathlib.Core.List.{List}
use native.Mathlib.Omega.{arith}
use lib.Dec.{leb}
use Rattle.std.specs.Prelude.{Result, Ok, Err}
use borrow.Author.Tests.{eqb-true, ne_eqb}
use Rattle.bits.specs.Words.{◌and◌, when◌then◌else◌}
use Rattle.bits.proofs.Truth.{if_false, by_if}
use Rattle.requests.specs.Request.{Ask, ask, Outcome, refuse, accept}
use Rattle.rbac.specs.Guard.{role_step}
use Rattle.rbac.proofs.Steps.{by_step, decided, step_sound}
use Rattle.rbac.proofs.Claims.{served_same}
use Rattle.setup.proofs.Claims.{set_up_sound, set_up_refused}
use Rattle.entries.specs.Words.{due_of}
use Rattle.entries.specs.declared.Mode.{Mode}
use Rattle.entries.specs.declared.Mode.TheVariants.{RoleMode, LatticeMode}
use Rattle.entries.specs.declared.Phase.{Phase}
use Rattle.entries.specs.declared.Phase.TheVariants.{Opening, SettingUp, Running}
use Rattle.entries.specs.declared.Setting.{Setting}
use Rattle.entries.specs.declared.Setting.TheVariants.{Juniors, Permissions, Clearances, Labels}
use Rattle.entries.specs.declared.Fault.{Fault}
use Rattle.entries.specs.declared.Due.{Due}
use Rattle.entries.specs.declared.Due.TheVariants.{Choose, Put, SetUp, Request}
use Rattle.ledger.specs.Store.{Store, with_phase, with_table, with_juniors, with_permissions, with_clearances, with_labels, added, stored}
use Rattle.ledger.specs.Step.{guarded, unguarded, asked, set_up_by, lifted, put, phase_after, ran, performed, step}
use Rattle.ledger.specs.Claims.{SoundFor, SoundIn, StoreSound, StaysSound, ServedSame, RefusedLeaves}
use Rattle.entries.proofs.Places.{Fits, due_fits}
use Rattle.ledger.proofs.Spending.{decided_small, set_up_spends}
use Rattle.ledger.proofs.Lattice.{label_same, label_sound, label_refused, label_set_up_sound, label_set_up_refused, label_set_up_spends}

-- ---- requests and set-ups of either mode

asked_same : (m : Mode) (t : List ℕ) (q : Ask) → SoundFor m t → asked unguarded m t q ≡ asked guarded m t q
unfolding SoundFor asked guarded unguarded
asked_same RoleMode t q s = served_same t q s
asked_same LatticeMode t q s = label_same t q s

pub asked_sound : (m : Mode) (t : List ℕ) (q : Ask) → SoundFor m t → SoundFor m (asked guarded m t q).state
unfolding SoundFor asked guarded
asked_sound RoleMode t q s = step_sound t q s
asked_sound LatticeMode t q s = label_sound t q s

-- no refusal, or one that leaves what it was for
abbrev Leaves : {S : Type 0} → S → Outcome S → Type 0
Leaves old o = 1 < o.answer → (o.state ≡ old) × (o.spent ≡ 0)

role_refused : (t : List ℕ) (q : Ask) → Leaves t (role_step t q)
role_refused t q h =
    by_step t q
    (λ n k e. (ap (λ (o : Outcome (List ℕ)). o.state) e, ap (λ (o : Outcome (List ℕ)). o.spent) e))
    (λ p. absurd (omega (arith, decided_small _ _ _ _ _ (decided t q p))))

asked_refused : (m : Mode) (t : List ℕ) (q : Ask) → SoundFor m t → Leaves t (asked guarded m t q)
unfolding SoundFor asked guarded
asked_refused RoleMode t q s h = role_refused t q h
asked_refused LatticeMode t q s h = label_refused t q s h

module _ (d : Store) where
  pub made_sound : (m : Mode) → (set_up_by m d).answer ≡ 1 → SoundFor m (set_up_by m d).state
  unfolding SoundFor set_up_by
  made_sound RoleMode a = set_up_sound d.table d.juniors d.permissions a
  made_sound LatticeMode a = label_set_up_sound d.table d.clearances d.labels a

  pub made_same : (m : Mode) → ((set_up_by m d).answer ≡ 1 → ⊥) → (set_up_by m d).state ≡ d.table
  unfolding set_up_by
  made_same RoleMode h = set_up_refused d.table d.juniors d.permissions h
  made_same LatticeMode h = label_set_up_refused d.table d.clearances d.labels h

  made_spends : (m : Mode) → 0 ≡ (set_up_by m d).spent
  unfolding set_up_by
  made_spends RoleMode = set_up_spends d.table d.juniors d.permissions
  made_spends LatticeMode = label_set_up_spends d.table d.clearances d.labels

-- ---- the table stays sound

pub opening_sound : (t : List ℕ) → SoundIn Opening t
unfolding SoundIn
opening_sound t = tt

put_sound : (d : Store) (s : Setting) (a b : ℕ) → StoreSound d → StoreSound (put d s a b).state
unfolding put lifted
put_sound d Juniors a b h = h
put_sound d Permissions a b h = h
put_sound d Clearances a b h = h
put_sound d Labels a b h = h

ran_sound : (d : Store) (m : Mode) (o : Outcome (List ℕ)) → (o.answer ≡ 1 → SoundFor m o.state) → StoreSound (ran d m o).state
unfolding ran lifted phase_after SoundIn
ran_sound d m o f = by_if (λ (p : Phase). SoundIn p o.state) _ (λ e. f (eqb-true _ _ e)) (λ e. tt)

due_sound : (d : Store) (x : Result Due Fault) → StoreSound d → Fits d.phase x → StoreSound (performed guarded d x).state
unfolding performed lifted SoundIn
due_sound d (Err f) h p = h
due_sound d (Ok (Choose m)) h p = tt
due_sound d (Ok (Put s i v)) h p = put_sound d s i v h
due_sound d (Ok (SetUp m)) h p = ran_sound d m (set_up_by m d) (made_sound d m)
due_sound d (Ok (Request m code a b c)) h p =
    rw p.0 (asked_sound m d.table (ask code a b c) (rw p.0 at h))

pub stays_sound : StaysSound
unfolding step
stays_sound d l h = due_sound d (due_of d.phase l) h (due_fits d.phase l)

-- ---- the same without the soundness test

due_same : (d : Store) (x : Result Due Fault) → StoreSound d → Fits d.phase x → performed unguarded d x ≡ performed guarded d x
unfolding performed SoundIn
due_same d (Err f) h p = refl
due_same d (Ok (Choose m)) h p = refl
due_same d (Ok (Put s i v)) h p = refl
due_same d (Ok (SetUp m)) h p = refl
due_same d (Ok (Request m code a b c)) h p =
    let s : SoundIn (Running m) d.table = rw p.0 at h in
    ap (lifted (with_table d)) (asked_same m d.table (ask code a b c) s)

pub line_same : ServedSame
unfolding step
line_same d l h = due_same d (due_of d.phase l) h (due_fits d.phase l)

-- ---- a refused line

chosen_leaves : (b : Bool) (l k : List ℕ) → Leaves l (when not b then refuse 19 l else accept k)
chosen_leaves b l k = by_if (Leaves l) (not b) (λ e h. (refl, refl)) (λ e h. absurd (omega arith))

added_refused : (l : List ℕ) (last i v : ℕ) → Leaves l (added l last i v)
unfolding added
added_refused l last i v = chosen_leaves (leb i last and leb v 63) l _

stored_refused : (l : List ℕ) (i v : ℕ) → Leaves l (stored l i v)
unfolding stored
stored_refused l i v = chosen_leaves (leb i 63 and leb v 31) l _

lifted_leaves : (f : List ℕ → Store) {l : List ℕ} {o : Outcome (List ℕ)} → Leaves l o → Leaves (f l) (lifted f o)
unfolding lifted
lifted_leaves f k h = let r = k h in (ap f r.0, r.1)

put_refused : (d : Store) (s : Setting) (a b : ℕ) → Leaves d (put d s a b)
unfolding put
put_refused d Juniors a b = lifted_leaves (with_juniors d) (added_refused d.juniors 63 a b)
put_refused d Permissions a b = lifted_leaves (with_permissions d) (added_refused d.permissions 7 a b)
put_refused d Clearances a b = lifted_leaves (with_clearances d) (stored_refused d.clearances a b)
put_refused d Labels a b = lifted_leaves (with_labels d) (stored_refused d.labels a b)

ran_refused : (d : Store) (m : Mode) (o : Outcome (List ℕ)) → d.phase ≡ SettingUp m → (1 < o.answer → o.state ≡ d.table) → 0 ≡ o.spent → Leaves d (ran d m o)
unfolding ran lifted phase_after
ran_refused d m o p t z h =
    let q : phase_after m o.answer ≡ d.phase = if_false _ _ (ne_eqb o.answer 1 (λ e. omega arith)) ∙ sym p in
    (ap₂ (λ (x : List ℕ) (y : Phase). with_phase (with_table d x) y) (t h) q, sym z)

due_left : (d : Store) (x : Result Due Fault) → StoreSound d → Fits d.phase x → Leaves d (performed guarded d x)
unfolding performed SoundIn
due_left d (Err f) s p h = (refl, refl)
due_left d (Ok (Choose m)) s p h = absurd (omega arith)
due_left d (Ok (Put l i v)) s p h = put_refused d l i v h
due_left d (Ok (SetUp m)) s p h = ran_refused d m (set_up_by m d) p (λ k. made_same d m (λ e. omega arith)) (made_spends d m) h
due_left d (Ok (Request m code a b c)) s p h = lifted_leaves (with_table d) (asked_refused m d.table (ask code a b c) (rw p.0 at s)) h

pub refused_leaves : RefusedLeaves
unfolding step
refused_leaves d l s h =
    let r = due_left d (due_of d.phase l) s (due_fits d.phase l) h in
    record { unchanged = r.0; no_spending = r.1 }
