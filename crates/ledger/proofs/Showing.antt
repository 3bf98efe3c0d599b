-- Which answers a transcript shows. Assumes nothing.
use Prim.Native.Nat.{ℕ, ◌≤◌, ◌<◌}
use mathlib.Core.Path.{◌≡◌, refl, ap, ◌∙◌}
use mathlib.Core.Bool.{true}
use mathlib.Core.List.{List}
use native.Mathlib.Omega.{arith}
use lib.Dec.{eqb, leb}
use lib.ListN.{length, get_or, set, length-set}
use lib.Seq.{get_or-set_same, get_or-set_other}
use borrow.Author.Tests.{eqb-true, eqb-false, le-leb, leb-true, lt-ltb, ltb-true}
use Rattle.std.specs.Prelude.{Result, Ok, Err}
use Rattle.bits.specs.Words.{◌and◌, ◌or◌}
use Rattle.bits.proofs.Truth.{by_truth, and_left, and_right, or_left, by_if, past, stopped}
use Rattle.bits.proofs.Below.{all_intro, all_elim}
use Rattle.table.specs.Table.{is_table}
use Rattle.table.specs.Reading.{state}
use Rattle.sound.specs.Answers.{is_sound}
use Rattle.sound.proofs.Answers.{sound_state, sound_table}
use Rattle.requests.specs.Request.{Ask, ask, Outcome, refuse, accept}
use Rattle.rbac.specs.Roles.{in_range, decode, known, allowed, changed}
use Rattle.rbac.specs.Guard.{role_step}
use Rattle.rbac.proofs.Codes.{is_code_lem, no_pair}
use Rattle.rbac.proofs.Serving.{served_known, served_unknown}
use Rattle.rbac.proofs.Guarding.{checked_argument, checked_served, role_step_sound}
use Rattle.closure.specs.Closure.{closure, acyclic}
use Rattle.setup.proofs.SetUp.{set_up_cycle, set_up_accepted}
use Rattle.image.specs.SetUp.{are_labels}
use Rattle.image.proofs.Accepting as image
use Rattle.entries.specs.Words.{fault_number, due_of}
use Rattle.entries.specs.declared.Mode.{Mode}
use Rattle.entries.specs.declared.Mode.TheVariants.{RoleMode, LatticeMode}
use Rattle.entries.specs.declared.Phase.{Phase}
use Rattle.entries.specs.declared.Phase.TheVariants.{SettingUp}
use Rattle.entries.specs.declared.Setting.{Setting}
use Rattle.entries.specs.declared.Setting.TheVariants.{Juniors, Permissions, Clearances, Labels}
use Rattle.entries.specs.declared.Fault.{Fault}
use Rattle.entries.specs.declared.Fault.TheVariants.{WrongForm, OutOfPlace}
use Rattle.entries.specs.declared.Due.{Due}
use Rattle.entries.specs.declared.Due.TheVariants.{Choose, Put, SetUp, Request}
use Rattle.ledger.specs.Store.{Store, with_phase, with_table, added, stored}
use Rattle.ledger.specs.Step.{guarded, asked, set_up_by, lifted, put, ran, performed, step}
use Rattle.ledger.specs.Claims.{SoundFor, SoundIn, StoreSound, shows, Proper, LineShows}
use Rattle.entries.proofs.Places.{most, Fits, due_fits}
use Rattle.ledger.proofs.Spending.{decided_small}
use Rattle.ledger.proofs.Lattice.{by_label}
use Rattle.ledger.proofs.Claims.{asked_sound, made_sound, made_same}

-- ---- lists of labels

pub labels_intro : (l : List ℕ) → ((i : ℕ) → i < 64 → get_or l i 0 < 32) → are_labels l ≡ true
unfolding are_labels
labels_intro l k = all_intro _ 64 (λ i h. lt-ltb _ 32 (k i h))

labels_elim : (l : List ℕ) → are_labels l ≡ true → (i : ℕ) → i < 64 → get_or l i 0 < 32
unfolding are_labels
labels_elim l a i h = ltb-true _ 32 (all_elim _ 64 a i h)

-- ---- numbers that are shown

shows_small : (n : ℕ) → n ≤ 1 → shows n ≡ true
unfolding shows
shows_small n h = or_left _ (le-leb n 1 h)

shows_as : {o o' : Outcome (List ℕ)} → o ≡ o' → shows o'.answer ≡ true → shows o.answer ≡ true
shows_as e h = ap (λ (p : Outcome (List ℕ)). shows p.answer) e ∙ h

-- the refusals that are shown
listed : (shows 10 ≡ true) × (shows 11 ≡ true) × (shows 16 ≡ true) × (shows 17 ≡ true) × (shows 19 ≡ true) × (shows 20 ≡ true)
unfolding shows ◌or◌
listed = (refl, refl, refl, refl, refl, refl)

shows_fault : (f : Fault) → shows (fault_number f) ≡ true
shows_fault WrongForm = listed.0
shows_fault OutOfPlace = listed.1

-- ---- requests and set-ups

role_shows : (t : List ℕ) (q : Ask) → is_sound t ≡ true → 1 ≤ q.code → q.code ≤ 10 → shows (role_step t q).answer ≡ true
role_shows t q s l h =
    let e = role_step_sound t q (sound_table t s) (sound_state t s) in
    let c = is_code_lem q l (omega arith) in
    by_truth (in_range q)
    (λ r.
    let d = e ∙ checked_served allowed changed t q c r (no_pair q h) in
    by_truth (known (state t) (decode q))
    (λ k. shows_small _ (decided_small (allowed (state t) (decode q)) _ _ _ _ (d ∙ served_known allowed changed t (decode q) k)))
    (λ k. shows_as (d ∙ served_unknown allowed changed t (decode q) k) listed.3))
    (λ r. shows_as (e ∙ checked_argument allowed changed t q c r) listed.2)

asked_shows : (m : Mode) (t : List ℕ) (q : Ask) → SoundFor m t → 1 ≤ q.code → q.code ≤ most m → shows (asked guarded m t q).answer ≡ true
unfolding asked guarded SoundFor
asked_shows RoleMode t q s l h = role_shows t q s l h
asked_shows LatticeMode t q s l h = by_label t q s l h (λ e. shows_as e listed.2) (λ b y n new old e. shows_small _ (decided_small b y n new old e))

made_shows : (d : Store) (m : Mode) → Proper d → shows (set_up_by m d).answer ≡ true
unfolding set_up_by
made_shows d RoleMode p =
    by_truth (acyclic (closure d.juniors))
    (λ a. shows_as (set_up_accepted d.table d.juniors d.permissions p.table p.juniors p.permissions a) (shows_small 1 (omega arith)))
    (λ a. shows_as (set_up_cycle d.table d.juniors d.permissions p.table p.juniors p.permissions a) listed.5)
made_shows d LatticeMode p =
    shows_as (image.set_up_accepted d.table d.clearances d.labels p.table p.clearances p.labels p.clearances_known p.labels_known) (shows_small 1 (omega arith))

sound_is_table : (m : Mode) (t : List ℕ) → SoundFor m t → is_table t ≡ true
unfolding SoundFor
sound_is_table RoleMode t s = sound_table t s
sound_is_table LatticeMode t s = sound_table t s.0

made_table : (d : Store) (m : Mode) → Proper d → is_table (set_up_by m d).state ≡ true
made_table d m p =
    by_truth (eqb (set_up_by m d).answer 1)
    (λ e. sound_is_table m _ (made_sound d m (eqb-true _ 1 e)))
    (λ e. ap is_table (made_same d m (eqb-false _ 1 e)) ∙ p.table)

-- ---- set-up lines

added_shown : (l : List ℕ) (last i v : ℕ) → (shows (added l last i v).answer ≡ true) × (length (added l last i v).state ≡ length l)
unfolding added
added_shown l last i v =
    by_if (λ (o : Outcome (List ℕ)). (shows o.answer ≡ true) × (length o.state ≡ length l)) _
    (λ e. (listed.4, refl)) (λ e. (shows_small 1 (omega arith), length-set l i _))

-- a list of labels as it should be
abbrev Labelled : List ℕ → Type 0
Labelled l = (length l ≡ 64) × (are_labels l ≡ true)

-- it stays one
set_labels : (l : List ℕ) (i v : ℕ) → Labelled l → i ≤ 63 → v ≤ 31 → Labelled (set l i v)
set_labels l i v k hi hv = (
  length-set l i v ∙ k.0,
  labels_intro _ (λ j h. by_truth (eqb j i)
      (λ e. rw (eqb-true j i e, get_or-set_same l i v 0 (omega (arith, k.0))) (omega arith))
      (λ e. rw (get_or-set_other l i j v 0 (eqb-false j i e)) (labels_elim l k.1 j h))),
)

stored_shown : (l : List ℕ) (i v : ℕ) → Labelled l → (shows (stored l i v).answer ≡ true) × Labelled (stored l i v).state
unfolding stored
stored_shown l i v k =
    by_truth (leb i 63 and leb v 31)
    (λ b. rw (past (refuse 19 l) (accept (set l i v)) b) (shows_small 1 (omega arith), set_labels l i v k (leb-true i 63 (and_left _ _ b)) (leb-true v 31 (and_right (leb i 63) _ b))))
    (λ b. rw (stopped (refuse 19 l) (accept (set l i v)) b) (listed.4, k))

-- ---- what is due

abbrev Shown : Outcome Store → Type 0
Shown o = (shows o.answer ≡ true) × Proper o.state

proper : (d : Store) → is_table d.table ≡ true → length d.juniors ≡ 64 → length d.permissions ≡ 8 → Labelled d.clearances → Labelled d.labels → Proper d
proper d t j p c l = record {
  table = t;
  juniors = j;
  permissions = p;
  clearances = c.0;
  labels = l.0;
  clearances_known = c.1;
  labels_known = l.1;
}

module _ (d : Store) (p : Proper d) where
  with_table_lem : (ph : Phase) (t : List ℕ) → is_table t ≡ true → Proper (with_phase (with_table d t) ph)
  with_table_lem ph t i = proper _ i p.juniors p.permissions (p.clearances, p.clearances_known) (p.labels, p.labels_known)

  put_shown : (s : Setting) (a b : ℕ) → Shown (put d s a b)
  unfolding put lifted
  put_shown Juniors a b =
      let k = added_shown d.juniors 63 a b in
      (k.0, proper _ p.table (k.1 ∙ p.juniors) p.permissions (p.clearances, p.clearances_known) (p.labels, p.labels_known))
  put_shown Permissions a b =
      let k = added_shown d.permissions 7 a b in
      (k.0, proper _ p.table p.juniors (k.1 ∙ p.permissions) (p.clearances, p.clearances_known) (p.labels, p.labels_known))
  put_shown Clearances a b =
      let k = stored_shown d.clearances a b (p.clearances, p.clearances_known) in
      (k.0, proper _ p.table p.juniors p.permissions k.1 (p.labels, p.labels_known))
  put_shown Labels a b =
      let k = stored_shown d.labels a b (p.labels, p.labels_known) in
      (k.0, proper _ p.table p.juniors p.permissions (p.clearances, p.clearances_known) k.1)

due_shown : (d : Store) (x : Result Due Fault) → StoreSound d → Proper d → Fits d.phase x → Shown (performed guarded d x)
unfolding performed lifted ran SoundIn
due_shown d (Err f) s p t = (shows_fault f, p)
due_shown d (Ok (Choose m)) s p t = (shows_small 1 (omega arith), with_table_lem d p (SettingUp m) d.table p.table)
due_shown d (Ok (Put l i v)) s p t = put_shown d p l i v
due_shown d (Ok (SetUp m)) s p t = (made_shows d m p, with_table_lem d p _ _ (made_table d m p))
due_shown d (Ok (Request m code a b c)) s p t =
    let r : SoundFor m d.table = rw t.0 at s in
    let q = ask code a b c in
    (asked_shows m d.table q r t.1 t.2, with_table_lem d p d.phase _ (sound_is_table m _ (asked_sound m d.table q r)))

pub line_shows : LineShows
unfolding step
line_shows d l s p = due_shown d (due_of d.phase l) s p (due_fits d.phase l)
