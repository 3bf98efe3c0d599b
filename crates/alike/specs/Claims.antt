-- What is claimed of likeness, each as the answer to a question. proofs/Claims.antt proves them, but for `OpenedAlike`
-- (proofs/Opening.antt) and `ActivationsDiffer` (proofs/Apart.antt).
use Rattle.std.specs.Prelude.{◌↔◌, ◌<◌, ◌≡◌, ◌∷◌}
use Rattle.bits.specs.Words.{ℕ, Bool, true, false, List, [], eqb, ◌and◌, ◌or◌}
use Rattle.table.specs.State.{State}
use Rattle.table.specs.Authority.{idle, authorised}
use Rattle.table.specs.Separation.{sets_empty}
use Rattle.table.specs.Reading.{state}
use Rattle.sound.specs.Answers.{is_sound}
use Rattle.requests.specs.Request.{Ask, ask}
use Rattle.rbac.specs.Guard.{role_step}
use Rattle.rbac.specs.Claims.{after}
use Rattle.alike.specs.Likeness.{same_state, likeness, Alike}

-- When are two states alike? Exactly when the facts of `Alike` hold.
abbrev pub AlikeMeans : Type 0
AlikeMeans = (S S' : State) → same_state S S' ≡ true ↔ Alike S S'

-- And two tables? Exactly when both are sound and their states are alike.
pub record AlikeTables (t t' : List ℕ) : Type 0 where
  pub first_sound : is_sound t ≡ true
  pub second_sound : is_sound t' ≡ true
  pub alike_states : Alike (state t) (state t')

abbrev pub LikenessMeans : Type 0
LikenessMeans = (t t' : List ℕ) → likeness t t' ≡ 1 ↔ AlikeTables t t'

-- Is a sound table like itself? Is likeness the same both ways? Does it go through a third table?
abbrev pub LikenessReflexive : Type 0
LikenessReflexive = (t : List ℕ) → is_sound t ≡ true → likeness t t ≡ 1

abbrev pub LikenessSymmetric : Type 0
LikenessSymmetric = (t t' : List ℕ) → likeness t t' ≡ 1 → likeness t' t ≡ 1

abbrev pub LikenessTransitive : Type 0
LikenessTransitive = (t t' t'' : List ℕ) → likeness t t' ≡ 1 → likeness t' t'' ≡ 1 → likeness t t'' ≡ 1

-- the answers to a list of requests, each on the table as the one before left it
unfoldable pub answers : List ℕ → List Ask → List ℕ
answers t [] = []
answers t (q ∷ qs) = (role_step t q).answer ∷ answers (role_step t q).state qs

-- every request is an opening or a closing, codes 1 and 2
unfoldable pub openings_only : List Ask → Bool
openings_only [] = true
openings_only (q ∷ qs) = (eqb q.code 1 or eqb q.code 2) and openings_only qs

-- both tables answer the list alike, and are alike after it
pub record ServedAlike (t t' : List ℕ) (qs : List Ask) : Type 0 where
  pub same_answers : answers t qs ≡ answers t' qs
  pub alike_after : likeness (after t qs) (after t' qs) ≡ 1

-- Do alike tables open the same? Every list of openings and closings, refused ones among them, gets the same answers from both,
-- and they are alike after it.
abbrev pub OpenedAlike : Type 0
OpenedAlike = (t t' : List ℕ) (qs : List Ask) → likeness t t' ≡ 1 → openings_only qs ≡ true → ServedAlike t t' qs

-- the two are alike, and role r is made active in session s of the first alone
pub record ActivatedApart (t t' : List ℕ) (s r : ℕ) : Type 0 where
  pub are_alike : likeness t t' ≡ 1
  pub first_yes : (role_step t (ask 5 s r 0)).answer ≡ 1
  pub second_no : (role_step t' (ask 5 s r 0)).answer ≡ 0

-- And activations? Not so: a session may belong to different users in the two. Here session s, idle in a table without separation
-- sets, is started without roles, in the one for user u, who is authorised for role r, in the other for user v, who is not.
abbrev pub ActivationsDiffer : Type 0
ActivationsDiffer =
    (t : List ℕ) (s u v r : ℕ) → s < 32 → u < 64 → v < 64 → r < 64 → is_sound t ≡ true → sets_empty (state t) ≡ true → idle (state t) s ≡ true
    → authorised (state t) u r ≡ true → authorised (state t) v r ≡ false
    → ActivatedApart (role_step t (ask 3 s u 0)).state (role_step t (ask 3 s v 0)).state s r
