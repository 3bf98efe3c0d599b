-- What is claimed of the definitions themselves, each as the answer to a question. proofs/Claims.antt proves them.
use Rattle.std.specs.Prelude.{◌↔◌, ◌^◌, ◌<◌, ◌≡◌}
use Rattle.bits.specs.Words.{ℕ, true, List, has}
use Rattle.table.specs.State.{State}
use Rattle.bits.specs.Sets.{◌without◌}
use Rattle.closure.specs.Closure.{Reaches}
use Rattle.table.specs.Authority.{senior, authorised, effective, Authorised, Effective}
use Rattle.table.specs.Seniority.{links, Linked}
use Rattle.table.specs.Separation.{separated, Separated}
use Rattle.table.specs.Masks.{refreshed}
use Rattle.table.specs.Table.{is_table, encode}
use Rattle.table.specs.Reading.{state}
use Rattle.table.specs.Sound.{reflexive, transitive, ruled, sound, Sound}

-- Does a table hold anything besides the state that it shows? Not one word: two tables that show the same state are the same.
abbrev pub TableIsState : Type 0
TableIsState = (t : List ℕ) → is_table t ≡ true → encode (state t) ≡ t

-- When is a role authorised for a user? Exactly when some role assigned to the user is senior to it or is it.
abbrev pub AuthorisedMeans : Type 0
AuthorisedMeans = (S : State) (u q : ℕ) → authorised S u q ≡ true ↔ Authorised S u q

-- When is a pair effective for a session? Exactly when it is a permission, granted to an active role or to a junior of one.
abbrev pub EffectiveMeans : Type 0
EffectiveMeans = (S : State) (s x o : ℕ) → effective S s x o ≡ true ↔ Effective S s x o

-- Which roles is a role of a sound state senior to? Exactly those that a chain of the state's links reaches (02, S-5); a chain of
-- none reaches the role itself.
abbrev pub SeniorityMeans : Type 0
SeniorityMeans = (S : State) (r q : ℕ) → sound S ≡ true → r < 64 → q < 64 → senior S r q ≡ true ↔ Reaches (links S.direct) r q

-- Which links make a seniority that is there already? Every junior but the role itself will do, as in a label image (02, S-5).
abbrev pub EveryJuniorLinked : Type 0
EveryJuniorLinked =
    (S : State) → ((r : ℕ) → r < 64 → S.juniors r < 2 ^ 64) → reflexive S ≡ true → transitive S ≡ true
    → Linked S.juniors (λ r. S.juniors r without r)

-- When is a state separated? Exactly when the facts of `Separated` hold: of every pair that is not empty, that the bound is at
-- least 2 and at most the number of its roles, and that no user's authorised roles, or no session's active ones, include as many.
abbrev pub SeparatedMeans : Type 0
SeparatedMeans = (S : State) → separated S ≡ true ↔ Separated S

-- When is a state sound? Exactly when all the facts of `Sound` hold.
abbrev pub SoundMeans : Type 0
SoundMeans = (S : State) → sound S ≡ true ↔ Sound S

-- What does a mask of a sound state say? Its members are exactly the objects that are effective for the session in the mode (02, S-6).
abbrev pub MaskMeans : Type 0
MaskMeans = (S : State) (s x o : ℕ) → sound S ≡ true → s < 32 → x < 8 → o < 64 → has (S.masks s x) o ≡ true ↔ Effective S s x o

-- Is a state that is sound but for its masks sound with those worked out from it? Yes (02, S-6); with no others, by `SoundMeans`.
abbrev pub RefreshedSound : Type 0
RefreshedSound = (S : State) → ruled S ≡ true → sound (refreshed S) ≡ true
