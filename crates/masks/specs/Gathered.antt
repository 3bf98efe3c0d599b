-- What the private functions answer and leave. No promise rests on this page.
use Rattle.std.specs.Prelude.{◌+◌, ◌*◌, ◌/◌, ◌%◌, ◌≡◌}
use Rattle.bits.specs.Words.{ℕ, List, eqb, ltb, get_or, ◌and◌, when◌then◌else◌, has, pack, ◌with◌, tabulate}
use Rattle.bits.specs.Sets.{some, overlap, join}
use Rattle.table.specs.State.{State}
use Rattle.table.specs.Authority.{permission}
use Rattle.table.specs.Masks.{mask_of}

-- the objects of mode x whose permission is granted to role q
unfoldable pub own_objects : State → ℕ → ℕ → ℕ
own_objects S q x = pack 64 (λ o. permission S x o and has (S.granted x o) q)

-- the list with the object o noted at mode x of each of the roles
unfoldable pub noted : List ℕ → ℕ → ℕ → ℕ → List ℕ
noted objects roles x o =
    tabulate 512 (λ i. when eqb (i % 8) x and has roles (i / 8) then get_or objects i 0 with o else get_or objects i 0)

-- the objects of each role, of the modes below n: those of role q and mode x at 8 q + x
unfoldable pub gathered : State → ℕ → List ℕ
gathered S n = tabulate 512 (λ i. when ltb (i % 8) n then own_objects S (i / 8) (i % 8) else 0)

-- the words of each mode joined with those of role q
unfoldable pub with_row : List ℕ → List ℕ → ℕ → List ℕ
with_row words objects q = tabulate 8 (λ x. join (get_or words x 0) (get_or objects (8 * q + x) 0))

-- the words of each mode of all the roles together
unfoldable pub joined_rows : List ℕ → ℕ → List ℕ
joined_rows objects roles = tabulate 8 (λ x. pack 64 (λ o. some roles (λ q. has (get_or objects (8 * q + x) 0) o)))

-- the masks of the sessions below n, and 0 for the others
unfoldable pub masks_below : State → ℕ → List ℕ
masks_below S n = tabulate 256 (λ i. when ltb (i / 8) n then mask_of S (i / 8) (i % 8) else 0)

-- what stands when the masks of session s are to be written: the objects of each role, and the masks of the sessions before it
pub record Ready (S : State) (objects masks : List ℕ) (s : ℕ) : Type 0 where
  pub rows : objects ≡ gathered S 8
  pub written : masks ≡ masks_below S s

-- the roles that give the pair (x, o): it is a permission, and the role or a junior of it is granted it
unfoldable pub giving_roles : State → ℕ → ℕ → ℕ
giving_roles S x o = pack 64 (λ r. permission S x o and overlap (S.juniors r) (S.granted x o))
