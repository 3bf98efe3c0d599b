-- What the private functions that make up the soundness test answer, item by item. No promise rests on this page: the public
-- test is held to `sound`, and that these items come to it is proved.
use Rattle.bits.specs.Words.{ℕ, Bool, not, eqb, leb, ◌and◌, ◌or◌, all, pack, ◌with◌}
use Rattle.bits.specs.Sets.{each}
use Rattle.table.specs.State.{State}
use Rattle.table.specs.Authority.{permission, covers, may_activate}
use Rattle.sound.specs.Answers.{held_within}

-- the direct juniors of r and all their juniors, r not among them, are with r its juniors
unfoldable pub role_fits : State → ℕ → Bool
role_fits S r = not (covers S (S.direct r) r) and eqb (S.juniors r) (pack 64 (covers S (S.direct r)) with r)

-- (x, o) is granted to no role or is a permission
unfoldable pub grant_fits : State → ℕ → ℕ → Bool
grant_fits S x o = eqb (S.granted x o) 0 or permission S x o

-- every pair of mode x fits
unfoldable pub grants_fit : State → ℕ → Bool
grants_fit S x = all 64 (λ o. grant_fits S x o)

-- the session's word is at most 64, and its active roles are authorised for it
unfoldable pub roles_fit : State → ℕ → Bool
roles_fit S s = leb (S.owner s) 64 and each (S.active s) (λ r. may_activate S s r)

-- the roles of the session fit, and all that it holds open is in these eight masks
unfoldable pub session_fits : State → ℕ → (ℕ → ℕ) → Bool
session_fits S s masks = roles_fit S s and held_within S s masks
