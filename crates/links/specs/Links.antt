-- Change of seniority at work (02, S-5): a link from role r to the direct junior q is made, or taken away, and the juniors of
-- all roles follow (`with_direct`). The answers are those on a table that is known to be sound, where only a part of soundness
-- can break.
use Rattle.bits.specs.Words.{ℕ, Bool, not, List, eqb, ltb, ◌and◌, when◌then◌else◌, has, ◌with◌}
use Rattle.bits.specs.Sets.{◌without◌}
use Rattle.table.specs.State.{State}
use Rattle.table.specs.Authority.{senior}
use Rattle.table.specs.Changes.{with_direct}
use Rattle.table.specs.Masks.{refreshed}
use Rattle.table.specs.Separation.{static_sets_hold}
use Rattle.table.specs.Reading.{state}
use Rattle.table.specs.Table.{is_table, encode}
use Rattle.sound.specs.Answers.{sessions_hold}

-- r is another role than q, q is not senior to r, and the static sets hold afterwards
unfoldable pub linkable : State → ℕ → ℕ → Bool
linkable S r q = not (eqb r q) and not (senior S q r) and static_sets_hold (with_direct S r (S.direct r with q))

-- the link is there, and afterwards every session word is at most 64, every active role authorised and every opening effective
unfoldable pub unlinkable : State → ℕ → ℕ → Bool
unlinkable S r q = has (S.direct r) q and sessions_hold (with_direct S r (S.direct r without q))

-- ---- what the public functions answer and leave, for a list of any length and any number

-- no, where the list is no table or there is no such role
unfoldable pub on_table : List ℕ → ℕ → ℕ → Bool → Bool
on_table t r q answer = is_table t and ltb r 64 and ltb q 64 and answer

-- after a yes role r has these direct juniors, and all masks are worked out anew (02, S-6); after a no the list is as it came
unfoldable pub relinked : List ℕ → ℕ → ℕ → Bool → List ℕ
relinked t r direct answer = when answer then encode (refreshed (with_direct (state t) r direct)) else t

unfoldable pub may_link : List ℕ → ℕ → ℕ → Bool
may_link t r q = on_table t r q (linkable (state t) r q)

unfoldable pub after_link : List ℕ → ℕ → ℕ → List ℕ
after_link t r q = relinked t r ((state t).direct r with q) (may_link t r q)

unfoldable pub may_unlink : List ℕ → ℕ → ℕ → Bool
may_unlink t r q = on_table t r q (unlinkable (state t) r q)

unfoldable pub after_unlink : List ℕ → ℕ → ℕ → List ℕ
after_unlink t r q = relinked t r ((state t).direct r without q) (may_unlink t r q)
