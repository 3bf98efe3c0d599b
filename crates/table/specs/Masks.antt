-- The masks (02, S-6): of each session and mode, the objects that are effective. A state whose masks are true, and a state with
-- masks worked out anew.
use Rattle.std.specs.Prelude.{◌<◌, ◌≡◌}
use Rattle.bits.specs.Words.{ℕ, Bool, eqb, when◌then◌else◌, upd, all, pack, ◌with◌}
use Rattle.bits.specs.Sets.{◌without◌}
use Rattle.table.specs.State.{State}
use Rattle.table.specs.Authority.{effective}
use Rattle.table.specs.Changes.{set_masks, with_masks}

-- the objects o for which (x, o) is effective for session s
unfoldable pub mask_of : State → ℕ → ℕ → ℕ
mask_of S s x = pack 64 (effective S s x)

-- every mask is that of its session and mode
unfoldable pub masks_true : State → Bool
masks_true S = all 32 (λ s. all 8 (λ x. eqb (S.masks s x) (mask_of S s x)))

-- the state with all masks worked out anew
abbrev pub refreshed : State → State
refreshed S = set_masks S (mask_of S)

-- the state with the masks of session s worked out anew
abbrev pub refreshed_at : ℕ → State → State
refreshed_at s S = with_masks S s (mask_of S s)

-- the word with the member i where b, else without it
unfoldable pub put : ℕ → ℕ → Bool → ℕ
put w i b = when b then w with i else w without i

-- the state with the pair (x, o) worked out anew in the masks of every session
abbrev pub refreshed_pair : ℕ → ℕ → State → State
refreshed_pair x o S = set_masks S (λ s. upd (S.masks s) x (put (S.masks s x) o (effective S s x o)))

-- ---- plain reading

abbrev pub MasksTrue : State → Type 0
MasksTrue S = (s x : ℕ) → s < 32 → x < 8 → S.masks s x ≡ mask_of S s x
