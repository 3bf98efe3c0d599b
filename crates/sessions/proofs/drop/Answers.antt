-- `drop` meets its contract: the table without it, or the one that came. Assumes nothing.
use borrow.Author.Rules.{rules}
use Prim.Native.Nat.{ℕ, ◌+◌, ◌*◌}
use mathlib.Core.Path.{◌≡◌, sym, ap, ◌∙◌}
use mathlib.Core.Bool.{true, not}
use mathlib.Core.List.{List}
use native.Mathlib.Omega.{arith}
use lib.ListN.{set, length, length-set}
use Rattle.bits.specs.Words.{has}
use Rattle.bits.specs.Sets.{◌without◌}
use Rattle.bits.proofs.Truth.{or_left, false_or, if_true, if_false}
use Rattle.table.specs.Answers.{effective_permissions}
use Rattle.table.specs.Reading.{active_at, state}
use Rattle.table.specs.Table.{table_length, encode}
use Rattle.table.proofs.Encode.{encode_state, write_active}
use Rattle.masks.proofs.Refreshing.{session_refreshed_lem, session_shown}
use Rattle.sound.specs.Answers.{openings_within}
use Rattle.sound.proofs.Answers.{within_shown}
use Rattle.rbac.specs.Roles.{drops, moved}
use Rattle.rbac.specs.Guard.{allowed_sound}
use Rattle.rbac.specs.Served.{Ranged}
use Rattle.rbac.proofs.Masks.{written_over}
use Rattle.rbac.proofs.Serving.{serve_yes, put_back}
use Rattle.sessions.proofs.drop.Goals as goal

-- the table without the role, and its test of what the session holds
module _ (t : List ℕ) (s r : ℕ) {less : ℕ} (e : length t ≡ table_length) (h : Ranged (drops s r)) (w : less ≡ (state t).active s without r) where
  written : set t (active_at s) less ≡ encode (moved (state t) (drops s r))
  written = ap (λ (v : ℕ). set t (active_at s) v) w ∙ write_active (state t) (encode_state t e) s _ h.0

  asked : (masks : List ℕ) → has ((state t).active s) r ≡ true → masks ≡ effective_permissions (set t (active_at s) less) s
      → openings_within (set t (active_at s) less) s masks ≡ allowed_sound (state t) (drops s r)
  asked masks k m = within_shown _ written s masks h.0 m ∙ sym (false_or _ (ap not k))

pub returns-then-not-has : goal.returns-then-not-has
returns-then-not-has c =
    let a = c.args in
    let absent = sym c.has.ensures ∙ c.if-not-has.true in
    serve_yes (or_left _ (ap not absent)) (written a.t.now a.s a.r c.told-t c.requires c.without-less.ensures ∙ sym (ap encode (if_false _ _ absent)))

pub returns-then-openings_within : goal.returns-then-openings_within
returns-then-openings_within c =
    let a = c.args in
    let h = c.requires.0 in
    let w = c.without-less.ensures in
    let there = sym c.has.ensures ∙ c.if-not-has.false in
    let m = c.effective_permissions-masks.ensures in
    let whole = length-set a.t.now (active_at a.s) c.without-less.result ∙ c.told-t in
    let eight : length c.effective_permissions-masks.result ≡ 8 = search rules in
    serve_yes (sym (asked a.t.now a.s a.r c.told-t c.requires w _ there m) ∙ sym c.openings_within.ensures ∙ c.if-openings_within.true)
    (rw c.copy_from_slice.ensures.after (written_over _ (1096 + 8 * a.s) _ (omega arith) (omega arith))
    ∙ session_refreshed_lem _ a.s whole h m eight
    ∙ session_shown _ a.s (written a.t.now a.s a.r c.told-t c.requires w) h
    ∙ sym (ap encode (if_true _ _ there)))

pub returns : goal.returns
returns c =
    let a = c.args in
    let there = sym c.has.ensures ∙ c.if-not-has.false in
    put_back a.t.now (drops a.s a.r) _ _
    (sym (asked a.t.now a.s a.r c.told-t c.requires c.without-less.ensures _ there c.effective_permissions-masks.ensures)
    ∙ sym c.openings_within.ensures ∙ c.if-openings_within.false)
