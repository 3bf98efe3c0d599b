-- `deassign` meets its contract: the table without it, or the one that came. Assumes nothing.
use Prim.Native.Nat.{ℕ}
use mathlib.Core.Path.{◌≡◌, sym, ap, ◌∙◌}
use mathlib.Core.Bool.{true, not}
use mathlib.Core.List.{List}
use lib.ListN.{set, length}
use Rattle.bits.specs.Words.{has}
use Rattle.bits.specs.Sets.{◌without◌}
use Rattle.bits.proofs.Truth.{or_left, false_or}
use Rattle.table.specs.Reading.{assigned_at, state}
use Rattle.table.specs.Table.{table_length, encode}
use Rattle.table.proofs.Encode.{encode_state, write_assigned}
use Rattle.sound.specs.Answers.{sessions_of}
use Rattle.sound.proofs.Answers.{sessions_shown}
use Rattle.rbac.specs.Roles.{deassigns, moved}
use Rattle.rbac.specs.Guard.{allowed_sound}
use Rattle.rbac.specs.Served.{Ranged}
use Rattle.rbac.proofs.Serving.{serve_yes, put_back}
use Rattle.administration.proofs.deassign.Goals as goal

-- the table without the role, and its test of the user's sessions
module _ (t : List ℕ) (u r : ℕ) {less : ℕ} (e : length t ≡ table_length) (h : Ranged (deassigns u r)) (w : less ≡ (state t).assigned u without r) where
  written : set t (assigned_at u) less ≡ encode (moved (state t) (deassigns u r))
  written = ap (λ (v : ℕ). set t (assigned_at u) v) w ∙ write_assigned (state t) (encode_state t e) u _ h.0

  asked : has ((state t).assigned u) r ≡ true → sessions_of (set t (assigned_at u) less) u ≡ allowed_sound (state t) (deassigns u r)
  asked k = sessions_shown _ written u h.0 ∙ sym (false_or _ (ap not k))

pub returns-then-not-has : goal.returns-then-not-has
returns-then-not-has c =
    let a = c.args in
    serve_yes (or_left _ (ap not (sym c.has.ensures ∙ c.if-not-has.true))) (written a.t.now a.u a.r c.told-t c.requires c.without-less.ensures)

pub returns-then-sessions_fit : goal.returns-then-sessions_fit
returns-then-sessions_fit c =
    let a = c.args in
    let w = c.without-less.ensures in
    let there = sym c.has.ensures ∙ c.if-not-has.false in
    serve_yes (sym (asked a.t.now a.u a.r c.told-t c.requires w there) ∙ sym c.sessions_fit.ensures ∙ c.if-sessions_fit.true)
    (written a.t.now a.u a.r c.told-t c.requires w)

pub returns : goal.returns
returns c =
    let a = c.args in
    let there = sym c.has.ensures ∙ c.if-not-has.false in
    put_back a.t.now (deassigns a.u a.r) _ _
    (sym (asked a.t.now a.u a.r c.told-t c.requires c.without-less.ensures there) ∙ sym c.sessions_fit.ensures ∙ c.if-sessions_fit.false)
