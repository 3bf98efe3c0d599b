-- `revoke` meets its contract: the table without it, or the one that came. Assumes nothing.
use Prim.Native.Nat.{ℕ}
use mathlib.Core.Path.{◌≡◌, sym, ap, ◌∙◌}
use mathlib.Core.Bool.{true, not}
use mathlib.Core.List.{List}
use lib.ListN.{set, length}
use Rattle.bits.specs.Words.{has}
use Rattle.bits.specs.Sets.{◌without◌}
use Rattle.bits.proofs.Truth.{or_left, false_or, if_true, if_false}
use Rattle.table.specs.Reading.{granted_at, state}
use Rattle.table.specs.Table.{table_length, encode}
use Rattle.table.proofs.Encode.{encode_state, write_granted}
use Rattle.masks.proofs.Refreshing.{pair_shown}
use Rattle.sound.specs.Answers.{holders_of}
use Rattle.sound.proofs.Answers.{holders_shown}
use Rattle.rbac.specs.Roles.{revokes, moved}
use Rattle.rbac.specs.Guard.{allowed_sound}
use Rattle.rbac.specs.Served.{Ranged}
use Rattle.rbac.proofs.Serving.{serve_yes, put_back}
use Rattle.administration.proofs.revoke.Goals as goal

-- the table without the grant, and its test of the sessions that hold the pair
module _ (t : List ℕ) (r x o : ℕ) {less : ℕ} (e : length t ≡ table_length) (h : Ranged (revokes r x o)) (w : less ≡ (state t).granted x o without r) where
  written : set t (granted_at x o) less ≡ encode (moved (state t) (revokes r x o))
  written = ap (λ (v : ℕ). set t (granted_at x o) v) w ∙ write_granted (state t) (encode_state t e) x o _ h.1 h.2

  asked : has ((state t).granted x o) r ≡ true → holders_of (set t (granted_at x o) less) x o ≡ allowed_sound (state t) (revokes r x o)
  asked k = holders_shown _ written x o h.1 h.2 ∙ sym (false_or _ (ap not k))

pub returns-then-not-has : goal.returns-then-not-has
returns-then-not-has c =
    let a = c.args in
    let absent = sym c.has.ensures ∙ c.if-not-has.true in
    serve_yes (or_left _ (ap not absent)) (written a.t.now a.r a.x a.o c.told-t c.requires c.without-less.ensures ∙ sym (ap encode (if_false _ _ absent)))

pub returns-then-holders_fit : goal.returns-then-holders_fit
returns-then-holders_fit c =
    let a = c.args in
    let h = c.requires in
    let w = c.without-less.ensures in
    let there = sym c.has.ensures ∙ c.if-not-has.false in
    serve_yes (sym (asked a.t.now a.r a.x a.o c.told-t h w there) ∙ sym c.holders_fit.ensures ∙ c.if-holders_fit.true)
    (c.refresh_pair.ensures
    ∙ pair_shown _ a.x a.o _ (written a.t.now a.r a.x a.o c.told-t h w) h.1 h.2
    ∙ sym (ap encode (if_true _ _ there)))

pub returns : goal.returns
returns c =
    let a = c.args in
    let there = sym c.has.ensures ∙ c.if-not-has.false in
    put_back a.t.now (revokes a.r a.x a.o) _ _
    (sym (asked a.t.now a.r a.x a.o c.told-t c.requires c.without-less.ensures there) ∙ sym c.holders_fit.ensures ∙ c.if-holders_fit.false)
