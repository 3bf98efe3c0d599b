-- `activate` meets its contract. Assumes nothing.
use Prim.Native.Nat.{ℕ}
use mathlib.Core.Path.{◌≡◌, refl, sym, ap, ap₂, ◌∙◌}
use mathlib.Core.List.{List}
use lib.ListN.{set, length}
use Rattle.bits.specs.Words.{◌and◌, ◌with◌}
use Rattle.bits.proofs.Truth.{and_intro, false_and, and_false, and_assoc, if_true, if_false}
use Rattle.table.specs.Answers.{activatable}
use Rattle.table.specs.Reading.{active_at, state}
use Rattle.table.specs.Table.{table_length, encode}
use Rattle.table.proofs.Encode.{encode_state, write_active}
use Rattle.table.proofs.Answers.{activatable_known}
use Rattle.separation.specs.Answers.{dynamic_fit_of}
use Rattle.separation.proofs.Sets.{dynamic_told}
use Rattle.masks.proofs.Refreshing.{session_shown}
use Rattle.rbac.specs.Roles.{activates, moved}
use Rattle.rbac.specs.Guard.{allowed_sound}
use Rattle.rbac.specs.Served.{Ranged}
use Rattle.rbac.proofs.Serving.{serve_yes, serve_no}
use Rattle.sessions.proofs.activate.Goals as goal

-- its two tests, of what is active with r, and the table with these roles
module _ (t : List ℕ) (s r : ℕ) {more : ℕ} (e : length t ≡ table_length) (h : Ranged (activates s r)) (w : more ≡ (state t).active s with r) where
  asked : allowed_sound (state t) (activates s r) ≡ activatable t s r and dynamic_fit_of t more
  asked = sym (and_assoc _ _ _) ∙ ap₂ ◌and◌ (activatable_known t s r e h.0 h.1) (dynamic_told t e _ w refl)

  written : set t (active_at s) more ≡ encode (moved (state t) (activates s r))
  written = ap (λ (v : ℕ). set t (active_at s) v) w ∙ write_active (state t) (encode_state t e) s _ h.0

pub returns-then-not-may_activate : goal.returns-then-not-may_activate
returns-then-not-may_activate c =
    let a = c.args in
    serve_no (asked a.t.now a.s a.r c.told-t c.requires refl ∙ false_and _ (sym c.may_activate.ensures ∙ c.if-not-may_activate.true)) refl

pub returns-then-not-dynamic_fit : goal.returns-then-not-dynamic_fit
returns-then-not-dynamic_fit c =
    let a = c.args in
    serve_no
    (asked a.t.now a.s a.r c.told-t c.requires c.with-more.ensures ∙ and_false _ (sym c.dynamic_fit.ensures ∙ c.if-not-dynamic_fit.true))
    refl

pub returns-then-has : goal.returns-then-has
returns-then-has c =
    let a = c.args in
    let w = c.with-more.ensures in
    serve_yes
    (asked a.t.now a.s a.r c.told-t c.requires w
    ∙ and_intro (sym c.may_activate.ensures ∙ c.if-not-may_activate.false) (sym c.dynamic_fit.ensures ∙ c.if-not-dynamic_fit.false))
    (written a.t.now a.s a.r c.told-t c.requires w ∙ sym (ap encode (if_true _ _ (sym c.has.ensures ∙ c.if-has.true))))

pub returns : goal.returns
returns c =
    let a = c.args in
    let w = c.with-more.ensures in
    serve_yes
    (asked a.t.now a.s a.r c.told-t c.requires w
    ∙ and_intro (sym c.may_activate.ensures ∙ c.if-not-may_activate.false) (sym c.dynamic_fit.ensures ∙ c.if-not-dynamic_fit.false))
    (c.refresh.ensures
    ∙ session_shown _ a.s (written a.t.now a.s a.r c.told-t c.requires w) c.requires.0
    ∙ sym (ap encode (if_false _ _ (sym c.has.ensures ∙ c.if-has.false))))
