-- `grant` meets its contract. Assumes nothing.
use Prim.Native.Nat.{ℕ}
use mathlib.Core.Path.{◌≡◌, refl, sym, ap, ◌∙◌}
use mathlib.Core.List.{List}
use lib.ListN.{set, length}
use Rattle.bits.specs.Words.{◌with◌}
use Rattle.bits.proofs.Truth.{if_true, if_false}
use Rattle.table.specs.Reading.{granted_at, state}
use Rattle.table.specs.Table.{table_length, encode}
use Rattle.table.proofs.Encode.{encode_state, write_granted}
use Rattle.masks.proofs.Refreshing.{pair_shown}
use Rattle.rbac.specs.Roles.{grants, moved}
use Rattle.rbac.specs.Served.{Ranged}
use Rattle.rbac.proofs.Serving.{serve_yes}
use Rattle.administration.proofs.grant.Goals as goal

-- the table with the grant
written : (t : List ℕ) (r x o : ℕ) {more : ℕ} → length t ≡ table_length → Ranged (grants r x o) → more ≡ (state t).granted x o with r
    → set t (granted_at x o) more ≡ encode (moved (state t) (grants r x o))
written t r x o e h w = ap (λ (v : ℕ). set t (granted_at x o) v) w ∙ write_granted (state t) (encode_state t e) x o _ h.1 h.2

pub returns-then-has : goal.returns-then-has
returns-then-has c =
    let a = c.args in
    serve_yes refl
    (written a.t.now a.r a.x a.o c.told-t c.requires c.with.ensures ∙ sym (ap encode (if_true _ _ (sym c.has.ensures ∙ c.if-has.true))))

pub returns : goal.returns
returns c =
    let a = c.args in
    let h = c.requires in
    serve_yes refl
    (c.refresh_pair.ensures
    ∙ pair_shown _ a.x a.o _ (written a.t.now a.r a.x a.o c.told-t h c.with.ensures) h.1 h.2
    ∙ sym (ap encode (if_false _ _ (sym c.has.ensures ∙ c.if-has.false))))
