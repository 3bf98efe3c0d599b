-- `unlink` meets its contract: the table without the link, or the one that came. Assumes nothing.
use borrow.Author.Rules.{rules}
use Prim.Native.Nat.{ℕ, ◌≤◌}
use mathlib.Core.Path.{◌≡◌, refl, sym, ap, ◌∙◌}
use Rattle.bits.specs.Words.{List, Bool, true, length, has}
use Rattle.bits.specs.Sets.{◌without◌}
use Rattle.table.specs.Changes.{with_direct}
use Rattle.table.specs.Reading.{word, direct_at, state}
use Rattle.table.specs.Table.{table_length, encode}
use Rattle.masks.specs.Answers.{all_masks}
use Rattle.masks.proofs.Refreshing.{all_refreshed}
use Rattle.sound.specs.Answers.{sessions_within}
use Rattle.sound.proofs.Answers.{sessions_within_shown}
use Rattle.links.specs.Links.{may_unlink, after_unlink}
use Rattle.links.proofs.Links.{no_link, unlink_left, on_table_lem, off_table, no_role, answer_no, answer_yes, put_back}
use Rattle.links.proofs.unlink.Goals as goal

pub returns-then-r-gt63 : goal.returns-then-r-gt63
unfolding may_unlink after_unlink
returns-then-r-gt63 c = let a = c.args in answer_no a.t.now a.r _ (no_role a.t.now a.r a.q _ c.then-r-gt63.either) refl

pub returns-in_default : goal.returns-in_default
unfolding may_unlink after_unlink
returns-in_default c = let a = c.args in answer_no a.t.now a.r _ (off_table a.t.now a.r a.q _ c.in_default.ensures.cases) refl

pub returns-then-not-has : goal.returns-then-not-has
unfolding may_unlink after_unlink
returns-then-not-has c =
    let a = c.args in
    let table = c.in-Some.ensures.cases in
    let none = rw table.same at (sym c.has.ensures ∙ c.if-not-has.true) in
    answer_no a.t.now a.r _ (on_table_lem a.t.now a.r a.q table.long c.if-r-gt63.false c.if-q-gt63.false ∙ no_link _ a.r a.q none) table.same

-- what the test of the sessions says
told : (t : List ℕ) (r q : ℕ) {u masks : List ℕ} {w : ℕ} {b : Bool} → length t ≡ table_length → r ≤ 63 → q ≤ 63
    → has (word t (direct_at r)) q ≡ true → u ≡ encode (with_direct (state t) r w) → w ≡ (state t).direct r without q
    → masks ≡ all_masks u → b ≡ sessions_within u masks → b ≡ may_unlink t r q
unfolding may_unlink
told t r q {u} {masks} {w} {b} whole hr hq linked relinked less worked test =
    test
    ∙ sessions_within_shown _ (relinked ∙ ap (λ (w : ℕ). encode (with_direct (state t) r w)) less) _ worked
    ∙ sym (on_table_lem t r q whole hr hq ∙ unlink_left (state t) r q linked)

pub returns-then-sessions_hold : goal.returns-then-sessions_hold
unfolding after_unlink
returns-then-sessions_hold c =
    let r = c.args.r in
    let q = c.args.q in
    let t = c.in-Some.table.now in
    let table = c.in-Some.ensures.cases in
    let whole = ap length table.same ∙ table.long in
    let yes = told t r q whole c.if-r-gt63.false c.if-q-gt63.false (sym c.has.ensures ∙ c.if-not-has.false) c.relink.ensures c.without.ensures c.all_masks-masks.ensures c.sessions_hold.ensures in
    let masked = all_refreshed _ (c.relink.ensures ∙ ap (λ (w : ℕ). encode (with_direct (state t) r w)) c.without.ensures) c.all_masks-masks.ensures (search rules) in
    rw (← table.same) (answer_yes t r _ (sym yes ∙ c.if-sessions_hold.true) (c.overlay.ensures ∙ masked))

pub returns : goal.returns
unfolding after_unlink
returns c =
    let r = c.args.r in
    let q = c.args.q in
    let t = c.in-Some.table.now in
    let table = c.in-Some.ensures.cases in
    let whole = ap length table.same ∙ table.long in
    let no = told t r q whole c.if-r-gt63.false c.if-q-gt63.false (sym c.has.ensures ∙ c.if-not-has.false) c.relink.ensures c.without.ensures c.all_masks-masks.ensures c.sessions_hold.ensures in
    rw (← table.same) (answer_no t r _ (sym no ∙ c.if-sessions_hold.false) (put_back t r c.without.result whole c.relink.ensures c.words_from-rows.ensures refl c.write_seniority.ensures))
