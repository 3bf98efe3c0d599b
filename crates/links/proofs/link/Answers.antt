-- `link` meets its contract: the table with the link, or the one that came. Assumes nothing.
use borrow.Author.Rules.{rules}
use Prim.Native.Nat.{ℕ, ◌≤◌}
use mathlib.Core.Path.{◌≡◌, refl, sym, ap, ◌∙◌}
use Rattle.bits.specs.Words.{List, Bool, false, length, has, ◌with◌}
use Rattle.table.specs.Changes.{with_direct}
use Rattle.table.specs.Reading.{word, state}
use Rattle.table.specs.Table.{table_length, encode}
use Rattle.masks.proofs.Refreshing.{all_refreshed}
use Rattle.separation.specs.Answers.{static_sets_of}
use Rattle.separation.proofs.Sets.{static_sets_shown}
use Rattle.links.specs.Links.{may_link, after_link}
use Rattle.links.proofs.Links.{not_itself, not_back, link_left, on_table_lem, off_table, no_role, answer_no, answer_yes, put_back}
use Rattle.links.proofs.link.Goals as goal

pub returns-then-r-gt63 : goal.returns-then-r-gt63
unfolding may_link after_link
returns-then-r-gt63 c = let a = c.args in answer_no a.t.now a.r _ (no_role a.t.now a.r a.q _ c.then-r-gt63.either) refl

pub returns-in_default : goal.returns-in_default
unfolding may_link after_link
returns-in_default c = let a = c.args in answer_no a.t.now a.r _ (off_table a.t.now a.r a.q _ c.in_default.ensures.cases) refl

pub returns-then-r-q : goal.returns-then-r-q
unfolding may_link after_link
returns-then-r-q c =
    let a = c.args in
    let table = c.in-Some.ensures.cases in
    answer_no a.t.now a.r _
    (on_table_lem a.t.now a.r a.q table.long c.if-r-gt63.false c.if-q-gt63.false ∙ not_itself _ a.r a.q c.if-r-q.true) table.same

pub returns-then-has : goal.returns-then-has
unfolding may_link after_link
returns-then-has c =
    let a = c.args in
    let table = c.in-Some.ensures.cases in
    let back = rw table.same at (sym c.has.ensures ∙ c.if-has.true) in
    answer_no a.t.now a.r _
    (on_table_lem a.t.now a.r a.q table.long c.if-r-gt63.false c.if-q-gt63.false ∙ not_back _ a.r a.q back) table.same

-- what the test of the sets says
told : (t : List ℕ) (r q : ℕ) {u : List ℕ} {w : ℕ} {b : Bool} → length t ≡ table_length → r ≤ 63 → q ≤ 63 → (r ≡ q → ⊥)
    → has (word t q) r ≡ false → u ≡ encode (with_direct (state t) r w) → w ≡ (state t).direct r with q
    → b ≡ static_sets_of u → b ≡ may_link t r q
unfolding may_link
told t r q {u} {w} {b} whole hr hq apart back relinked more test =
    test
    ∙ static_sets_shown _ (relinked ∙ ap (λ (w : ℕ). encode (with_direct (state t) r w)) more)
    ∙ sym (on_table_lem t r q whole hr hq ∙ link_left (state t) r q apart back)

pub returns-then-static_sets_hold : goal.returns-then-static_sets_hold
unfolding after_link
returns-then-static_sets_hold c =
    let r = c.args.r in
    let q = c.args.q in
    let t = c.in-Some.table.now in
    let table = c.in-Some.ensures.cases in
    let whole = ap length table.same ∙ table.long in
    let yes = told t r q whole c.if-r-gt63.false c.if-q-gt63.false c.if-r-q.false (sym c.has.ensures ∙ c.if-has.false) c.relink.ensures c.with.ensures c.static_sets_hold.ensures in
    let masked = all_refreshed _ (c.relink.ensures ∙ ap (λ (w : ℕ). encode (with_direct (state t) r w)) c.with.ensures) c.all_masks-masks.ensures (search rules) in
    rw (← table.same) (answer_yes t r _ (sym yes ∙ c.if-static_sets_hold.true) (c.overlay.ensures ∙ masked))

pub returns : goal.returns
unfolding after_link
returns c =
    let r = c.args.r in
    let q = c.args.q in
    let t = c.in-Some.table.now in
    let table = c.in-Some.ensures.cases in
    let whole = ap length table.same ∙ table.long in
    let no = told t r q whole c.if-r-gt63.false c.if-q-gt63.false c.if-r-q.false (sym c.has.ensures ∙ c.if-has.false) c.relink.ensures c.with.ensures c.static_sets_hold.ensures in
    rw (← table.same) (answer_no t r _ (sym no ∙ c.if-static_sets_hold.false) (put_back t r c.with.result whole c.relink.ensures c.words_from-rows.ensures refl c.write_seniority.ensures))
