-- `alike` meets its contract: the refusals in their order, then the sessions and the users. Assumes nothing.
use mathlib.Core.Path.{◌≡◌, sym, ap, ap₂, ◌∙◌}
use mathlib.Core.Bool.{Bool}
use mathlib.Core.List.{List}
use Prim.Native.Nat.{ℕ}
use Rattle.std.specs.Array.{IsWholeChunk}
use Rattle.std.proofs.lemmas.Option.{MatchOption-at_some, MatchOption-at_none}
use Rattle.bits.proofs.Truth.{by_truth, and_intro, false_and, and_false}
use Rattle.table.specs.Reading.{state}
use Rattle.table.proofs.Table.{is_table_lem, not_table}
use Rattle.requests.specs.declared.Refusal.TheVariants.{WrongLength}
use Rattle.requests.proofs.Refusals.{none_refused}
use Rattle.sound.specs.Answers.{is_sound}
use Rattle.sound.proofs.Answers.{unsound_state}
use Rattle.alike.specs.Likeness.{same_state}
use Rattle.alike.proofs.Likeness.{like_short, like_unsound, like_second_short, like_second_unsound, like_yes, like_no}
use Rattle.alike.proofs.alike.Goals as goal
use Rattle.alike.proofs.alike.Goals.{In_ok-first, In_ok-second}

-- the two tables by their other names, both of the right length
first_is : (c : In_ok-first) → IsWholeChunk c.args.first.now c.in_ok-first.first.now 1352
first_is c = MatchOption-at_some _ _ _ c.in_ok-first.ensures.ok_part c.as_array.ensures.cases

second_is : (c : In_ok-second) → IsWholeChunk c.args.second.now c.in_ok-second.second.now 1352
second_is c = MatchOption-at_some _ _ _ c.in_ok-second.ensures.ok_part c.as_array-2.ensures.cases

-- whether a table is sound, by its other name
told : {t t' : List ℕ} {r b : Bool} → t' ≡ t → r ≡ is_sound t' → r ≡ b → is_sound t ≡ b
told s e d = ap is_sound (sym s) ∙ sym e ∙ d

pub returns-in_err-first : goal.returns-in_err-first
returns-in_err-first c =
    let e = c.in_err-first.ensures in
    none_refused _ _ c.from_residual.ensures.1 _ WrongLength e.ok_part e.value
    ∙ like_short _ _ (not_table _ (MatchOption-at_none _ _ e.ok_part c.as_array.ensures.cases))

pub returns-then-not-is_sound : goal.returns-then-not-is_sound
returns-then-not-is_sound c =
    let t = first_is (goal.at.returns-then-not-is_sound c).In_ok-first in
    like_unsound _ _ (is_table_lem _ t.long) (unsound_state _ t.long (told t.same c.is_sound.ensures c.if-not-is_sound.true))

pub returns-in_err-second : goal.returns-in_err-second
returns-in_err-second c =
    let e = c.in_err-second.ensures in
    let t = first_is (goal.at.returns-in_err-second c).In_ok-first in
    none_refused _ _ c.from_residual-in_err-second.ensures.1 _ WrongLength e.ok_part e.value
    ∙ like_second_short _ _ (told t.same c.is_sound.ensures c.if-not-is_sound.false) (not_table _ (MatchOption-at_none _ _ e.ok_part c.as_array-2.ensures.cases))

pub returns-then-not-is_sound-2 : goal.returns-then-not-is_sound-2
returns-then-not-is_sound-2 c =
    let at = goal.at.returns-then-not-is_sound-2 c in
    let t = first_is at.In_ok-first in
    let u = second_is at.In_ok-second in
    like_second_unsound _ _ (told t.same c.is_sound.ensures c.if-not-is_sound.false)
    (is_table_lem _ u.long) (unsound_state _ u.long (told u.same c.is_sound-2.ensures c.if-not-is_sound-2.true))

pub same_sessions-requires : goal.same_sessions-requires
same_sessions-requires c = (sym c.is_sound.ensures ∙ c.if-not-is_sound.false, sym c.is_sound-2.ensures ∙ c.if-not-is_sound-2.false)

pub returns-then-not-same_sessions : goal.returns-then-not-same_sessions
unfolding same_state
returns-then-not-same_sessions c =
    let at = goal.at.returns-then-not-same_sessions c in
    let t = first_is at.In_ok-first in
    let u = second_is at.In_ok-second in
    like_no _ _ (told t.same c.is_sound.ensures c.if-not-is_sound.false) (told u.same c.is_sound-2.ensures c.if-not-is_sound-2.false)
    (ap₂ (λ (l k : List ℕ). same_state (state l) (state k)) (sym t.same) (sym u.same)
    ∙ false_and _ (sym c.same_sessions.ensures ∙ c.if-not-same_sessions.true))

pub returns : goal.returns
unfolding same_state
returns c =
    let at = goal.at.returns c in
    let t = first_is at.In_ok-first in
    let u = second_is at.In_ok-second in
    let compared = ap₂ (λ (l k : List ℕ). same_state (state l) (state k)) (sym t.same) (sym u.same) in
    let first_sound = told t.same c.is_sound.ensures c.if-not-is_sound.false in
    let second_sound = told u.same c.is_sound-2.ensures c.if-not-is_sound-2.false in
    by_truth c.same_users.result
    (λ e. rw e (like_yes _ _ first_sound second_sound (compared ∙ and_intro (sym c.same_sessions.ensures ∙ c.if-not-same_sessions.false) (sym c.same_users.ensures ∙ e))))
    (λ e. rw e (like_no _ _ first_sound second_sound (compared ∙ and_false _ (sym c.same_users.ensures ∙ e))))
