-- `Label::compare` meets its contract. Assumes nothing.
use mathlib.Core.Path.{sym, ◌∙◌}
use borrow.Author.Tests.{eqb-true, eqb-false}
use Rattle.machine.proofs.Order.{stands_equal, stands_above, stands_below, stands_apart, class_short, sets_tell}
use Rattle.machine.proofs.Label.compare.Goals as goal
use Rattle.machine.proofs.Label.compare.Goals.{else-class-via-then-class+else-subset, else-class-via-else-class, else-class-2-via-then-class-2+else-subset-2, else-class-2-via-else-class-2}

pub returns-then-eq : goal.returns-then-eq
returns-then-eq c = sym (stands_equal _ _ (eqb-true _ _ (sym c.eq.ensures ∙ c.if-eq.true)))

pub returns-then-subset : goal.returns-then-subset
returns-then-subset c =
    sym (stands_above _ _ (eqb-false _ _ (sym c.eq.ensures ∙ c.if-eq.false))
    (sets_tell _ _ c.class-else-eq.ensures c.class.ensures c.if-class.true c.set.ensures c.set-then-class.ensures c.subset.ensures
    ∙ c.if-subset.true))

pub returns-then-subset-2 : goal.returns-then-subset-2
returns-then-subset-2 c =
    sym (stands_below _ _ (eqb-false _ _ (sym c.eq.ensures ∙ c.if-eq.false))
    (sets_tell _ _ c.class-else-class-2.ensures c.class-else-class.ensures c.if-class-2.true
    c.set-then-class-2.ensures c.set-then-class-2-2.ensures c.subset-then-class-2.ensures
    ∙ c.if-subset-2.true))

pub returns-else-class-2 : goal.returns-else-class-2
returns-else-class-2 c =
    sym (stands_apart _ _ (eqb-false _ _ (sym c.eq.ensures ∙ c.if-eq.false))
    (elim c.else-class.branch [
      | else-class-via-then-class+else-subset w ↦
          sets_tell _ _ c.class-else-eq.ensures c.class.ensures w.if-class.true w.set.ensures w.set-then-class.ensures w.subset.ensures
          ∙ w.if-subset.false
      | else-class-via-else-class w ↦ class_short _ _ c.class-else-eq.ensures c.class.ensures w.if-class.false
    ])
    (elim c.else-class-2.branch [
      | else-class-2-via-then-class-2+else-subset-2 w ↦
          sets_tell _ _ c.class-else-class-2.ensures c.class-else-class.ensures w.if-class-2.true
          w.set-then-class-2.ensures w.set-then-class-2-2.ensures w.subset-then-class-2.ensures
          ∙ w.if-subset-2.false
      | else-class-2-via-else-class-2 w ↦ class_short _ _ c.class-else-class-2.ensures c.class-else-class.ensures w.if-class-2.false
    ]))
