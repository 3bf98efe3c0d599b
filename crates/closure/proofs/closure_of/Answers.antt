-- The goals that are left.
use mathlib.Core.Path.{◌∙◌}
use native.Mathlib.Omega.{arith}
use lib.ListN.{get_or}
use Rattle.std.proofs.Common.{rules}
use Rattle.bits.specs.Words.{◌with◌}
use Rattle.bits.proofs.Chains.{made_is}
use Rattle.closure.proofs.Closure.{through_none, through_more, closed}
use Rattle.closure.proofs.closure_of.Goals as goal

pub loop-k-init : goal.loop-k-init
loop-k-init c = made_is _ (λ r. get_or c.args.direct.now r 0 with r) 64 (λ i y q k. (search rules, λ l. search rules)) c.from_fn-rows.ensures.items ∙ through_none _

pub loop-k-preserved : goal.loop-k-preserved
loop-k-preserved c = through_more _ c.loop-k.k c.loop-k.invariant c.pass_through.ensures

pub returns : goal.returns
returns c =
    closed _ c.loop-k.k c.loop-k.invariant (let a = c.loop-k.auto.k-end in let b = c.loop-k-test.false in omega arith)
