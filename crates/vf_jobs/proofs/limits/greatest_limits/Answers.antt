use Rattle.std.proofs.Common.{◌≡◌, ◌+◌, ◌-◌, subst, arith}
use Rattle.vf_jobs.specs.Tables.{AreGreatest}
use Rattle.vf_jobs.proofs.LimitLemmas.{none_taken}
use Rattle.vf_jobs.proofs.limits.greatest_limits.Goals as goal

pub loop-at-init : goal.loop-at-init
loop-at-init c = (none_taken c.args.given c.args.nodes.now c.in_ok-tops.tops.items (c.in_ok-tops.ensures.items_if_clones_equal (λ y h. grind (arith, h))), omega arith)

pub take_in-requires-clause-at : goal.take_in-requires-clause-at
take_in-requires-clause-at c = let within = c.loop-at.invariant.1 in omega (arith, within, c.loop-at-test.true)

pub take_in-requires-clause-tops : goal.take_in-requires-clause-tops
take_in-requires-clause-tops c =
    subst (λ k. AreGreatest c.args.given c.args.nodes.now k c.loop-at.tops.items) (let k : c.loop-at.at ≡ c.loop-at.at - 1 + 1 = omega (arith, c.loop-at-test.true) in k) c.loop-at.invariant.0

pub loop-at-preserved : goal.loop-at-preserved
loop-at-preserved c = (c.take_in.ensures, let within = c.loop-at.invariant.1 in omega (arith, within))

pub returns : goal.returns
returns c = subst (λ k. AreGreatest c.args.given c.args.nodes.now k c.loop-at.tops.items) (let k : c.loop-at.at ≡ 0 = omega (arith, c.loop-at-test.false) in k) c.loop-at.invariant.0
