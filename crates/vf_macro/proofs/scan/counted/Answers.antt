use Rattle.std.proofs.Common.{sym}
use Rattle.vf_macro.proofs.Counting.{counts_start, counts_joint, counts_byte, counts_end}
use Rattle.vf_macro.proofs.scan.counted.Goals as goal

pub loop-first-init : goal.loop-first-init
loop-first-init c = rw c.in_ok-text.ensures.items (counts_start c.args.bytes.now c.requires)

pub loop-first-preserved-in-Some-after_joint : goal.loop-first-preserved-in-Some-after_joint
loop-first-preserved-in-Some-after_joint c =
    rw c.in_ok-push-in-Some-after_joint.ensures.items
    (counts_joint c.args.bytes.now c.loop-first.text.items c.loop-first.rest.now c.in-Some-after_joint.after.now
    (sym c.in-Some-after_joint.ensures.value) c.loop-first.invariant)

pub loop-first-preserved : goal.loop-first-preserved
loop-first-preserved c =
    rw c.in_ok-push-in-None.ensures.items
    (counts_byte c.args.bytes.now c.loop-first.text.items c.loop-first.rest.now c.in-Some.more.now c.in-Some.first.now
    c.in-Some.ensures.cases.0 (sym c.in-None.ensures.value) c.loop-first.invariant)

pub returns : goal.returns
returns c = counts_end c.args.bytes.now c.loop-first.text.items c.loop-first.rest.now c.in_default.ensures.cases
    c.loop-first.invariant
