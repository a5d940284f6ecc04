use Rattle.std.proofs.Common.{refl, sym}
use Rattle.vf_macro.specs.Scanning.{stops, goes}
use Rattle.vf_macro.proofs.scan.after_inside.Goals as goal

pub loop-more-preserved : goal.loop-more-preserved
loop-more-preserved c = λ end r. c.loop-more.invariant end (goes c.in-Some.more.now (sym c.in-Some.ensures.value) r)

pub returns : goal.returns
returns c = c.loop-more.invariant _ (stops (sym c.in_default.ensures.value) refl)
