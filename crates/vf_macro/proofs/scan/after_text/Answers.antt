use Rattle.vf_macro.proofs.MacroTexts.{goes_on, ends_here, shorter, within}
use Rattle.vf_macro.proofs.scan.after_text.Goals as goal

pub parts-smaller : goal.parts-smaller
parts-smaller c = shorter c.parts.from.now c.in-Whole.after.now c.in-Whole.ensures

pub parts-preserved : goal.parts-preserved
parts-preserved c = goes_on c.args.bytes.now c.parts.from.now c.in-Whole.after.now c.in-Whole.ensures c.parts.invariant

pub returns-in-Last-clause-reaches : goal.returns-in-Last-clause-reaches
returns-in-Last-clause-reaches c =
    ends_here c.args.bytes.now c.parts.from.now c.in-Last.rest.now c.in-Last.ensures c.parts.invariant

pub returns-in-Last-clause-within : goal.returns-in-Last-clause-within
returns-in-Last-clause-within c =
    within c.args.bytes.now c.in-Last.rest.now
    (ends_here c.args.bytes.now c.parts.from.now c.in-Last.rest.now c.in-Last.ensures c.parts.invariant)
