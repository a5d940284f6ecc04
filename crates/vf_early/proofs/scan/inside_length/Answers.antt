use Rattle.std.proofs.Common.{sym, ◌∙◌}
use Rattle.vf_early.proofs.Scanning.{inside_breaks, inside_closes, inside_goes, inside_lacks}
use Rattle.vf_early.proofs.scan.inside_length.Goals as goal

pub returns-then-byte-eq10-clause-value : goal.returns-then-byte-eq10-clause-value
returns-then-byte-eq10-clause-value c = inside_breaks c.loop-at.escaped c.args.bytes.now c.loop-at.at _ c.loop-at-test.true c.if-byte-eq10.true c.loop-at.invariant

pub returns-then-closes-clause-value : goal.returns-then-closes-clause-value
returns-then-closes-clause-value c = inside_closes c.loop-at.escaped c.args.bytes.now c.loop-at.at _ c.loop-at-test.true c.if-byte-eq10.false (sym c.closes.ensures ∙ c.if-closes.true) c.loop-at.invariant

pub loop-at-preserved : goal.loop-at-preserved
loop-at-preserved c = rw c.escapes-escaped.ensures (inside_goes c.loop-at.escaped c.args.bytes.now c.loop-at.at _ c.loop-at-test.true c.if-byte-eq10.false (sym c.closes.ensures ∙ c.if-closes.false) c.loop-at.invariant)

pub returns-clause-value : goal.returns-clause-value
returns-clause-value c = inside_lacks c.loop-at.escaped c.args.bytes.now c.loop-at.at _ c.loop-at-test.false c.loop-at.invariant
