use Rattle.std.proofs.Common.{sym, ◌∙◌}
use Rattle.vf_lexeme.proofs.Stringing.{inside_breaks, inside_closes, inside_goes, inside_lacks}
use Rattle.vf_lexeme.proofs.strings.inside.Goals as goal

pub returns-then-byte-eq10 : goal.returns-then-byte-eq10
returns-then-byte-eq10 c = inside_breaks c.loop-at.escaped c.args.text.now c.loop-at.at _ c.loop-at-test.true c.if-byte-eq10.true
    c.loop-at.invariant

pub returns-then-closes : goal.returns-then-closes
returns-then-closes c = inside_closes c.loop-at.escaped c.args.text.now c.loop-at.at _ c.loop-at-test.true c.if-byte-eq10.false
    (sym c.closes.ensures ∙ c.if-closes.true) c.loop-at.invariant

pub loop-at-preserved : goal.loop-at-preserved
loop-at-preserved c = rw c.escapes-escaped.ensures
    (inside_goes c.loop-at.escaped c.args.text.now c.loop-at.at _ c.loop-at-test.true c.if-byte-eq10.false
    (sym c.closes.ensures ∙ c.if-closes.false) c.loop-at.invariant)

pub returns : goal.returns
returns c = inside_lacks c.loop-at.escaped c.args.text.now c.loop-at.at _ c.loop-at-test.false c.loop-at.invariant
