use Rattle.std.proofs.Common.{◌≡◌, ◌+◌, ◌-◌, ◌∙◌, sym, arith}
use Rattle.vf_format.specs.Printed.{byte_at}
use Rattle.vf_format.proofs.DigitLemmas.{first_gone, first_stays, none_stays}
use Rattle.vf_format.proofs.format.byte_count.Goals as goal

pub loop-count-preserved : goal.loop-count-preserved
loop-count-preserved c =
    let below : c.loop-count.count - 1 + 1 ≡ c.loop-count.count = omega arith in
    record {
      most = let most = c.loop-count.invariant.most in omega arith;
      text = first_gone 0 (byte_at c.args.value.bits) (c.loop-count.count - 1) c.loop-count.count below (sym c.byte.ensures ∙ c.if-byte-eq0.true) ∙ c.loop-count.invariant.text;
    }

pub returns-else-byte-eq0-clause-text : goal.returns-else-byte-eq0-clause-text
returns-else-byte-eq0-clause-text c =
    let below : c.loop-count.count - 1 + 1 ≡ c.loop-count.count = omega arith in
    first_stays 0 (byte_at c.args.value.bits) (c.loop-count.count - 1) c.loop-count.count below (λ e. c.if-byte-eq0.false (c.byte.ensures ∙ e)) ∙ c.loop-count.invariant.text

pub returns-after-loop-count-clause-text : goal.returns-after-loop-count-clause-text
returns-after-loop-count-clause-text c = none_stays 0 (byte_at c.args.value.bits) c.loop-count.count c.loop-count-test.false ∙ c.loop-count.invariant.text
