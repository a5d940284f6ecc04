use Rattle.std.proofs.Common.{◌≡◌, ◌+◌, ◌-◌, ◌++◌, ◌∙◌, ap, arith}
use Rattle.vf_format.specs.Printed.{falling, digit_at}
use Rattle.vf_format.proofs.DigitLemmas.{append_falling, append_none}
use Rattle.vf_format.proofs.format.write_digits.Goals as goal

pub loop-k-preserved : goal.loop-k-preserved
loop-k-preserved c =
    let f = digit_at c.args.size c.args.value.bits in
    let below : c.loop-k.k - 1 + 1 ≡ c.loop-k.k = omega arith in
    record {
      most = let most = c.loop-k.invariant.most in omega arith;
      text = ap (λ t. t ++ falling f (c.loop-k.k - 1)) c.in_ok-push_all.ensures.ok
          ∙ append_falling c.loop-k.into f (c.loop-k.k - 1) c.loop-k.k c.digit.result below c.digit.ensures ∙ c.loop-k.invariant.text;
    }

pub returns : goal.returns
returns c = append_none c.loop-k.into (digit_at c.args.size c.args.value.bits) c.loop-k.k c.loop-k-test.false ∙ c.loop-k.invariant.text
