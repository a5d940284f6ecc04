use Rattle.std.proofs.Common.{◌≡◌, ◌+◌, ◌-◌, ◌++◌, ◌∙◌, ap, arith}
use Rattle.vf_format.specs.Printed.{falling, byte_at}
use Rattle.vf_format.proofs.DigitLemmas.{append_falling, append_none}
use Rattle.vf_format.proofs.format.write_bytes.Goals as goal

pub loop-k-preserved : goal.loop-k-preserved
loop-k-preserved c =
    let f = byte_at c.args.value.bits in
    let below : c.loop-k.k - 1 + 1 ≡ c.loop-k.k = omega arith in
    record {
      most = let most = c.loop-k.invariant.most in omega arith;
      text = ap (λ t. t ++ falling f (c.loop-k.k - 1)) c.in_ok-push_all.ensures.ok
          ∙ append_falling c.loop-k.into f (c.loop-k.k - 1) c.loop-k.k c.byte.result below c.byte.ensures ∙ c.loop-k.invariant.text;
    }

pub returns : goal.returns
returns c = append_none c.loop-k.into (byte_at c.args.value.bits) c.loop-k.k c.loop-k-test.false ∙ c.loop-k.invariant.text
