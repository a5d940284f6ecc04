use Rattle.std.proofs.Common.{◌-◌, sym, subst, arith}
use Rattle.vf_format.specs.Seen.{Tells}
use Rattle.vf_format.proofs.DigitLemmas.{run_more}
use Rattle.vf_format.proofs.digits.letter_in.Goals as goal

pub loop-at-preserved : goal.loop-at-preserved
loop-at-preserved c =
    let bits = c.args.value.bits in
    let run = run_more bits (c.loop-at.at - 1) c.loop-at.at c.args.high c.bit.result (omega arith) c.loop-at.invariant.high c.bit.ensures in
    record {
      low = omega arith;
      high = omega arith;
      tells = subst (Tells c.with-seen.result) (sym run) (c.with-seen.ensures _ c.loop-at.invariant.tells);
    }
