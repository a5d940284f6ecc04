use Rattle.std.proofs.Common.{◌≡◌, ◌+◌, ◌-◌, ◌∙◌, arith}
use Rattle.vf_format.proofs.DigitLemmas.{number-none, fits-none, number_more, fits_more}
use Rattle.vf_format.proofs.digits.number_in.Goals as goal

pub loop-at-init : goal.loop-at-init
loop-at-init c = record {
  low = c.requires.low;
  high = omega arith;
  is = number-none c.args.value.bits c.args.high;
  fits = fits-none c.args.high;
}

pub loop-at-preserved : goal.loop-at-preserved
loop-at-preserved c =
    let below : c.loop-at.at - 1 + 1 ≡ c.loop-at.at = omega arith in
    record {
      low = omega arith;
      high = omega arith;
      is = c.appended-number.ensures
          ∙ number_more c.args.value.bits (c.loop-at.at - 1) c.loop-at.at c.args.high c.loop-at.number c.bit.result below c.loop-at.invariant.high c.bit.ensures c.loop-at.invariant.is;
      fits = let more = fits_more (c.loop-at.at - 1) c.loop-at.at c.args.high c.loop-at.number c.bit.result below c.loop-at.invariant.high c.loop-at.invariant.fits in
          let is = c.appended-number.ensures in omega arith;
    }
