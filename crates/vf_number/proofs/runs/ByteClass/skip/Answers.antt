use Rattle.std.proofs.Common.{length, ap, arith, length-append}
use Rattle.vf_number.proofs.runs.ByteClass.skip.Goals as goal

pub returns-clause-within : goal.returns-clause-within
returns-clause-within g c = omega
    (arith, ap length c.split.ensures.whole, length-append c.split.result.0.now c.split.result.1.now)
