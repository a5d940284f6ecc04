use Rattle.std.proofs.Common.{◌≡◌, ◌++◌, replicate}
use Rattle.vf_format.proofs.format.put.Given as goal

abbrev pub invariant-loop : goal.invariant-loop
invariant-loop l = l.into ≡ l.fn.into ++ replicate l.counter 32
