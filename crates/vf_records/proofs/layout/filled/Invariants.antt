use Rattle.std.proofs.Common.{◌≡◌, replicate}
use Rattle.vf_records.proofs.layout.filled.Given as goal

abbrev pub invariant-loop : goal.invariant-loop
invariant-loop g l = l.things.items ≡ replicate l.counter l.thing
