use Rattle.std.proofs.Common.{◌≡◌, ℕ, length, take, drop}
use Rattle.vf_ports.specs.Sink.{Appends}
use Rattle.vf_ports.proofs.sink.put_all.Given as goal

-- the rest is what follows the bytes that went out
abbrev pub invariant-loop-rest : goal.invariant-loop-rest
invariant-loop-rest g l = record {
  count : ℕ;
  rest : l.rest ≡ drop count l.bytes;
  out : Appends (g.K.Sink.seen l.initial.sink).written (g.K.Sink.seen l.sink).written (take count l.bytes);
  no_fault : (g.K.Sink.seen l.sink).faults ≡ (g.K.Sink.seen l.initial.sink).faults;
}

abbrev pub decreases-loop-rest : goal.decreases-loop-rest
decreases-loop-rest g l = length l.rest
