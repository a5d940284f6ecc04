use Rattle.std.proofs.Common.{◌≡◌, ◌+◌, ◌-◌, ◌*◌, length}
use Rattle.vf_lex.specs.Answers.{Carries, HasRoom}
use Rattle.vf_lex.specs.Inner.{around}
use Rattle.vf_lex.proofs.read.+reading.Given as goal

abbrev pub decreases-read : goal.decreases-read
decreases-read l = 2 * (17 - l.spot.depth) + 1

abbrev pub decreases-step : goal.decreases-step
decreases-step l = 2 * (17 - l.spot.depth)

-- what is read from the rest on is read from the text on
abbrev pub invariant-read-loop-rest : goal.invariant-read-loop-rest
invariant-read-loop-rest l = record {
  carries : Carries l.fn.spot (around l.fn.reader) l.fn.text l.spot (around l.reader) l.rest;
  room : HasRoom l.spot l.rest;
  depth : l.spot.depth ≡ l.fn.spot.depth;
}

abbrev pub decreases-read-loop-rest : goal.decreases-read-loop-rest
decreases-read-loop-rest l = length l.rest
