use Rattle.std.proofs.Common.{◌≡◌, ◌++◌, length}
use Rattle.vf_lexeme.specs.Reading.{decoded}
use Rattle.vf_lexeme.proofs.strings.decoded.Given as goal

-- the bytes so far, and those of the rest
abbrev pub invariant-loop-first : goal.invariant-loop-first
invariant-loop-first l = decoded 0 l.inside ≡ l.value.items ++ decoded 0 l.rest

abbrev pub decreases-loop-first : goal.decreases-loop-first
decreases-loop-first l = length l.rest
