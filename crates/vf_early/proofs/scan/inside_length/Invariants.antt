use Rattle.std.proofs.Common.{◌≡◌, ◌+◌, drop, false}
use Rattle.std.specs.Option.{option_map}
use Rattle.vf_early.specs.Reading.{inside_from}
use Rattle.vf_early.proofs.scan.inside_length.Given as goal

-- the bytes before the place belong to the string
abbrev pub invariant-loop-at : goal.invariant-loop-at
invariant-loop-at l = inside_from false l.bytes ≡ option_map (λ n. n + l.at) (inside_from l.escaped (drop l.at l.bytes))
