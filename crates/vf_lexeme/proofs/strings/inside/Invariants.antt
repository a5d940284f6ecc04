use Rattle.std.proofs.Common.{◌≡◌, ◌++◌, take, drop, false}
use Rattle.std.specs.Option.{option_map}
use Rattle.vf_lexeme.specs.Reading.{inside_at}
use Rattle.vf_lexeme.proofs.strings.inside.Given as goal

-- the bytes before the place belong to the string
abbrev pub invariant-loop-at : goal.invariant-loop-at
invariant-loop-at l = inside_at false l.text ≡ option_map (λ p. (take l.at l.text ++ p.0, p.1))
    (inside_at l.escaped (drop l.at l.text))
