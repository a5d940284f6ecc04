use Rattle.std.proofs.Common.{◌≡◌, drop, vec_len}
use Rattle.vf_machine.specs.Writes.{AllInside, written}
use Rattle.vf_machine_tests.proofs.walk.perform.Given as goal

-- what is left of the writes leads to the same words as all of them
abbrev pub invariant-loop-write : goal.invariant-loop-write
invariant-loop-write l =
    (written l.words.items (drop l.write-index l.writes) ≡ written l.initial.words.items l.writes)
    × AllInside (vec_len l.words) (drop l.write-index l.writes)
