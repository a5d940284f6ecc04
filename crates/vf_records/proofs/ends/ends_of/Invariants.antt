use Rattle.std.proofs.Common.{◌≡◌, length}
use Rattle.vf_records.proofs.EndLemmas.{EndOwn}
use Rattle.vf_records.proofs.ends.ends_of.Given as goal

-- the places of the jobs so far
abbrev pub invariant-loop-at : goal.invariant-loop-at
invariant-loop-at l = record {
  long : length l.ends.items ≡ length l.nodes;
  own : EndOwn l.jobs.items l.ends.items l.at;
}
