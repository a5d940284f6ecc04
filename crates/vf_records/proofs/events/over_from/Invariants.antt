use Rattle.std.proofs.Common.{◌-◌, length}
use Rattle.vf_records.specs.Tables.{AreOver}
use Rattle.vf_records.proofs.events.over_from.Given as goal

abbrev pub invariant-loop-at : goal.invariant-loop-at
invariant-loop-at l = AreOver l.progress.items l.at

abbrev pub decreases-loop-at : goal.decreases-loop-at
decreases-loop-at l = length l.progress.items - l.at
