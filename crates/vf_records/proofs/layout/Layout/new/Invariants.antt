use Rattle.vf_records.specs.Layout.{IsLaidOut}
use Rattle.vf_records.proofs.layout.Layout.new.Given as goal

abbrev pub invariant-loop-at : goal.invariant-loop-at
invariant-loop-at l = IsLaidOut l.plan l.at l.layout.jobs.items l.layout.places.items
