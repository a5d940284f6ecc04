use Rattle.vf_run.proofs.StopLemmas.{turns_within, end_counted}
use Rattle.vf_run.proofs.run.stand.Goals as goal

pub returns-then-reads_past-clause-within : goal.returns-then-reads_past-clause-within
returns-then-reads_past-clause-within g c = turns_within c.args.sim.now c.reads_past.ensures.kept

pub returns-in-Ended-clause-once : goal.returns-in-Ended-clause-once
returns-in-Ended-clause-once g c = (end_counted c.args.sim.now c.args.next.now c.reads_past.ensures.kept c.requires.next).once

pub returns-in-Ended-clause-within : goal.returns-in-Ended-clause-within
returns-in-Ended-clause-within g c = (end_counted c.args.sim.now c.args.next.now c.reads_past.ensures.kept c.requires.next).within
