use Rattle.std.proofs.Common.{◌≡◌, ◌+◌, ◌≤◌, length}
use Rattle.vf_base.specs.declared.names.Job.{Job}
use Rattle.vf_plan.specs.declared.limits.TheConstants.{MOST_TURNS}
use Rattle.vf_records.specs.Account.{records_in}
use Rattle.vf_here.specs.Work.{IsAtWork, turns_in, left_in}
use Rattle.vf_here.proofs.attempt.run.Given as goal

abbrev pub invariant-turns : goal.invariant-turns
invariant-turns g l = record {
  work : IsAtWork (g.F.Frames.name l.pool) (g.F.Frames.numbers l.pool) l.book (g.F.Frames.seen l.hand) l.sim;
  setup : l.book.account.setup ≡ l.fn.book.account.setup;
  of_sim : l.sim.setup ≡ l.fn.sim.setup;
  job : l.sim.job ≡ l.fn.sim.job;
  stages : (job : Job) → (records_in l.book.account).stages job ≡ (records_in l.fn.book.account).stages job;
  left : left_in l.book.account ≡ left_in l.fn.book.account;
  turns : turns_in l.book.account ≡ turns_in l.fn.book.account;
  count : l.steps.count + l.fn.sim.header.turns ≡ l.fn.steps.count + l.sim.header.turns;
  made : l.steps.count ≤ l.fn.steps.count + MOST_TURNS;
  forward : l.fn.sim.header.turns ≤ l.sim.header.turns;
  parts : l.steps.parts ≡ l.fn.steps.parts;
}

abbrev pub decreases-turns : goal.decreases-turns
decreases-turns g l = length (records_in l.book.account).held
