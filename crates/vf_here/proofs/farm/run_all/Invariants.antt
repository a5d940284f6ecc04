use Rattle.std.proofs.Common.{◌≡◌, ◌+◌, ◌*◌, ◌≤◌}
use Rattle.vf_plan.specs.declared.limits.TheConstants.{MOST_TURNS}
use Rattle.vf_here.specs.Work.{IsIdle, turns_in, left_in}
use Rattle.vf_here.proofs.farm.run_all.Given as goal

abbrev pub invariant-jobs : goal.invariant-jobs
invariant-jobs g l = record {
  idle : IsIdle (g.F.Frames.name l.pool) (g.F.Frames.numbers l.pool) l.book (g.F.Frames.seen l.hand);
  setup : l.book.account.setup ≡ l.fn.book.account.setup;
  turns : l.steps.count + turns_in l.fn.book.account ≡ l.fn.steps.count + turns_in l.book.account;
  most : l.steps.count + MOST_TURNS * left_in l.book.account ≤ l.fn.steps.count + MOST_TURNS * left_in l.fn.book.account;
  parts : l.steps.parts ≡ l.fn.steps.parts;
}

abbrev pub decreases-jobs : goal.decreases-jobs
decreases-jobs g l = left_in l.book.account
