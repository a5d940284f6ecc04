use Rattle.std.proofs.Common.{◌∙◌, subst, arith}
use Rattle.vf_records.specs.Account.{IsAccount}
use Rattle.vf_here.proofs.WorkLemmas.{few_left, all_over}
use Rattle.vf_here.proofs.farm.run_all.Goals as goal

pub run_job-requires-clause-room : goal.run_job-requires-clause-room
run_job-requires-clause-room g c =
    let few = few_left c.args.book.now.account (subst IsAccount c.records.ensures.records c.known.ensures) in
    omega (arith, few, c.jobs.invariant.most, c.requires.count)

pub returns-in_default : goal.returns-in_default
returns-in_default g c =
    let inv = c.jobs.invariant in
    let kept : IsAccount c.jobs.book.account = subst IsAccount c.records-in-jobs.ensures.records c.known-in-jobs.ensures in
    record {
      idle = inv.idle;
      setup = inv.setup;
      kept = kept;
      over = all_over c.jobs.book.account kept inv.idle.none (λ job e. c.in_default.not-Job job (c.next_job.ensures ∙ e));
      turns = inv.turns;
      parts = inv.parts;
    }
