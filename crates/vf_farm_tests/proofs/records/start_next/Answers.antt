use Rattle.std.proofs.Common.{◌∙◌, sym, ap}
use Rattle.vf_journal.specs.Records.{is_job}
use Rattle.vf_records.specs.Account.{Account}
use Rattle.vf_records.proofs.CallerLemmas.{next_ready, next_planned}
use Rattle.vf_farm_tests.proofs.records.start_next.Goals as goal

pub start-origin-requires : goal.start-origin-requires
start-origin-requires c = next_ready c.args.records.now c.in-Job.job (sym c.next_job.ensures ∙ c.in-Job.is)

pub attempt-attempt-requires : goal.attempt-attempt-requires
attempt-attempt-requires c =
    ap (λ (a : Account). is_job a.setup.plan c.in-Job.job) c.start-origin.ensures.journal
    ∙ next_planned c.args.records.now c.in-Job.job (sym c.next_job.ensures ∙ c.in-Job.is)
