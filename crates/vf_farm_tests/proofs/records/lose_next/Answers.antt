use Rattle.std.proofs.Common.{◌∙◌, sym}
use Rattle.std.proofs.lemmas.Bool.{or_right}
use Rattle.vf_journal.specs.Records.{is_ready, is_running}
use Rattle.vf_records.specs.Account.{farm_of, records_in}
use Rattle.vf_records.proofs.CallerLemmas.{ready_next, idle_ready, given_up_idle}
use Rattle.vf_farm_tests.proofs.records.lose_next.Goals as goal

pub lose-requires : goal.lose-requires
lose-requires c =
    let a = c.args.records.now in
    let job = c.in-Job.job in
    let r = records_in a in
    let ready = ready_next a job (sym c.next_job.ensures ∙ c.in-Job.is) in
    record {
      guard = or_right (is_running (r.stages job)) (is_ready (farm_of a.setup) r job) ready;
      chosen = tt;
      solo = given_up_idle (farm_of a.setup) job (r.stages job) (idle_ready a.setup r job ready);
    }
