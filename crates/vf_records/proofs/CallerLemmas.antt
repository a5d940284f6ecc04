-- What proofs of the crates above may use: the job that comes next is the first ready one, so it is ready and of the plan; where none comes next,
-- all are over; where no job runs, one comes next or all are over; a ready job has not started,
-- and is given up at turn 0; and a lawful journal is replayed to the records that it comes to.
pub use Rattle.vf_records.proofs.ReadyLemmas.{next_ready, ready_next, next_planned, done_over, never_later, idle_ready, given_up_idle}
pub use Rattle.vf_records.proofs.JournalLemmas.{replayed}
