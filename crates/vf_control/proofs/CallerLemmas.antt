-- What proofs of the crates above may use.
-- what the readers read is a tree of the grammar, and each is read; it is at least one token
pub use Rattle.vf_control.proofs.Wholes.{readings_are}
pub use Rattle.vf_control.proofs.Shorter.{target_shorter, delay_shorter, events_shorter, task_shorter}
-- lists: a step of a loop; what is read of one is a list of the grammar, and each is read; how many tokens it is
pub use Rattle.vf_control.proofs.ListLemmas.{many_step, ReadsMany, many_read, ReadsOne, many_follows, many_reads, many_shorter, list_read, list_reads, list_shorter}
-- what a test let through, and what was read by an equation
pub use Rattle.vf_control.proofs.WordLemmas.{taken, done}
-- a string at the front
pub use Rattle.vf_control.proofs.WordLemmas.{string_is, string_again}
-- the depth of what is read is at most that of the expressions in it
pub use Rattle.vf_control.proofs.Small.{exprs_small, target_small, delay_small, events_small, task_small}
