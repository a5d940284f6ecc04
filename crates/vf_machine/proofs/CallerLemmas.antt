-- What proofs of the crates above may use beside the laws: lemmas on the definitions of a run.
-- the first moment, and each from the one before
pub use Rattle.vf_machine.proofs.Runs.{moment_at-zero, moment_at-suc, text_at-zero, text_at-suc}
-- a turn as it is without limits
pub use Rattle.vf_machine.proofs.Runs.{unlimited, within_limits, no_limit}
pub use Rattle.vf_machine.proofs.Prefixes.{same_free}
-- the laws, for proofs that no law function can hand over to
pub use Rattle.vf_machine.proofs.Prefixes.{prefix}
pub use Rattle.vf_machine.proofs.Ends.{run_ends_lem}
-- what a header counts: a turn reads once at most, and no number falls
pub use Rattle.vf_machine.proofs.Runs.{performed-reads, same_read, reads_once, reads_grow, free_turn-writes, written_grows, later}
pub use Rattle.vf_machine.proofs.Ends.{turn-counts, turns_counted, counts_once, before_limit}
-- a turn that by itself ends no run is an ending only by a limit
pub use Rattle.vf_machine.proofs.Ends.{ends_by_limits}
-- what every move of a machine keeps
pub use Rattle.vf_machine.proofs.Kept.{KeptBy, SeesByte, sees_byte, turn-kept, moments_kept, stimulus_of_bytes}
-- what a search below a bound finds, and how many numbers pass
pub use Rattle.vf_machine.proofs.Searches.{IsFirst, NoneBelow, Finds, none_below_more, first_finds, first_is}
pub use Rattle.vf_machine.proofs.SoloLemmas.{count_below-ext, count_below-le, count_below-more, count_below-mono}
-- the pages that writes change, and those that a run has touched
pub use Rattle.vf_machine.proofs.Changes.{any_found, changed_pages_lem, all_inside, length-written, is_touched-zero, is_touched-suc}
pub use Rattle.vf_machine.proofs.Touching.{touched_pages_grow_lem}
-- the solo run, from the turn at which it stops
pub use Rattle.vf_machine.proofs.SoloLemmas.{KeepsWithin, solo_ended, solo_passed}
