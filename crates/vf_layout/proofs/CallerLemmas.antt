-- What proofs of the crates above may use: the laws, for proofs that no law function can hand over to; what stands after words are
-- written, and what writing in a part of a list leaves.
pub use Rattle.vf_layout.proofs.Holding.{values_held}
pub use Rattle.vf_layout.proofs.StandingLemmas.{words_standing}
pub use Rattle.vf_layout.proofs.ChangeLemmas.{front_written, changes_written}
pub use Rattle.vf_layout.proofs.FutureLemmas.{regions_written, regions_move}
pub use Rattle.vf_layout.proofs.SoundLemmas.{sound_written}
pub use Rattle.vf_layout.proofs.PutLemmas.{length-put_all, put_all_before, put_all_read}
-- what the operations on a list write, by what its ends are
pub use Rattle.vf_layout.proofs.Queueing.{joined_empty, joined_more, taken_by}
-- a list has no more events than have numbers
pub use Rattle.vf_layout.proofs.FewLemmas.{numbered_below, few_events}
-- the numbers of events in lists
pub use Rattle.vf_layout.proofs.Lists.{numbers-append, has_link}
-- the planes of a value have no bit above its width
pub use Rattle.vf_layout.proofs.ValueLemmas.{ones_below, unknown_below, bits_again}
