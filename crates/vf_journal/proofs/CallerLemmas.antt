-- What proofs of the crates above may use: the laws, for proofs that no law function can hand over to.
pub use Rattle.vf_journal.proofs.HoldingLemmas.{holds_images, some_can_go}
pub use Rattle.vf_journal.proofs.JournalLemmas.{tells_solo}
pub use Rattle.vf_journal.proofs.WholeLemmas.{ends_whole}
pub use Rattle.vf_journal.proofs.ReplayLemmas.{is_replayed, turns_add_up_lem}
-- which images and which jobs an entry leaves
pub use Rattle.vf_journal.proofs.AfterLemmas.{image_last, evict_leaves, evict_falls, found_held, running_free, base_serves, evicted_is, over_stays, ended_over, left_falls}
-- one job at a time
pub use Rattle.vf_journal.proofs.AfterLemmas.{alone_started, none_runs_after, none_runs_still, none_ready, is_done}
-- the image from which a job starts serves it
pub use Rattle.vf_journal.proofs.StartLemmas.{IsServed, origin_serves}
-- a run at a point of its solo run, and what is decided there
pub use Rattle.vf_journal.proofs.PointLemmas.{IsRunAt, turns_within}
pub use Rattle.vf_journal.proofs.DecisionLemmas.{SavesAt, Stands, endings_stand, EndsAt, ends_still, ends_at, saves, savepoint_is, kind_saved, kind_passed, kind_over, kind_ended, outcome_ended, pages_at_end, outcome_passed}
-- a journal that grows stays tight, and turns add up
pub use Rattle.vf_journal.proofs.TightLemmas.{Reaches, tight-append, tight_nil, pages_later, pages_with, tight_next, no_turns, none_running}
-- with one job at a time
pub use Rattle.vf_journal.proofs.TightLemmas.{far_at, none_far, tight_later, tight_started, tight_evicted, pages_closed, tight_closed, tight_unstarted}
-- the image of a node among those that are kept by their nodes, and no two images of one node in what is kept or grows
pub use Rattle.vf_journal.proofs.ImageLists.{find_filtered, distinct_filtered, distinct_more}
