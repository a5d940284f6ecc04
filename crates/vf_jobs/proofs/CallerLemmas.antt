-- What proofs of the crates above may use: a node's stimulus begins with that of each node above it and is longer, and runs share what comes before
-- a save point.
pub use Rattle.vf_jobs.proofs.SubtreeLemmas.{begins, begins_more, below, descends}
-- what is below a node is below each node above it, and stands after it
pub use Rattle.vf_jobs.proofs.SubtreeLemmas.{further_below, stands_before}
pub use Rattle.vf_jobs.proofs.SaveLemmas.{shares_save_point}
-- of two save points on one way the upper one comes first
pub use Rattle.vf_jobs.proofs.SaveLemmas.{IsBefore, upper_first}
-- what is decided first, and nothing before
pub use Rattle.vf_jobs.proofs.DecisionLemmas.{decides, Decided, decided_by}
-- a kind that is Saved tells the save point
pub use Rattle.vf_jobs.proofs.DecisionLemmas.{saved_is}
-- the limits of a job are at most those of the job that reaches a node on its path
pub use Rattle.vf_jobs.proofs.LimitLemmas.{limits_lower}
-- which jobs come to what the job that reaches a node comes to: the laws, for proofs that no law function can hand over to
pub use Rattle.vf_jobs.proofs.CopyLemmas.{endings_copied, passings_copied}
