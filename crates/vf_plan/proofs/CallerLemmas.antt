-- What proofs of the crates above may use: a node's stimulus and its path are its parent's and its own part, a parent comes before its
-- child, and past the nodes there is no path.
pub use Rattle.vf_plan.proofs.PathLemmas.{joined-at, path-at, path-past}
pub use Rattle.vf_plan.proofs.ReaderLemmas.{parent_before}
