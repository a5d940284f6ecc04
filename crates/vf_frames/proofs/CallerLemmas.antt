-- What proofs of the crates above may use.
-- holders in another order: moved to the front, to the middle, side by side
pub use Rattle.vf_frames.proofs.HolderLemmas.{Reordered, reordered-same, reordered-then, reordered-before, reordered-sides, reordered-front, reordered-middle}
-- what a pool accounts for, and what a call keeps, in another order and among others
pub use Rattle.vf_frames.proofs.HolderLemmas.{accounts-reordered, keeps-reordered, keeps-among, total-append}
pub use Rattle.vf_frames.proofs.HolderLemmas.{accounts-swap, accounts-behind, accounts-turn, accounts-last, accounts-outer}
-- one call after another
pub use Rattle.vf_frames.proofs.HolderLemmas.{keeps-then, pool-then}
pub use Rattle.vf_frames.proofs.NoteLemmas.{rest-then, notes-then, notes-weaker, notes-none, no-win-then, wins-append, any-left, any-right, any-one}
