-- What proofs of the crates above may use.
-- a page is found under its own number, and pages by rising numbers one by one
pub use Rattle.vf_pages.proofs.Entries.{entry-page, entry-here, entry-other, entry-below, rises-parts, rises-behind}
-- written pages rise
pub use Rattle.vf_pages.proofs.Changes.{written_pages-rise}
-- a holder has as many frames as pages
pub use Rattle.vf_pages.proofs.Counting.{held-exactly}
-- pages with the same words, index by index
pub use Rattle.vf_pages.proofs.Bases.{same_at, same_from}
-- what a pool keeps over two calls
pub use Rattle.vf_frames.proofs.CallerLemmas.{keeps-then, pool-then}
