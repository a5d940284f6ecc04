-- What proofs of the crates above may use: the turn that comes next counts as one, and comes before the limit on turns.
pub use Rattle.vf_image.proofs.StepLemmas.{turn_counts, before_the_limit}
