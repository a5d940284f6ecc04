-- What proofs of the crates above may use: a select that lies outside its value is all x.
pub use Rattle.vf_fours.proofs.OperatorLemmas.{select_outside}
