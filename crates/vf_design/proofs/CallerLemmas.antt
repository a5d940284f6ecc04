-- What proofs of the crates above may use: the states of a design's runs are sound, and have the design's words.
pub use Rattle.vf_design.proofs.Sounds.{start_sound, turn_sound}
pub use Rattle.vf_design.proofs.Laid.{length-words_of, laid_out}
pub use Rattle.vf_design.proofs.ReadLemmas.{reads_on}
