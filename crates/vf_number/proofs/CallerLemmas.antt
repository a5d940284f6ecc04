-- The lemmas for the proofs of the crates above.

-- a text is the run of a class at its front, and what follows that
pub use Rattle.vf_number.proofs.RunLemmas.{run_parts}
-- all bytes of a run are of the class
pub use Rattle.vf_number.proofs.RunLemmas.{run_all}
-- what follows a run does not begin with a byte of the class
pub use Rattle.vf_number.proofs.RunLemmas.{after_run_ends}
-- bytes of the class in front of what does not begin with one are the run
pub use Rattle.vf_number.proofs.RunLemmas.{run_of}
-- and the rest is what follows the run
pub use Rattle.vf_number.proofs.RunLemmas.{after_run_of}
-- what follows the run is no longer than the text
pub use Rattle.vf_number.proofs.RunLemmas.{after_run_within}
-- what is after a byte or more of a text is shorter than the text
pub use Rattle.vf_number.proofs.Taking.{after_shorter}
-- a rest is after one byte and one list of bytes
pub use Rattle.vf_number.proofs.Taking.{after_first}
-- a rest is after one byte and two lists of bytes
pub use Rattle.vf_number.proofs.Taking.{after_two}
-- an answer leaves what is after a byte or more; a fault leaves nothing
pub use Rattle.vf_number.proofs.Taking.{Takes}
-- a number leaves what is after a byte or more
pub use Rattle.vf_number.proofs.Taking.{number_takes}
-- where a number begins, what is read is the number there or its fault
pub use Rattle.vf_number.proofs.Numbering.{number_sound}
-- and no other number or fault stands there
pub use Rattle.vf_number.proofs.Numbering.{number_complete}
-- where a number or a fault of one stands, a number begins
pub use Rattle.vf_number.proofs.Numbering.{number_begins}
