-- What proofs of the crates above may use.
-- a reserved word and a name at the front or none; what is read begins with no word or sign that nothing is read from
pub use Rattle.vf_statement.proofs.FrontLemmas.{word_token, after_word_is, after_word_again, after_word_other, name_is, name_again, no_word, no_sign, not_word}
-- what is read is a statement that no `else` follows which would belong to it, and each such statement is read; it is at least one token
pub use Rattle.vf_statement.proofs.Sound.{Reads, stmt_is}
pub use Rattle.vf_statement.proofs.Complete.{stmt_again}
pub use Rattle.vf_statement.proofs.Shorter.{stmt_shorter}
-- the same of a target, `=` and an expression
pub use Rattle.vf_statement.proofs.Sound.{assign_part_is}
pub use Rattle.vf_statement.proofs.Complete.{assign_part_again}
pub use Rattle.vf_statement.proofs.Shorter.{assign_part_shorter}
