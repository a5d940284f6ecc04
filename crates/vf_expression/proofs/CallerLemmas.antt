-- What proofs of the crates above may use.
-- steps of a reader: what was found, what a test let through, what a choice by a text took
pub use Rattle.vf_expression.proofs.TokenLemmas.{bind_some, guard_some, some_is, found_is, chosen}
-- equal texts
pub use Rattle.vf_expression.proofs.TokenLemmas.{same_text, text_is}
-- a token by its kind, and a sign at the front or none
pub use Rattle.vf_expression.proofs.TokenLemmas.{kind_is, token_is, after_is, after_again, after_other, opening_is, opening_other}
-- a sign that ends an expression before it
pub use Rattle.vf_expression.proofs.Complete.{ends_at, ends_close, ends_bracket, ends_brace, ends_comma, ends_colon}
-- what is read is an expression of the grammar, each is read, and each is at least one token; its depth is at most the bound
pub use Rattle.vf_expression.proofs.Parts.{expr_read, expr_reads}
pub use Rattle.vf_expression.proofs.Shorter.{expr_shorter}
pub use Rattle.vf_expression.proofs.Complete.{expr_small}
-- the same of lists of expressions, of selects, and of an expression before a `)` and between parentheses
pub use Rattle.vf_expression.proofs.Parts.{exprs_read, exprs_reads, exprs_shorten, selects_read, selects_reads, selects_shorten, closed_read, closed_reads, argument_read, argument_reads}
-- neither a string nor a reserved word begins an expression
pub use Rattle.vf_expression.proofs.Parts.{string_no_expr, word_no_expr}
