-- What proofs of the crates above may use.
-- what the readers read is a tree of the grammar, and each is read; an item is at least one token, and begins with no other word
pub use Rattle.vf_item.proofs.Wholes.{readings_are}
pub use Rattle.vf_item.proofs.Shorter.{item_shorter, params_within, port_list_within}
pub use Rattle.vf_item.proofs.Complete.{IsOther, else_other, end_other, item_no_word}
-- rows: a step of a loop; what is read of one is a row of the grammar, and each is read; how many tokens it is
pub use Rattle.vf_item.proofs.RowLemmas.{done, closed_by, row_step, ReadsRow, row_read, ReadsOne, row_follows, row_reads, row_shorter}
-- a name that is read
pub use Rattle.vf_item.proofs.Fronts.{name_read, name_reads, before_name}
