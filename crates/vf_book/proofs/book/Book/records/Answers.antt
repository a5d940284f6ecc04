use Rattle.std.proofs.Common.{subst}
use Rattle.vf_book.specs.Book.{IsBook}
use Rattle.vf_book.proofs.book.Book.records.Goals as goal

pub returns-clause-kept : goal.returns-clause-kept
returns-clause-kept g c = subst IsBook c.self.view_is c.self.invariant
