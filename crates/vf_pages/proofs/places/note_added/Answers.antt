use Rattle.std.proofs.Common.{arith}
use Rattle.vf_pages.specs.Views.{pages_of}
use Rattle.vf_pages.proofs.Lookups.{length-pages}
use Rattle.vf_pages.proofs.Tables.{table-kept}
use Rattle.vf_pages.proofs.places.note_added.Goals as goal

pub returns-else-len-before-clause-table : goal.returns-else-len-before-clause-table
returns-else-len-before-clause-table c = λ old sorted table long more.
    let held = c.args.held.now.items in
    table-kept c.args.places.now.items old (pages_of held) sorted c.requires.sorted table (omega (arith, long, length-pages held, c.if-len-before.false, c.len.ensures)) more
