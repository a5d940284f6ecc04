use Rattle.std.proofs.Common.{arith}
use Rattle.vf_pages.specs.Pages.{pages_in, page_limit}
use Rattle.vf_pages.specs.Views.{pages_of}
use Rattle.vf_pages.proofs.Entries.{rises-length}
use Rattle.vf_pages.proofs.Lookups.{length-pages, length-numbers}
use Rattle.vf_pages.proofs.change.refusal_of.Goals as goal

pub overflow_cast-result : goal.overflow_cast-result
overflow_cast-result c =
    let held = c.args.held.now in
    omega (arith, c.count_new.ensures.limit, rises-length 0 page_limit (pages_in (pages_of held)) c.requires.sorted (omega arith), length-numbers (pages_of held), length-pages held)
