use Rattle.std.proofs.Common.{sym, ap}
use Rattle.vf_pages.specs.Views.{pages_of}
use Rattle.vf_pages.specs.Needs.{is_new}
use Rattle.vf_pages.proofs.Lookups.{no_page, entry-place, entry-gap}
use Rattle.vf_pages.proofs.search.new_count.Goals as goal

pub returns-in-Ok : goal.returns-in-Ok
returns-in-Ok c = sym (ap is_new (entry-place (pages_of c.args.held.now) _ c.args.page no_page c.requires c.in-Ok.ensures))

pub returns-in-Err : goal.returns-in-Err
returns-in-Err c = sym (ap is_new (entry-gap (pages_of c.args.held.now) _ c.args.page c.in-Err.ensures))
