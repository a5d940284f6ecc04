use Rattle.std.proofs.Common.{List, ◌∙◌, sym, ap, subst}
use Rattle.vf_pages.specs.Pages.{Page, IsSorted, entry, page_limit}
use Rattle.vf_pages.specs.Views.{pages_of}
use Rattle.vf_pages.proofs.Bases.{changed-rises, entry-changed}
use Rattle.vf_pages.proofs.base.drop_unchanged.Goals as goal

pub returns-clause-sorted : goal.returns-clause-sorted
returns-clause-sorted g c =
    subst (λ (es : List Page). IsSorted es) (sym c.retain_changed.ensures)
    (changed-rises (pages_of c.args.base.now) (pages_of c.args.held.now.items) 0 page_limit c.requires.sorted)

pub returns-clause-pages : goal.returns-clause-pages
returns-clause-pages g c = λ p.
    ap (entry p) c.retain_changed.ensures ∙ entry-changed (pages_of c.args.base.now) (pages_of c.args.held.now.items) 0 page_limit p c.requires.sorted
