use Rattle.std.proofs.Common.{ap, ◌∙◌}
use Rattle.vf_pages.specs.Pages.{entry}
use Rattle.vf_pages.specs.Views.{pages_of}
use Rattle.vf_pages.proofs.Bases.{entry-puts}
use Rattle.vf_pages.proofs.Shuffles.{keeps-over}
use Rattle.vf_pages.proofs.base.hold_over.Goals as goal

pub returns-clause-kept : goal.returns-clause-kept
returns-clause-kept g c = keeps-over _ _ _ _ _ _ _ _ _ _ c.hold_all.ensures.kept c.hold_all-2.ensures.kept c.install.ensures.kept

pub returns-clause-pages : goal.returns-clause-pages
returns-clause-pages g c = λ p. ap (entry p) c.install.ensures.pages ∙ entry-puts (pages_of c.args.own.items) (pages_of c.args.held.now.items) p
