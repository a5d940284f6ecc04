use Rattle.std.proofs.Common.{rules, ◌∙◌, not, ap}
use Rattle.std.proofs.lemmas.Fn.{filter_same}
use Rattle.vf_pages.specs.declared.held.Held.{Held}
use Rattle.vf_pages.specs.Views.{page_of, pages_of}
use Rattle.vf_pages.specs.Bases.{is_in_base}
use Rattle.vf_pages.proofs.Bases.{changed-map}
use Rattle.vf_pages.proofs.base.retain_changed.Goals as goal

pub returns : goal.returns
returns c =
    ap pages_of (filter_same _ (λ (h : Held). not (is_in_base (pages_of c.args.base.now) (page_of h))) _ (λ x b f' k. search rules) _ _ c.retain.ensures.filtered)
    ∙ changed-map (pages_of c.args.base.now) c.args.held.now.items
