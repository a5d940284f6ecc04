use Rattle.std.proofs.Common.{ℕ, List, slice_index, ap, ◌∙◌}
use Rattle.vf_pages.proofs.Tables.{get_or-zeros}
use Rattle.vf_pages.proofs.places.empty_table.Goals as goal

pub returns-clause-none : goal.returns-clause-none
returns-clause-none c = λ p.
    ap (λ (xs : List ℕ). slice_index xs p) (c.in_ok-vec.ensures.items_if_clones_equal (λ y e. e)) ∙ get_or-zeros c.args.pages p
