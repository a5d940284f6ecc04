use Rattle.std.proofs.Common.{rules, ◌≤◌, length, subst}
use Rattle.std.specs.Prelude.{nat_le}
use Rattle.std.proofs.lemmas.Bool.{and_parts, leb-true}
use Rattle.vf_elaborated.specs.Values.{low_of}
use Rattle.vf_expr.proofs.SelectLemmas.{selected_is}
use Rattle.vf_expr.proofs.evaluate.selected.Goals as goal

pub returns : goal.returns
returns c =
    let most = subst (λ n. n ≤ 128) c.width-width.ensures.value c.width-width.ensures.most in
    let few = leb-true c.args.width 128 (and_parts (nat_le 1 c.args.width) (nat_le c.args.width 128) c.requires.width).1 in
    selected_is c.args.of (low_of c.args.scale c.args.shift c.args.index) c.place.result c.args.width c.selected_at.result most few (search rules) c.selected_at.ensures
