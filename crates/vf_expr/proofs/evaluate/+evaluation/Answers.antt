use Rattle.std.proofs.Common.{rules, ◌≡◌, ◌*◌, ◌<◌, true, false, None, Some, ◌-◌, [], ◌∷◌, length, take, drop, sym, ◌∙◌, ap, subst, arith}
use Rattle.vf_fours.specs.Bits.{FourState}
use Rattle.vf_fours.specs.Numbers.{digits_of}
use Rattle.vf_elaborated.specs.declared.expr.Expr.{Expr}
use Rattle.vf_elaborated.specs.declared.expr.Expr.TheVariants as v
use Rattle.vf_elaborated.specs.declared.expr.Expr.TheOpen.{Expr-F}
use Rattle.vf_elaborated.specs.Values.{worth_of, past_end_of}
use Rattle.vf_elaborated.specs.WellFormed.{is_expr}
use Rattle.vf_elaborated.specs.Layout.{signals_begin, scene_at}
use Rattle.vf_elaborated.proofs.CallerLemmas.{end_grows}
use Rattle.vf_expr.specs.Joins.{IsJoin, join_of}
use Rattle.vf_expr.proofs.Weights.{weight, weights, weight_by, join_heavier, part_lighter, first_apart, alone}
use Rattle.vf_expr.proofs.NodeLemmas as node
use Rattle.vf_expr.proofs.evaluate.+evaluation.Goals as goal

-- Each node: what its parts must be, and what it is worth by theirs. A part stands behind a `get`.

pub eval-value-requires-clause-element : goal.eval-value-requires-clause-element
eval-value-requires-clause-element g t c =
    node.whole_element c.args.design.now (g.W.Words.past_end c.args.words.now) (g.W.Words.contents c.args.words.now) c.args.e.now c.requires.formed c.in-Read.sig (c.in-Read.is ∙ ap (v.Read c.in-Read.sig) c.in-None.is ∙ sym (v.rolls-Read c.in-Read.sig None))

pub eval-returns-in-None : goal.eval-returns-in-None
eval-returns-in-None g t c =
    node.whole_worth c.args.design.now (g.W.Words.past_end c.args.words.now) (g.W.Words.contents c.args.words.now) c.args.e.now c.requires.formed c.in-Read.sig (c.in-Read.is ∙ ap (v.Read c.in-Read.sig) c.in-None.is ∙ sym (v.rolls-Read c.in-Read.sig None)) c.value.result c.value.ensures

pub eval-eval-address-requires : goal.eval-eval-address-requires
eval-eval-address-requires g t c κs within =
    let formed = subst (λ e. is_expr c.args.design.now.signals e ≡ true) (sym c.get.ensures) (node.element_parts c.args.design.now (g.W.Words.past_end c.args.words.now) (g.W.Words.contents c.args.words.now) c.args.e.now c.requires.formed c.in-Read.sig c.in-Some.element (c.in-Read.is ∙ ap (v.Read c.in-Read.sig) c.in-Some.is ∙ sym (v.rolls-Read c.in-Read.sig (Some c.in-Some.element)))).0 in
    let all = weight_by c.args.e.now (Expr-F.Read c.in-Read.sig (Some c.in-Some.element)) (c.in-Read.is ∙ ap (v.Read c.in-Read.sig) c.in-Some.is ∙ sym (v.rolls-Read c.in-Read.sig (Some c.in-Some.element))) in
    let part = ap weight c.get.ensures in
    let less : 2 * weight c.get.result.now < 2 * weight c.args.e.now = omega (arith, all, part) in
    (search (rules, less), (search rules, (formed, c.requires.held)))

pub eval-value_by-requires-clause-signal : goal.eval-value_by-requires-clause-signal
eval-value_by-requires-clause-signal g t c =
    (node.element_parts c.args.design.now (g.W.Words.past_end c.args.words.now) (g.W.Words.contents c.args.words.now) c.args.e.now c.requires.formed c.in-Read.sig c.in-Some.element (c.in-Read.is ∙ ap (v.Read c.in-Read.sig) c.in-Some.is ∙ sym (v.rolls-Read c.in-Read.sig (Some c.in-Some.element)))).1

pub eval-returns-in-Some : goal.eval-returns-in-Some
eval-returns-in-Some g t c =
    node.element_worth c.args.design.now (g.W.Words.past_end c.args.words.now) (g.W.Words.contents c.args.words.now) c.args.e.now c.requires.formed c.in-Read.sig c.in-Some.element (c.in-Read.is ∙ ap (v.Read c.in-Read.sig) c.in-Some.is ∙ sym (v.rolls-Read c.in-Read.sig (Some c.in-Some.element))) c.eval-address.result c.value_by.result (c.eval-address.ensures ∙ ap (λ e. worth_of c.args.design.now.signals e (scene_at c.args.design.now (g.W.Words.past_end c.args.words.now) (g.W.Words.contents c.args.words.now))) c.get.ensures) c.value_by.ensures

pub eval-eval-of-requires : goal.eval-eval-of-requires
eval-eval-of-requires g t c κs within =
    let formed = subst (λ e. is_expr c.args.design.now.signals e ≡ true) (sym c.get-in-Select.ensures) (node.select_parts c.args.design.now (g.W.Words.past_end c.args.words.now) (g.W.Words.contents c.args.words.now) c.args.e.now c.requires.formed c.in-Select.of c.in-Select.low c.in-Select.scale c.in-Select.shift c.in-Select.width (c.in-Select.is ∙ sym (v.rolls-Select c.in-Select.of c.in-Select.low c.in-Select.scale c.in-Select.shift c.in-Select.width))).0 in
    let all = weight_by c.args.e.now (Expr-F.Select c.in-Select.of c.in-Select.low c.in-Select.scale c.in-Select.shift c.in-Select.width) (c.in-Select.is ∙ sym (v.rolls-Select c.in-Select.of c.in-Select.low c.in-Select.scale c.in-Select.shift c.in-Select.width)) in
    let part = ap weight c.get-in-Select.ensures in
    let less : 2 * weight c.get-in-Select.result.now < 2 * weight c.args.e.now = omega (arith, all, part) in
    (search (rules, less), (search rules, (formed, c.requires.held)))

pub eval-eval-index-requires : goal.eval-eval-index-requires
eval-eval-index-requires g t c κs within =
    let formed = subst (λ e. is_expr c.args.design.now.signals e ≡ true) (sym c.get-in-Select-2.ensures) (node.select_parts c.args.design.now (g.W.Words.past_end c.args.words.now) (g.W.Words.contents c.args.words.now) c.args.e.now c.requires.formed c.in-Select.of c.in-Select.low c.in-Select.scale c.in-Select.shift c.in-Select.width (c.in-Select.is ∙ sym (v.rolls-Select c.in-Select.of c.in-Select.low c.in-Select.scale c.in-Select.shift c.in-Select.width))).1 in
    let all = weight_by c.args.e.now (Expr-F.Select c.in-Select.of c.in-Select.low c.in-Select.scale c.in-Select.shift c.in-Select.width) (c.in-Select.is ∙ sym (v.rolls-Select c.in-Select.of c.in-Select.low c.in-Select.scale c.in-Select.shift c.in-Select.width)) in
    let part = ap weight c.get-in-Select-2.ensures in
    let less : 2 * weight c.get-in-Select-2.result.now < 2 * weight c.args.e.now = omega (arith, all, part) in
    (search (rules, less), (search rules, (formed, c.requires.held)))

pub eval-selected-requires-clause-scale : goal.eval-selected-requires-clause-scale
eval-selected-requires-clause-scale g t c =
    let scale = (node.select_parts c.args.design.now (g.W.Words.past_end c.args.words.now) (g.W.Words.contents c.args.words.now) c.args.e.now c.requires.formed c.in-Select.of c.in-Select.low c.in-Select.scale c.in-Select.shift c.in-Select.width (c.in-Select.is ∙ sym (v.rolls-Select c.in-Select.of c.in-Select.low c.in-Select.scale c.in-Select.shift c.in-Select.width))).2 in search (rules, scale)

pub eval-selected-requires-clause-width : goal.eval-selected-requires-clause-width
eval-selected-requires-clause-width g t c =
    (node.select_parts c.args.design.now (g.W.Words.past_end c.args.words.now) (g.W.Words.contents c.args.words.now) c.args.e.now c.requires.formed c.in-Select.of c.in-Select.low c.in-Select.scale c.in-Select.shift c.in-Select.width (c.in-Select.is ∙ sym (v.rolls-Select c.in-Select.of c.in-Select.low c.in-Select.scale c.in-Select.shift c.in-Select.width))).3

pub eval-returns-in-Select : goal.eval-returns-in-Select
eval-returns-in-Select g t c =
    let of = (c.eval-of.ensures ∙ ap (λ e. worth_of c.args.design.now.signals e (scene_at c.args.design.now (g.W.Words.past_end c.args.words.now) (g.W.Words.contents c.args.words.now))) c.get-in-Select.ensures) in
    let index = (c.eval-index.ensures ∙ ap (λ e. worth_of c.args.design.now.signals e (scene_at c.args.design.now (g.W.Words.past_end c.args.words.now) (g.W.Words.contents c.args.words.now))) c.get-in-Select-2.ensures) in
    node.select_worth c.args.design.now (g.W.Words.past_end c.args.words.now) (g.W.Words.contents c.args.words.now) c.args.e.now c.requires.formed c.in-Select.of c.in-Select.low c.in-Select.scale c.in-Select.shift c.in-Select.width (c.in-Select.is ∙ sym (v.rolls-Select c.in-Select.of c.in-Select.low c.in-Select.scale c.in-Select.shift c.in-Select.width)) c.eval-of.result c.eval-index.result c.selected.result of index (search rules)

pub eval-eval-requires : goal.eval-eval-requires
eval-eval-requires g t c κs within =
    let formed = subst (λ e. is_expr c.args.design.now.signals e ≡ true) (sym c.get-in-One.ensures) (node.one_parts c.args.design.now (g.W.Words.past_end c.args.words.now) (g.W.Words.contents c.args.words.now) c.args.e.now c.requires.formed c.in-One.op c.in-One.of c.in-One.width c.in-One.signed (c.in-One.is ∙ sym (v.rolls-One c.in-One.op c.in-One.of c.in-One.width c.in-One.signed))) in
    let all = weight_by c.args.e.now (Expr-F.One c.in-One.op c.in-One.of c.in-One.width c.in-One.signed) (c.in-One.is ∙ sym (v.rolls-One c.in-One.op c.in-One.of c.in-One.width c.in-One.signed)) in
    let part = ap weight c.get-in-One.ensures in
    let less : 2 * weight c.get-in-One.result.now < 2 * weight c.args.e.now = omega (arith, all, part) in
    (search (rules, less), (search rules, (formed, c.requires.held)))

pub eval-returns-in-One : goal.eval-returns-in-One
eval-returns-in-One g t c =
    node.one_worth c.args.design.now (g.W.Words.past_end c.args.words.now) (g.W.Words.contents c.args.words.now) c.args.e.now c.requires.formed c.in-One.op c.in-One.of c.in-One.width c.in-One.signed (c.in-One.is ∙ sym (v.rolls-One c.in-One.op c.in-One.of c.in-One.width c.in-One.signed)) c.eval.result c.unary.result (c.eval.ensures ∙ ap (λ e. worth_of c.args.design.now.signals e (scene_at c.args.design.now (g.W.Words.past_end c.args.words.now) (g.W.Words.contents c.args.words.now))) c.get-in-One.ensures) c.unary.ensures.value

pub eval-eval-left-requires : goal.eval-eval-left-requires
eval-eval-left-requires g t c κs within =
    let formed = subst (λ e. is_expr c.args.design.now.signals e ≡ true) (sym c.get-in-Two.ensures) (node.two_parts c.args.design.now (g.W.Words.past_end c.args.words.now) (g.W.Words.contents c.args.words.now) c.args.e.now c.requires.formed c.in-Two.op c.in-Two.left c.in-Two.right c.in-Two.width c.in-Two.signed (c.in-Two.is ∙ sym (v.rolls-Two c.in-Two.op c.in-Two.left c.in-Two.right c.in-Two.width c.in-Two.signed))).0 in
    let all = weight_by c.args.e.now (Expr-F.Two c.in-Two.op c.in-Two.left c.in-Two.right c.in-Two.width c.in-Two.signed) (c.in-Two.is ∙ sym (v.rolls-Two c.in-Two.op c.in-Two.left c.in-Two.right c.in-Two.width c.in-Two.signed)) in
    let part = ap weight c.get-in-Two.ensures in
    let less : 2 * weight c.get-in-Two.result.now < 2 * weight c.args.e.now = omega (arith, all, part) in
    (search (rules, less), (search rules, (formed, c.requires.held)))

pub eval-eval-requires-in-Two : goal.eval-eval-requires-in-Two
eval-eval-requires-in-Two g t c κs within =
    let formed = subst (λ e. is_expr c.args.design.now.signals e ≡ true) (sym c.get-in-Two-2.ensures) (node.two_parts c.args.design.now (g.W.Words.past_end c.args.words.now) (g.W.Words.contents c.args.words.now) c.args.e.now c.requires.formed c.in-Two.op c.in-Two.left c.in-Two.right c.in-Two.width c.in-Two.signed (c.in-Two.is ∙ sym (v.rolls-Two c.in-Two.op c.in-Two.left c.in-Two.right c.in-Two.width c.in-Two.signed))).1 in
    let all = weight_by c.args.e.now (Expr-F.Two c.in-Two.op c.in-Two.left c.in-Two.right c.in-Two.width c.in-Two.signed) (c.in-Two.is ∙ sym (v.rolls-Two c.in-Two.op c.in-Two.left c.in-Two.right c.in-Two.width c.in-Two.signed)) in
    let part = ap weight c.get-in-Two-2.ensures in
    let less : 2 * weight c.get-in-Two-2.result.now < 2 * weight c.args.e.now = omega (arith, all, part) in
    (search (rules, less), (search rules, (formed, c.requires.held)))

pub eval-binary-requires : goal.eval-binary-requires
eval-binary-requires g t c =
    let left = (c.eval-left.ensures ∙ ap (λ e. worth_of c.args.design.now.signals e (scene_at c.args.design.now (g.W.Words.past_end c.args.words.now) (g.W.Words.contents c.args.words.now))) c.get-in-Two.ensures) in
    let right = (c.eval-in-Two.ensures ∙ ap (λ e. worth_of c.args.design.now.signals e (scene_at c.args.design.now (g.W.Words.past_end c.args.words.now) (g.W.Words.contents c.args.words.now))) c.get-in-Two-2.ensures) in
    node.two_long c.args.design.now (g.W.Words.past_end c.args.words.now) (g.W.Words.contents c.args.words.now) c.args.e.now c.requires.formed c.in-Two.op c.in-Two.left c.in-Two.right c.in-Two.width c.in-Two.signed (c.in-Two.is ∙ sym (v.rolls-Two c.in-Two.op c.in-Two.left c.in-Two.right c.in-Two.width c.in-Two.signed)) c.eval-left.result c.eval-in-Two.result left right

pub eval-returns-in-Two : goal.eval-returns-in-Two
eval-returns-in-Two g t c =
    let left = (c.eval-left.ensures ∙ ap (λ e. worth_of c.args.design.now.signals e (scene_at c.args.design.now (g.W.Words.past_end c.args.words.now) (g.W.Words.contents c.args.words.now))) c.get-in-Two.ensures) in
    let right = (c.eval-in-Two.ensures ∙ ap (λ e. worth_of c.args.design.now.signals e (scene_at c.args.design.now (g.W.Words.past_end c.args.words.now) (g.W.Words.contents c.args.words.now))) c.get-in-Two-2.ensures) in
    node.two_worth c.args.design.now (g.W.Words.past_end c.args.words.now) (g.W.Words.contents c.args.words.now) c.args.e.now c.requires.formed c.in-Two.op c.in-Two.left c.in-Two.right c.in-Two.width c.in-Two.signed (c.in-Two.is ∙ sym (v.rolls-Two c.in-Two.op c.in-Two.left c.in-Two.right c.in-Two.width c.in-Two.signed)) c.eval-left.result c.eval-in-Two.result c.binary.result left right c.binary.ensures.value

pub eval-eval-requires-in-Pick : goal.eval-eval-requires-in-Pick
eval-eval-requires-in-Pick g t c κs within =
    let formed = subst (λ e. is_expr c.args.design.now.signals e ≡ true) (sym c.get-in-Pick.ensures) (node.pick_parts c.args.design.now (g.W.Words.past_end c.args.words.now) (g.W.Words.contents c.args.words.now) c.args.e.now c.requires.formed c.in-Pick.cond c.in-Pick.yes c.in-Pick.no c.in-Pick.width c.in-Pick.signed (c.in-Pick.is ∙ sym (v.rolls-Pick c.in-Pick.cond c.in-Pick.yes c.in-Pick.no c.in-Pick.width c.in-Pick.signed))).0 in
    let all = weight_by c.args.e.now (Expr-F.Pick c.in-Pick.cond c.in-Pick.yes c.in-Pick.no c.in-Pick.width c.in-Pick.signed) (c.in-Pick.is ∙ sym (v.rolls-Pick c.in-Pick.cond c.in-Pick.yes c.in-Pick.no c.in-Pick.width c.in-Pick.signed)) in
    let part = ap weight c.get-in-Pick.ensures in
    let less : 2 * weight c.get-in-Pick.result.now < 2 * weight c.args.e.now = omega (arith, all, part) in
    (search (rules, less), (search rules, (formed, c.requires.held)))

pub eval-eval-requires-in-One-truth : goal.eval-eval-requires-in-One-truth
eval-eval-requires-in-One-truth g t c κs within =
    let formed = subst (λ e. is_expr c.args.design.now.signals e ≡ true) (sym c.get-in-One-truth.ensures) (node.pick_parts c.args.design.now (g.W.Words.past_end c.args.words.now) (g.W.Words.contents c.args.words.now) c.args.e.now c.requires.formed c.in-Pick.cond c.in-Pick.yes c.in-Pick.no c.in-Pick.width c.in-Pick.signed (c.in-Pick.is ∙ sym (v.rolls-Pick c.in-Pick.cond c.in-Pick.yes c.in-Pick.no c.in-Pick.width c.in-Pick.signed))).1 in
    let all = weight_by c.args.e.now (Expr-F.Pick c.in-Pick.cond c.in-Pick.yes c.in-Pick.no c.in-Pick.width c.in-Pick.signed) (c.in-Pick.is ∙ sym (v.rolls-Pick c.in-Pick.cond c.in-Pick.yes c.in-Pick.no c.in-Pick.width c.in-Pick.signed)) in
    let part = ap weight c.get-in-One-truth.ensures in
    let less : 2 * weight c.get-in-One-truth.result.now < 2 * weight c.args.e.now = omega (arith, all, part) in
    (search (rules, less), (search rules, (formed, c.requires.held)))

pub eval-eval-requires-in-Zero : goal.eval-eval-requires-in-Zero
eval-eval-requires-in-Zero g t c κs within =
    let formed = subst (λ e. is_expr c.args.design.now.signals e ≡ true) (sym c.get-in-Zero.ensures) (node.pick_parts c.args.design.now (g.W.Words.past_end c.args.words.now) (g.W.Words.contents c.args.words.now) c.args.e.now c.requires.formed c.in-Pick.cond c.in-Pick.yes c.in-Pick.no c.in-Pick.width c.in-Pick.signed (c.in-Pick.is ∙ sym (v.rolls-Pick c.in-Pick.cond c.in-Pick.yes c.in-Pick.no c.in-Pick.width c.in-Pick.signed))).2 in
    let all = weight_by c.args.e.now (Expr-F.Pick c.in-Pick.cond c.in-Pick.yes c.in-Pick.no c.in-Pick.width c.in-Pick.signed) (c.in-Pick.is ∙ sym (v.rolls-Pick c.in-Pick.cond c.in-Pick.yes c.in-Pick.no c.in-Pick.width c.in-Pick.signed)) in
    let part = ap weight c.get-in-Zero.ensures in
    let less : 2 * weight c.get-in-Zero.result.now < 2 * weight c.args.e.now = omega (arith, all, part) in
    (search (rules, less), (search rules, (formed, c.requires.held)))

pub eval-eval-yes-requires : goal.eval-eval-yes-requires
eval-eval-yes-requires g t c κs within =
    let formed = subst (λ e. is_expr c.args.design.now.signals e ≡ true) (sym c.get-in_default.ensures) (node.pick_parts c.args.design.now (g.W.Words.past_end c.args.words.now) (g.W.Words.contents c.args.words.now) c.args.e.now c.requires.formed c.in-Pick.cond c.in-Pick.yes c.in-Pick.no c.in-Pick.width c.in-Pick.signed (c.in-Pick.is ∙ sym (v.rolls-Pick c.in-Pick.cond c.in-Pick.yes c.in-Pick.no c.in-Pick.width c.in-Pick.signed))).1 in
    let all = weight_by c.args.e.now (Expr-F.Pick c.in-Pick.cond c.in-Pick.yes c.in-Pick.no c.in-Pick.width c.in-Pick.signed) (c.in-Pick.is ∙ sym (v.rolls-Pick c.in-Pick.cond c.in-Pick.yes c.in-Pick.no c.in-Pick.width c.in-Pick.signed)) in
    let part = ap weight c.get-in_default.ensures in
    let less : 2 * weight c.get-in_default.result.now < 2 * weight c.args.e.now = omega (arith, all, part) in
    (search (rules, less), (search rules, (formed, c.requires.held)))

pub eval-eval-requires-in_default : goal.eval-eval-requires-in_default
eval-eval-requires-in_default g t c κs within =
    let formed = subst (λ e. is_expr c.args.design.now.signals e ≡ true) (sym c.get-in_default-2.ensures) (node.pick_parts c.args.design.now (g.W.Words.past_end c.args.words.now) (g.W.Words.contents c.args.words.now) c.args.e.now c.requires.formed c.in-Pick.cond c.in-Pick.yes c.in-Pick.no c.in-Pick.width c.in-Pick.signed (c.in-Pick.is ∙ sym (v.rolls-Pick c.in-Pick.cond c.in-Pick.yes c.in-Pick.no c.in-Pick.width c.in-Pick.signed))).2 in
    let all = weight_by c.args.e.now (Expr-F.Pick c.in-Pick.cond c.in-Pick.yes c.in-Pick.no c.in-Pick.width c.in-Pick.signed) (c.in-Pick.is ∙ sym (v.rolls-Pick c.in-Pick.cond c.in-Pick.yes c.in-Pick.no c.in-Pick.width c.in-Pick.signed)) in
    let part = ap weight c.get-in_default-2.ensures in
    let less : 2 * weight c.get-in_default-2.result.now < 2 * weight c.args.e.now = omega (arith, all, part) in
    (search (rules, less), (search rules, (formed, c.requires.held)))

pub eval-merge-requires : goal.eval-merge-requires
eval-merge-requires g t c =
    let yes = (c.eval-yes.ensures ∙ ap (λ e. worth_of c.args.design.now.signals e (scene_at c.args.design.now (g.W.Words.past_end c.args.words.now) (g.W.Words.contents c.args.words.now))) c.get-in_default.ensures) in
    let no = (c.eval-in_default.ensures ∙ ap (λ e. worth_of c.args.design.now.signals e (scene_at c.args.design.now (g.W.Words.past_end c.args.words.now) (g.W.Words.contents c.args.words.now))) c.get-in_default-2.ensures) in
    node.pick_long c.args.design.now (g.W.Words.past_end c.args.words.now) (g.W.Words.contents c.args.words.now) c.args.e.now c.requires.formed c.in-Pick.cond c.in-Pick.yes c.in-Pick.no c.in-Pick.width c.in-Pick.signed (c.in-Pick.is ∙ sym (v.rolls-Pick c.in-Pick.cond c.in-Pick.yes c.in-Pick.no c.in-Pick.width c.in-Pick.signed)) c.eval-yes.result c.eval-in_default.result yes no

pub eval-returns-in-One-truth : goal.eval-returns-in-One-truth
eval-returns-in-One-truth g t c =
    let value = (c.eval-in-One-truth.ensures ∙ ap (λ e. worth_of c.args.design.now.signals e (scene_at c.args.design.now (g.W.Words.past_end c.args.words.now) (g.W.Words.contents c.args.words.now))) c.get-in-One-truth.ensures) in
    node.pick_one c.args.design.now (g.W.Words.past_end c.args.words.now) (g.W.Words.contents c.args.words.now) c.args.e.now c.requires.formed c.in-Pick.cond c.in-Pick.yes c.in-Pick.no c.in-Pick.width c.in-Pick.signed (c.in-Pick.is ∙ sym (v.rolls-Pick c.in-Pick.cond c.in-Pick.yes c.in-Pick.no c.in-Pick.width c.in-Pick.signed)) c.eval-in-Pick.result c.eval-in-One-truth.result (c.eval-in-Pick.ensures ∙ ap (λ e. worth_of c.args.design.now.signals e (scene_at c.args.design.now (g.W.Words.past_end c.args.words.now) (g.W.Words.contents c.args.words.now))) c.get-in-Pick.ensures) (sym c.truth.ensures ∙ c.in-One-truth.is) value

pub eval-returns-in-Zero : goal.eval-returns-in-Zero
eval-returns-in-Zero g t c =
    let value = (c.eval-in-Zero.ensures ∙ ap (λ e. worth_of c.args.design.now.signals e (scene_at c.args.design.now (g.W.Words.past_end c.args.words.now) (g.W.Words.contents c.args.words.now))) c.get-in-Zero.ensures) in
    node.pick_zero c.args.design.now (g.W.Words.past_end c.args.words.now) (g.W.Words.contents c.args.words.now) c.args.e.now c.requires.formed c.in-Pick.cond c.in-Pick.yes c.in-Pick.no c.in-Pick.width c.in-Pick.signed (c.in-Pick.is ∙ sym (v.rolls-Pick c.in-Pick.cond c.in-Pick.yes c.in-Pick.no c.in-Pick.width c.in-Pick.signed)) c.eval-in-Pick.result c.eval-in-Zero.result (c.eval-in-Pick.ensures ∙ ap (λ e. worth_of c.args.design.now.signals e (scene_at c.args.design.now (g.W.Words.past_end c.args.words.now) (g.W.Words.contents c.args.words.now))) c.get-in-Pick.ensures) (sym c.truth.ensures ∙ c.in-Zero.is) value

pub eval-returns-in_default : goal.eval-returns-in_default
eval-returns-in_default g t c =
    let yes = (c.eval-yes.ensures ∙ ap (λ e. worth_of c.args.design.now.signals e (scene_at c.args.design.now (g.W.Words.past_end c.args.words.now) (g.W.Words.contents c.args.words.now))) c.get-in_default.ensures) in
    let no = (c.eval-in_default.ensures ∙ ap (λ e. worth_of c.args.design.now.signals e (scene_at c.args.design.now (g.W.Words.past_end c.args.words.now) (g.W.Words.contents c.args.words.now))) c.get-in_default-2.ensures) in
    node.pick_merged c.args.design.now (g.W.Words.past_end c.args.words.now) (g.W.Words.contents c.args.words.now) c.args.e.now c.requires.formed c.in-Pick.cond c.in-Pick.yes c.in-Pick.no c.in-Pick.width c.in-Pick.signed (c.in-Pick.is ∙ sym (v.rolls-Pick c.in-Pick.cond c.in-Pick.yes c.in-Pick.no c.in-Pick.width c.in-Pick.signed)) c.eval-in-Pick.result c.truth.result c.eval-yes.result c.eval-in_default.result c.merge.result (c.eval-in-Pick.ensures ∙ ap (λ e. worth_of c.args.design.now.signals e (scene_at c.args.design.now (g.W.Words.past_end c.args.words.now) (g.W.Words.contents c.args.words.now))) c.get-in-Pick.ensures) c.truth.ensures
    c.in_default.not-One c.in_default.not-Zero yes no c.merge.ensures.value

pub eval-joined-requires : goal.eval-joined-requires
eval-joined-requires g t c κs within =
    let parts = node.join_parts c.args.design.now (g.W.Words.past_end c.args.words.now) (g.W.Words.contents c.args.words.now) c.args.e.now c.requires.formed c.in-Join.parts c.in-Join.width (c.in-Join.is ∙ sym (v.rolls-Join c.in-Join.parts c.in-Join.width)) in
    let some = subst (λ es. 0 < length es) (sym c.as_slice.ensures) parts.0 in
    let formed = subst (IsJoin c.args.design.now.signals) (sym c.as_slice.ensures) parts.1 in
    let all = join_heavier c.args.e.now c.in-Join.parts c.in-Join.width (c.in-Join.is ∙ sym (v.rolls-Join c.in-Join.parts c.in-Join.width)) in
    let part = ap weights c.as_slice.ensures in
    let less : weights c.as_slice.result.now < 2 * weight c.args.e.now = omega (arith, all, part) in
    (search (rules, less), (search rules, (some, (formed, c.requires.held))))

pub eval-returns-in-Join : goal.eval-returns-in-Join
eval-returns-in-Join g t c =
    node.join_worth c.args.design.now (g.W.Words.past_end c.args.words.now) (g.W.Words.contents c.args.words.now) c.args.e.now c.requires.formed c.in-Join.parts c.in-Join.width (c.in-Join.is ∙ sym (v.rolls-Join c.in-Join.parts c.in-Join.width)) c.joined.result
    (c.joined.ensures ∙ ap (λ es. join_of c.args.design.now.signals es (scene_at c.args.design.now (g.W.Words.past_end c.args.words.now) (g.W.Words.contents c.args.words.now))) c.as_slice.ensures)

pub eval-eval-requires-in-Resize : goal.eval-eval-requires-in-Resize
eval-eval-requires-in-Resize g t c κs within =
    let formed = subst (λ e. is_expr c.args.design.now.signals e ≡ true) (sym c.get-in-Resize.ensures) (node.resize_parts c.args.design.now (g.W.Words.past_end c.args.words.now) (g.W.Words.contents c.args.words.now) c.args.e.now c.requires.formed c.in-Resize.of c.in-Resize.width c.in-Resize.signed (c.in-Resize.is ∙ sym (v.rolls-Resize c.in-Resize.of c.in-Resize.width c.in-Resize.signed))).0 in
    let all = weight_by c.args.e.now (Expr-F.Resize c.in-Resize.of c.in-Resize.width c.in-Resize.signed) (c.in-Resize.is ∙ sym (v.rolls-Resize c.in-Resize.of c.in-Resize.width c.in-Resize.signed)) in
    let part = ap weight c.get-in-Resize.ensures in
    let less : 2 * weight c.get-in-Resize.result.now < 2 * weight c.args.e.now = omega (arith, all, part) in
    (search (rules, less), (search rules, (formed, c.requires.held)))

pub eval-resize-requires-clause-some : goal.eval-resize-requires-clause-some
eval-resize-requires-clause-some g t c =
    (node.resize_parts c.args.design.now (g.W.Words.past_end c.args.words.now) (g.W.Words.contents c.args.words.now) c.args.e.now c.requires.formed c.in-Resize.of c.in-Resize.width c.in-Resize.signed (c.in-Resize.is ∙ sym (v.rolls-Resize c.in-Resize.of c.in-Resize.width c.in-Resize.signed))).1

pub eval-resize-requires-clause-most : goal.eval-resize-requires-clause-most
eval-resize-requires-clause-most g t c =
    (node.resize_parts c.args.design.now (g.W.Words.past_end c.args.words.now) (g.W.Words.contents c.args.words.now) c.args.e.now c.requires.formed c.in-Resize.of c.in-Resize.width c.in-Resize.signed (c.in-Resize.is ∙ sym (v.rolls-Resize c.in-Resize.of c.in-Resize.width c.in-Resize.signed))).2

pub eval-returns-in-Resize : goal.eval-returns-in-Resize
eval-returns-in-Resize g t c =
    node.resize_worth c.args.design.now (g.W.Words.past_end c.args.words.now) (g.W.Words.contents c.args.words.now) c.args.e.now c.requires.formed c.in-Resize.of c.in-Resize.width c.in-Resize.signed (c.in-Resize.is ∙ sym (v.rolls-Resize c.in-Resize.of c.in-Resize.width c.in-Resize.signed)) c.eval-in-Resize.result c.resize.result (c.eval-in-Resize.ensures ∙ ap (λ e. worth_of c.args.design.now.signals e (scene_at c.args.design.now (g.W.Words.past_end c.args.words.now) (g.W.Words.contents c.args.words.now))) c.get-in-Resize.ensures) c.resize.ensures.value

pub eval-read-requires : goal.eval-read-requires
eval-read-requires g t c =
    let d = c.args.design.now in
    let grows = end_grows (signals_begin d) d.signals in
    let long = c.requires.held.long in
    omega (arith, grows, long)

pub eval-returns-in-Const : goal.eval-returns-in-Const
eval-returns-in-Const g t c =
    sym (node.worth_by c.args.design.now.signals (scene_at c.args.design.now (g.W.Words.past_end c.args.words.now) (g.W.Words.contents c.args.words.now)) c.args.e.now (Expr-F.Const c.in-Const.value) (c.in-Const.is ∙ sym (v.rolls-Const c.in-Const.value)))

pub eval-returns-in-Now : goal.eval-returns-in-Now
eval-returns-in-Now g t c =
    c.known.ensures.value ∙ ap (λ n. record { bits = digits_of 64 n; signed = false }) (c.from.ensures ∙ c.read.ensures)
    ∙ sym (node.worth_by c.args.design.now.signals (scene_at c.args.design.now (g.W.Words.past_end c.args.words.now) (g.W.Words.contents c.args.words.now)) c.args.e.now Expr-F.Now (c.in-Now.is ∙ sym (v.rolls-Now)))

pub eval-eval-requires-in-PastEnd : goal.eval-eval-requires-in-PastEnd
eval-eval-requires-in-PastEnd g t c κs within =
    let formed = subst (λ e. is_expr c.args.design.now.signals e ≡ true) (sym c.get-in-PastEnd.ensures) (node.past_end_parts c.args.design.now (g.W.Words.past_end c.args.words.now) (g.W.Words.contents c.args.words.now) c.args.e.now c.requires.formed c.in-PastEnd.of (c.in-PastEnd.is ∙ sym (v.rolls-PastEnd c.in-PastEnd.of))) in
    let all = weight_by c.args.e.now (Expr-F.PastEnd c.in-PastEnd.of) (c.in-PastEnd.is ∙ sym (v.rolls-PastEnd c.in-PastEnd.of)) in
    let part = ap weight c.get-in-PastEnd.ensures in
    let less : 2 * weight c.get-in-PastEnd.result.now < 2 * weight c.args.e.now = omega (arith, all, part) in
    (search (rules, less), (search rules, (formed, c.requires.held)))

pub eval-returns-in-PastEnd : goal.eval-returns-in-PastEnd
eval-returns-in-PastEnd g t c =
    node.past_end_worth c.args.design.now (g.W.Words.past_end c.args.words.now) (g.W.Words.contents c.args.words.now) c.args.e.now c.requires.formed c.in-PastEnd.of (c.in-PastEnd.is ∙ sym (v.rolls-PastEnd c.in-PastEnd.of)) c.eval-in-PastEnd.result c.past_end-in-PastEnd.result (c.eval-in-PastEnd.ensures ∙ ap (λ e. worth_of c.args.design.now.signals e (scene_at c.args.design.now (g.W.Words.past_end c.args.words.now) (g.W.Words.contents c.args.words.now))) c.get-in-PastEnd.ensures)
    (c.past_end-in-PastEnd.ensures ∙ ap (λ past_end. past_end_of past_end c.eval-in-PastEnd.result) c.past_end.ensures)

pub joined-eval-requires : goal.joined-eval-requires
joined-eval-requires g t c κs within =
    let e = c.part-item.result in
    let rest = take (length c.args.parts.now - 1) (drop 1 c.args.parts.now) in
    let parts = first_apart c.args.parts.now e c.requires.some c.part-item.is in
    let formed = node.part_formed c.args.design.now (g.W.Words.past_end c.args.words.now) (g.W.Words.contents c.args.words.now) e rest (subst (IsJoin c.args.design.now.signals) parts c.requires.formed) in
    let less = subst (λ n. 2 * weight e < n) (sym (ap weights parts)) (part_lighter e rest).0 in
    (search (rules, less), (search rules, (formed, c.requires.held)))

pub joined-eval-requires-in-len1-up : goal.joined-eval-requires-in-len1-up
joined-eval-requires-in-len1-up g t c κs within =
    let e = c.part-item-2.result in
    let rest = take (length c.args.parts.now - 1) (drop 1 c.args.parts.now) in
    let parts = first_apart c.args.parts.now e c.requires.some c.part-item-2.is in
    let formed = node.part_formed c.args.design.now (g.W.Words.past_end c.args.words.now) (g.W.Words.contents c.args.words.now) e rest (subst (IsJoin c.args.design.now.signals) parts c.requires.formed) in
    let less = subst (λ n. 2 * weight e < n) (sym (ap weights parts)) (part_lighter e rest).0 in
    (search (rules, less), (search rules, (formed, c.requires.held)))

pub joined-joined-requires : goal.joined-joined-requires
joined-joined-requires g t c κs within =
    let e = c.part-item-2.result in
    let rest = take (length c.args.parts.now - 1) (drop 1 c.args.parts.now) in
    let parts = first_apart c.args.parts.now e c.requires.some c.part-item-2.is in
    let more = c.in-len1-up.len_at_least in
    let count = ap length parts in
    let some : 0 < length rest = omega (arith, more, count) in
    let formed = node.rest_formed c.args.design.now (g.W.Words.past_end c.args.words.now) (g.W.Words.contents c.args.words.now) e rest (subst (IsJoin c.args.design.now.signals) parts c.requires.formed) in
    let less = subst (λ n. weights rest < n) (sym (ap weights parts)) (part_lighter e rest).1 in
    (search (rules, less), (search rules, (some, (formed, c.requires.held))))

pub joined-concat-requires : goal.joined-concat-requires
joined-concat-requires g t c =
    let e = c.part-item-2.result in
    let rest = take (length c.args.parts.now - 1) (drop 1 c.args.parts.now) in
    let parts = first_apart c.args.parts.now e c.requires.some c.part-item-2.is in
    node.parts_fit c.args.design.now (g.W.Words.past_end c.args.words.now) (g.W.Words.contents c.args.words.now) e rest (subst (IsJoin c.args.design.now.signals) parts c.requires.formed)
    c.eval-in-len1-up.result c.joined.result c.eval-in-len1-up.ensures c.joined.ensures

pub joined-returns-in-len1 : goal.joined-returns-in-len1
joined-returns-in-len1 g t c =
    let e = c.part-item.result in
    let least = c.in-len1.len_at_least in
    let below = c.in-len1.len_below in
    let one : length c.args.parts.now ≡ 1 = omega (arith, least, below) in
    c.marked.ensures ∙ ap (λ bits. record { bits = bits; signed = false }) (ap (λ (a : FourState). a.bits) c.eval.ensures)
    ∙ ap (λ es. join_of c.args.design.now.signals es (scene_at c.args.design.now (g.W.Words.past_end c.args.words.now) (g.W.Words.contents c.args.words.now))) (sym (alone c.args.parts.now e one c.part-item.is))

pub joined-returns-in-len1-up : goal.joined-returns-in-len1-up
joined-returns-in-len1-up g t c =
    let e = c.part-item-2.result in
    let rest = take (length c.args.parts.now - 1) (drop 1 c.args.parts.now) in
    let parts = first_apart c.args.parts.now e c.requires.some c.part-item-2.is in
    node.parts_worth c.args.design.now (g.W.Words.past_end c.args.words.now) (g.W.Words.contents c.args.words.now) e rest c.eval-in-len1-up.result c.joined.result c.concat.result c.eval-in-len1-up.ensures c.joined.ensures c.concat.ensures.value
    ∙ ap (λ es. join_of c.args.design.now.signals es (scene_at c.args.design.now (g.W.Words.past_end c.args.words.now) (g.W.Words.contents c.args.words.now))) (sym parts)
