use Rattle.std.proofs.Common.{ap, sym, refl, ◌∙◌, not, eq-eqb, ne_eqb}
use Rattle.std.proofs.lemmas.Bool.{cond-true, cond-false}
use Rattle.vf_fours.specs.Bits.{differ}
use Rattle.vf_fours.specs.Operators.{eq_of}
use Rattle.vf_fours.proofs.OperatorLemmas.{some_of_pairs}
use Rattle.vf_fours.proofs.Fours.eq.Goals as goal

pub returns-then-differing-ne0 : goal.returns-then-differing-ne0
unfolding eq_of
returns-then-differing-ne0 c =
    let a = c.args.self in
    let b = c.args.other in
    let some = some_of_pairs differ c.planes.result c.planes-2.result a.bits b.bits c.differing.result c.planes.ensures c.planes-2.ensures c.requires c.differing.ensures.known refl in
    sym (cond-true _ _ _ (some ∙ ap not (ne_eqb c.differing.result 0 c.if-differing-ne0.true)))

pub returns-then-are_known : goal.returns-then-are_known
unfolding eq_of
returns-then-are_known c =
    let a = c.args.self in
    let b = c.args.other in
    let some = some_of_pairs differ c.planes.result c.planes-2.result a.bits b.bits c.differing.result c.planes.ensures c.planes-2.ensures c.requires c.differing.ensures.known refl in
    sym (cond-false _ _ _ (some ∙ ap not (eq-eqb c.differing.result 0 c.if-differing-ne0.false)) ∙ cond-true _ _ _ (sym c.are_known.ensures ∙ c.if-are_known.true))

pub returns-else-are_known : goal.returns-else-are_known
unfolding eq_of
returns-else-are_known c =
    let a = c.args.self in
    let b = c.args.other in
    let some = some_of_pairs differ c.planes.result c.planes-2.result a.bits b.bits c.differing.result c.planes.ensures c.planes-2.ensures c.requires c.differing.ensures.known refl in
    sym (cond-false _ _ _ (some ∙ ap not (eq-eqb c.differing.result 0 c.if-differing-ne0.false)) ∙ cond-false _ _ _ (sym c.are_known.ensures ∙ c.if-are_known.false))
