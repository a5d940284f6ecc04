use Rattle.std.proofs.Common.{sym, ◌∙◌}
use Rattle.std.specs.List.{list_any}
use Rattle.std.proofs.lemmas.Bool.{cond-true, cond-false}
use Rattle.vf_fours.specs.Bits.{is_one}
use Rattle.vf_fours.specs.Operators.{truth_of}
use Rattle.vf_fours.proofs.OperatorLemmas.{zeros_without_one}
use Rattle.vf_fours.proofs.Fours.truth.Goals as goal

pub returns-then-has_one : goal.returns-then-has_one
unfolding truth_of
returns-then-has_one c = sym (cond-true (list_any is_one c.args.self.bits) _ _ (sym c.has_one.ensures ∙ c.if-has_one.true))

pub returns-then-is_known : goal.returns-then-is_known
unfolding truth_of
returns-then-is_known c =
    let bits = c.args.self.bits in
    let none = sym c.has_one.ensures ∙ c.if-has_one.false in
    sym (cond-false (list_any is_one bits) _ _ none ∙ cond-true _ _ _ (zeros_without_one bits none ∙ sym c.is_known.ensures ∙ c.if-is_known.true))

pub returns-else-is_known : goal.returns-else-is_known
unfolding truth_of
returns-else-is_known c =
    let bits = c.args.self.bits in
    let none = sym c.has_one.ensures ∙ c.if-has_one.false in
    sym (cond-false (list_any is_one bits) _ _ none ∙ cond-false _ _ _ (zeros_without_one bits none ∙ sym c.is_known.ensures ∙ c.if-is_known.false))
