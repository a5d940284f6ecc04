use Rattle.std.proofs.Common.{ap, sym, ◌∙◌, Some}
use Rattle.std.proofs.lemmas.Bool.{cond-true, cond-false}
use Rattle.vf_fours.specs.Numbers.{u128_of}
use Rattle.vf_fours.proofs.Fours.to_u128.Goals as goal

pub returns-then-is_known : goal.returns-then-is_known
unfolding u128_of
returns-then-is_known c = ap Some c.number.ensures.value ∙ sym (cond-true _ _ _ (sym c.is_known.ensures ∙ c.if-is_known.true))

pub returns-else-is_known : goal.returns-else-is_known
unfolding u128_of
returns-else-is_known c = sym (cond-false _ _ _ (sym c.is_known.ensures ∙ c.if-is_known.false))
