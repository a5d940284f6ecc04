use Rattle.std.proofs.Common.{ap, sym, ◌∙◌, not}
use Rattle.std.specs.Prelude.{int_le}
use Rattle.vf_fours.specs.Numbers.{digit}
use Rattle.vf_fours.proofs.OperatorLemmas.{compared_unknown, compared_known, not_below}
use Rattle.vf_fours.proofs.Fours.le.Goals as goal

pub returns-then-not-are_known : goal.returns-then-not-are_known
returns-then-not-are_known c = compared_unknown int_le c.args.self c.args.other (sym c.are_known.ensures ∙ c.if-not-are_known.true)

pub returns : goal.returns
returns c = c.of.ensures ∙ ap (λ t. digit (not t)) c.is_below.ensures ∙ ap digit (not_below c.args.self c.args.other) ∙ compared_known int_le c.args.self c.args.other (sym c.are_known.ensures ∙ c.if-not-are_known.false)
