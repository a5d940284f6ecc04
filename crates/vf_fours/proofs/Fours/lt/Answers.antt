use Rattle.std.proofs.Common.{ap, sym, ◌∙◌}
use Rattle.std.specs.Prelude.{int_lt}
use Rattle.vf_fours.specs.Numbers.{digit}
use Rattle.vf_fours.proofs.OperatorLemmas.{compared_unknown, compared_known}
use Rattle.vf_fours.proofs.Fours.lt.Goals as goal

pub returns-then-not-are_known : goal.returns-then-not-are_known
returns-then-not-are_known c = compared_unknown int_lt c.args.self c.args.other (sym c.are_known.ensures ∙ c.if-not-are_known.true)

pub returns : goal.returns
returns c = c.of.ensures ∙ ap digit c.is_below.ensures ∙ compared_known int_lt c.args.self c.args.other (sym c.are_known.ensures ∙ c.if-not-are_known.false)
