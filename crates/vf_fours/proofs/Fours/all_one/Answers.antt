use Rattle.std.proofs.Common.{sym, ◌∙◌}
use Rattle.std.proofs.lemmas.Bool.{cond-true, cond-false}
use Rattle.vf_fours.proofs.OperatorLemmas.{fold_and}
use Rattle.vf_fours.proofs.Fours.all_one.Goals as goal

pub returns-then-has_zero : goal.returns-then-has_zero
returns-then-has_zero c = sym (fold_and c.args.self.bits ∙ cond-true _ _ _ (sym c.has_zero.ensures ∙ c.if-has_zero.true))

pub returns-then-is_known : goal.returns-then-is_known
returns-then-is_known c = sym (fold_and c.args.self.bits ∙ cond-false _ _ _ (sym c.has_zero.ensures ∙ c.if-has_zero.false) ∙ cond-true _ _ _ (sym c.is_known.ensures ∙ c.if-is_known.true))

pub returns-else-is_known : goal.returns-else-is_known
returns-else-is_known c = sym (fold_and c.args.self.bits ∙ cond-false _ _ _ (sym c.has_zero.ensures ∙ c.if-has_zero.false) ∙ cond-false _ _ _ (sym c.is_known.ensures ∙ c.if-is_known.false))
