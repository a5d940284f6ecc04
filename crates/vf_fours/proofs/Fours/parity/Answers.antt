use Rattle.std.proofs.Common.{sym, ap, ◌∙◌, false}
use Rattle.std.specs.Prelude.{count_ones}
use Rattle.vf_fours.specs.Numbers.{digit}
use Rattle.vf_fours.proofs.OperatorLemmas.{fold_xor_unknown, fold_xor, is_odd}
use Rattle.vf_fours.proofs.Fours.parity.Goals as goal

pub returns-then-not-is_known : goal.returns-then-not-is_known
returns-then-not-is_known c = sym (fold_xor_unknown false c.args.self.bits (sym c.is_known.ensures ∙ c.if-not-is_known.true))

pub returns : goal.returns
returns c =
    let each = sym c.is_known.ensures ∙ c.if-not-is_known.false in
    c.of.ensures ∙ ap (λ n. digit (is_odd (count_ones n))) c.number.ensures.value ∙ sym (fold_xor false c.args.self.bits each)
