use Rattle.std.proofs.Common.{ap, sym, ◌∙◌, length}
use Rattle.std.specs.Prelude.{pos, neg_ℤ}
use Rattle.std.proofs.lemmas.Bool.{cond-true, cond-false}
use Rattle.vf_fours.specs.Numbers.{residue}
use Rattle.vf_fours.specs.Operators.{neg_of}
use Rattle.vf_fours.proofs.ListLemmas.{same_state}
use Rattle.vf_fours.proofs.NumberLemmas.{digits_same, residue-neg_integer}
use Rattle.vf_fours.proofs.Fours.neg.Goals as goal

pub returns-then-not-is_known-clause-value : goal.returns-then-not-is_known-clause-value
unfolding neg_of
returns-then-not-is_known-clause-value c = c.with_x.ensures.value ∙ same_state (sym (cond-false _ _ _ (sym c.is_known.ensures ∙ c.if-not-is_known.true))) c.is_signed-signed.ensures

pub returns-clause-value : goal.returns-clause-value
unfolding neg_of
returns-clause-value c =
    let a = c.args.self in
    let w = length a.bits in
    let left = c.with_sign.ensures w c.number.ensures.most ∙ ap (λ n. residue w (neg_ℤ (pos n))) c.number.ensures.value ∙ residue-neg_integer a.signed a.bits in
    c.with_number.ensures.value ∙ same_state (digits_same w _ _ left ∙ sym (cond-true _ _ _ (sym c.is_known.ensures ∙ c.if-not-is_known.false))) c.is_signed-signed.ensures
