use Rattle.std.proofs.Common.{ap, ap₂, sym, refl, ◌∙◌, length, eq-eqb, ne_eqb, ◌%◌}
use Rattle.std.specs.Prelude.{int_rem, unsigned_abs}
use Rattle.std.proofs.lemmas.Bool.{and_parts}
use Rattle.vf_fours.specs.Bits.{all_known}
use Rattle.vf_fours.specs.Numbers.{integer, residue, with_sign, is_below_zero}
use Rattle.vf_fours.specs.Operators.{both_signed}
use Rattle.vf_fours.proofs.ListLemmas.{same_state}
use Rattle.vf_fours.proofs.NumberLemmas.{zeros_by_number, magnitude_zero, digits_same, remainder_is}
use Rattle.vf_fours.proofs.OperatorLemmas.{divided_unknown, divided_by_zero, divided_known}
use Rattle.vf_fours.proofs.Fours.rem.Goals as goal

pub returns-then-not-are_known-clause-value : goal.returns-then-not-are_known-clause-value
returns-then-not-are_known-clause-value c = c.with_x.ensures.value ∙ same_state refl c.are_signed-signed.ensures ∙ divided_unknown int_rem c.args.self c.args.other (sym c.are_known.ensures ∙ c.if-not-are_known.true)

pub returns-then-divisor-eq0-clause-value : goal.returns-then-divisor-eq0-clause-value
returns-then-divisor-eq0-clause-value c =
    let b = c.args.other in
    let both = and_parts (all_known c.args.self.bits) (all_known b.bits) (sym c.are_known.ensures ∙ c.if-not-are_known.false) in
    let zero = zeros_by_number b.bits both.1 ∙ sym (magnitude_zero c.are_signed-signed.result b.bits) ∙ eq-eqb _ 0 (sym c.magnitude-divisor.ensures.value ∙ c.if-divisor-eq0.true) in
    c.with_x-then-divisor-eq0.ensures.value ∙ same_state refl c.are_signed-signed.ensures ∙ divided_by_zero int_rem c.args.self c.args.other zero

pub returns-clause-value : goal.returns-clause-value
returns-clause-value c =
    let a = c.args.self in
    let b = c.args.other in
    let w = length a.bits in
    let s = both_signed a b in
    let mark = c.are_signed-signed.ensures in
    let x = integer s a.bits in
    let d = integer s b.bits in
    let both = and_parts (all_known a.bits) (all_known b.bits) (sym c.are_known.ensures ∙ c.if-not-are_known.false) in
    let some = zeros_by_number b.bits both.1 ∙ sym (magnitude_zero c.are_signed-signed.result b.bits) ∙ ne_eqb _ 0 (λ e. c.if-divisor-eq0.false (c.magnitude-divisor.ensures.value ∙ e)) in
    let dividend = c.magnitude.ensures.value ∙ ap (λ s. unsigned_abs (integer s a.bits)) mark in
    let divisor = c.magnitude-divisor.ensures.value ∙ ap (λ s. unsigned_abs (integer s b.bits)) mark in
    let answer = c.with_sign.ensures w c.magnitude.ensures.most
    ∙ ap₂ (λ t q. residue w (with_sign t q)) (c.is_negative.ensures ∙ ap (λ s. is_below_zero (integer s a.bits)) mark) (ap₂ ◌%◌ dividend divisor)
    ∙ ap (residue w) (sym (remainder_is x d)) in
    c.with_number.ensures.value ∙ same_state (digits_same w _ _ answer) mark ∙ divided_known int_rem a b _ some (sym c.are_known.ensures ∙ c.if-not-are_known.false) refl
