use Rattle.std.proofs.Common.{ap₂, sym, refl, ◌∙◌, ◌+◌, ◌-◌, ◌%◌, ◌^◌, length}
use Rattle.std.specs.Prelude.{◌-ℤ◌}
use Rattle.vf_fours.specs.Numbers.{digits_of}
use Rattle.vf_fours.specs.Operators.{both_signed}
use Rattle.vf_fours.proofs.ListLemmas.{same_state}
use Rattle.vf_fours.proofs.NumberLemmas.{digits_same, residue-sub}
use Rattle.vf_fours.proofs.OperatorLemmas.{numeric_unknown, numeric_known}
use Rattle.vf_fours.proofs.Fours.sub.Goals as goal

pub returns-then-not-are_known-clause-value : goal.returns-then-not-are_known-clause-value
returns-then-not-are_known-clause-value c = c.with_x.ensures.value ∙ same_state refl c.are_signed-signed.ensures ∙ numeric_unknown ◌-ℤ◌ c.args.self c.args.other (sym c.are_known.ensures ∙ c.if-not-are_known.true)

pub returns-clause-value : goal.returns-clause-value
returns-clause-value c =
    let a = c.args.self in
    let b = c.args.other in
    let w = length a.bits in
    let s = both_signed a b in
    c.with_number.ensures.value
    ∙ same_state (ap₂ (λ m n. digits_of w ((m + (2 ^ 128 - n)) % 2 ^ 128)) c.number.ensures.value c.number-2.ensures.value ∙ digits_same w _ _ (residue-sub s a.bits b.bits c.number.ensures.most c.requires)) c.are_signed-signed.ensures
    ∙ numeric_known ◌-ℤ◌ a b _ (sym c.are_known.ensures ∙ c.if-not-are_known.false) refl
