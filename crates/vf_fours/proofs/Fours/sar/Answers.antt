use Rattle.std.proofs.Common.{ap, ap₂, map, sym, refl, ◌∙◌}
use Rattle.vf_fours.specs.Bits.{settled_bit, top}
use Rattle.vf_fours.specs.Operators.{bits_moved_down}
use Rattle.vf_fours.proofs.ListLemmas.{same_state}
use Rattle.vf_fours.proofs.OperatorLemmas.{shifted_unknown, shifted_known, top_settled}
use Rattle.vf_fours.proofs.Fours.sar.Goals as goal

pub returns-then-not-is_known-clause-value : goal.returns-then-not-is_known-clause-value
returns-then-not-is_known-clause-value c = c.with_x.ensures.value ∙ same_state refl c.is_signed.ensures ∙ shifted_unknown (λ bits n. bits_moved_down (top bits) bits n) c.args.self c.args.by (sym c.is_known.ensures ∙ c.if-not-is_known.true)

pub returns-clause-value : goal.returns-clause-value
returns-clause-value c =
    let bits = map settled_bit c.args.self.bits in
    c.moved_down.ensures.value
    ∙ same_state (ap₂ (λ fill n. bits_moved_down fill bits n) (c.settled.ensures ∙ ap settled_bit c.top.ensures ∙ top_settled c.args.self.bits) c.number.ensures.value) refl
    ∙ shifted_known (λ bits n. bits_moved_down (top bits) bits n) c.args.self c.args.by _ (sym c.is_known.ensures ∙ c.if-not-is_known.false) refl
