use Rattle.std.proofs.Common.{ap, map, sym, refl, ◌∙◌}
use Rattle.vf_fours.specs.declared.Bit.TheVariants.{Zero}
use Rattle.vf_fours.specs.Bits.{settled_bit}
use Rattle.vf_fours.specs.Operators.{bits_moved_down}
use Rattle.vf_fours.proofs.ListLemmas.{same_state}
use Rattle.vf_fours.proofs.OperatorLemmas.{shifted_unknown, shifted_known}
use Rattle.vf_fours.proofs.Fours.shr.Goals as goal

pub returns-then-not-is_known-clause-value : goal.returns-then-not-is_known-clause-value
returns-then-not-is_known-clause-value c = c.with_x.ensures.value ∙ same_state refl c.is_signed.ensures ∙ shifted_unknown (bits_moved_down Zero) c.args.self c.args.by (sym c.is_known.ensures ∙ c.if-not-is_known.true)

pub returns-clause-value : goal.returns-clause-value
returns-clause-value c = c.moved_down.ensures.value ∙ same_state (ap (bits_moved_down Zero (map settled_bit c.args.self.bits)) c.number.ensures.value) refl ∙ shifted_known (bits_moved_down Zero) c.args.self c.args.by _ (sym c.is_known.ensures ∙ c.if-not-is_known.false) refl
