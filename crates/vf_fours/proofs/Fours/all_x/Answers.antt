use Rattle.std.proofs.Common.{refl, ◌∙◌}
use Rattle.vf_fours.proofs.ListLemmas.{same_state, bits_of-x}
use Rattle.vf_fours.proofs.Fours.all_x.Goals as goal

pub returns-clause-value : goal.returns-clause-value
returns-clause-value c = c.low_bits.ensures.value ∙ same_state (bits_of-x c.args.width c.all_x.result c.all_x.ensures.bits) refl
