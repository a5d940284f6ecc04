use Rattle.std.proofs.Common.{sym, ap, ◌∙◌}
use Rattle.vf_fours.specs.Bits.{is_one}
use Rattle.vf_fours.proofs.ListLemmas.{any_of_planes, below_from_bits, plane_bit_above}
use Rattle.vf_fours.proofs.Fours.has_one.Goals as goal

pub returns : goal.returns
returns c = sym (any_of_planes is_one c.planes.result c.args.self.bits c.known_ones.result c.planes.ensures (below_from_bits _ _ (λ i h. c.known_ones.ensures i ∙ ap is_one (plane_bit_above c.planes.result _ i c.planes.ensures.below h))) (λ i h. c.known_ones.ensures i))
