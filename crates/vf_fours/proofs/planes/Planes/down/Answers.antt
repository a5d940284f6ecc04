use Rattle.std.proofs.Common.{ap₂}
use Rattle.vf_fours.specs.Planes.{bit_from, bit_of}
use Rattle.vf_fours.proofs.PlaneLemmas.{bit_is-shr, shr_fits}
use Rattle.vf_fours.proofs.planes.Planes.down.Goals as goal

pub returns-clause-bits : goal.returns-clause-bits
unfolding bit_from
returns-clause-bits c = λ i. ap₂ bit_of (bit_is-shr c.args.self.ones c.args.places i) (bit_is-shr c.args.self.unknown c.args.places i)

pub returns-clause-below : goal.returns-clause-below
returns-clause-below c = λ w h. record {
  ones_fit = shr_fits c.args.self.ones c.args.places w h.ones_fit;
  unknown_fit = shr_fits c.args.self.unknown c.args.places w h.unknown_fit;
}
