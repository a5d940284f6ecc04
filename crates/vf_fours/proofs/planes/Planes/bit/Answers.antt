use Rattle.std.proofs.Common.{ap₂, ◌∙◌, nat_eq}
use Rattle.std.proofs.lemmas.Nat.Bits.{shr_and_one}
use Rattle.vf_fours.specs.Planes.{bit_from, bit_of}
use Rattle.vf_fours.proofs.planes.Planes.bit.Goals as goal

pub returns : goal.returns
unfolding bit_from
returns c = c.bit_of.ensures ∙ ap₂ (λ m n. bit_of (nat_eq m 1) (nat_eq n 1)) (shr_and_one c.args.self.ones c.args.at) (shr_and_one c.args.self.unknown c.args.at)
