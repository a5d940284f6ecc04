use Rattle.vf_fours.specs.Planes.{bit_from}
use Rattle.vf_fours.specs.Numbers.{bit_is}
use Rattle.vf_fours.proofs.PlaneLemmas.{bit_is-xor, bit_is-or}
use Rattle.vf_fours.proofs.Tables.{xor_table}
use Rattle.vf_fours.proofs.planes.Planes.xor.Goals as goal

pub returns : goal.returns
unfolding bit_from
returns c = λ i. simp (bit_is-xor, bit_is-or) (xor_table (bit_is c.args.self.ones i) (bit_is c.args.self.unknown i) (bit_is c.args.other.ones i) (bit_is c.args.other.unknown i))
