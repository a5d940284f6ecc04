use Rattle.std.proofs.Common.{rules}
use Rattle.vf_fours.specs.Planes.{bit_from}
use Rattle.vf_fours.specs.Numbers.{bit_is}
use Rattle.vf_fours.proofs.PlaneLemmas.{bit_is-or, bit_is-not}
use Rattle.vf_fours.proofs.Tables.{not_table}
use Rattle.vf_fours.proofs.planes.Planes.not.Goals as goal

pub returns : goal.returns
unfolding bit_from
returns c = λ i h. simp (bit_is-or, bit_is-not c.args.self.ones i (search rules) h) (not_table (bit_is c.args.self.ones i) (bit_is c.args.self.unknown i))
