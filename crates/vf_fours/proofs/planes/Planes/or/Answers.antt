use Rattle.vf_fours.specs.Planes.{bit_from}
use Rattle.vf_fours.specs.Numbers.{bit_is}
use Rattle.vf_fours.proofs.PlaneLemmas.{bit_is-or}
use Rattle.vf_fours.proofs.Tables.{or_table}
use Rattle.vf_fours.proofs.planes.Planes.or.Goals as goal

pub returns : goal.returns
unfolding bit_from
returns c = λ i. simp (bit_is-or, c.without.ensures, c.without-2.ensures, c.without-3.ensures) (or_table (bit_is c.args.self.ones i) (bit_is c.args.self.unknown i) (bit_is c.args.other.ones i) (bit_is c.args.other.unknown i))
