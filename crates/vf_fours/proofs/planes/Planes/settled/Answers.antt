use Rattle.std.proofs.lemmas.Nat.{or_lt}
use Rattle.vf_fours.specs.Planes.{bit_from}
use Rattle.vf_fours.specs.Numbers.{bit_is}
use Rattle.vf_fours.proofs.PlaneLemmas.{bit_is-or}
use Rattle.vf_fours.proofs.Tables.{settled_table}
use Rattle.vf_fours.proofs.planes.Planes.settled.Goals as goal

pub returns-clause-bits : goal.returns-clause-bits
unfolding bit_from
returns-clause-bits c = λ i. simp (bit_is-or) (settled_table (bit_is c.args.self.ones i) (bit_is c.args.self.unknown i))

pub returns-clause-below : goal.returns-clause-below
returns-clause-below c = λ w h. record {
  ones_fit = or_lt w c.args.self.ones c.args.self.unknown h.ones_fit h.unknown_fit;
  unknown_fit = h.unknown_fit;
}
