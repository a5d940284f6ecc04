use Rattle.std.proofs.Common.{sym, ◌∙◌}
use Rattle.vf_fours.specs.Planes.{bit_from}
use Rattle.vf_fours.specs.Numbers.{bit_is}
use Rattle.vf_fours.proofs.Tables.{one_table}
use Rattle.vf_fours.proofs.planes.Planes.known_ones.Goals as goal

pub returns : goal.returns
unfolding bit_from
returns c = λ i. c.without.ensures i ∙ sym (one_table (bit_is c.args.self.ones i) (bit_is c.args.self.unknown i))
