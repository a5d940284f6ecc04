use Rattle.std.proofs.Common.{ap, ap₂, ◌∙◌}
use Rattle.vf_fours.specs.Planes.{bit_from, bit_of}
use Rattle.vf_fours.specs.Numbers.{bit_is}
use Rattle.vf_fours.proofs.PlaneLemmas.{bit_is-low_ones}
use Rattle.vf_fours.proofs.planes.Planes.all_x.Goals as goal

pub returns-clause-bits : goal.returns-clause-bits
unfolding bit_from
returns-clause-bits c = λ i h.
    let set = ap (λ n. bit_is n i) c.low_ones-word.ensures ∙ bit_is-low_ones c.args.places i h in
    ap₂ bit_of set set
