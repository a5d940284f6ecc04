use Rattle.std.proofs.Common.{ap₂, ◌∙◌}
use Rattle.vf_fours.specs.Planes.{bit_from, bit_of}
use Rattle.vf_fours.proofs.PlaneLemmas.{bit_of-cond}
use Rattle.vf_fours.proofs.planes.Planes.above.Goals as goal

pub returns : goal.returns
unfolding bit_from
returns c = λ i h. ap₂ bit_of (c.stacked.ensures i h) (c.stacked-2.ensures i h) ∙ bit_of-cond _ _ _ _ _
