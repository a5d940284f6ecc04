use Rattle.std.proofs.Common.{ap₂, ◌++◌}
use Rattle.vf_patch.proofs.FrontLemmas.{none-marked}
use Rattle.vf_patch.proofs.patch.Patch.new.Goals as goal

pub returns : goal.returns
returns c = ap₂ (λ xs ys. xs ++ ys) (none-marked _) c.new.ensures.items
