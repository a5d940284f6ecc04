use Rattle.std.proofs.Common.{◌*◌}
use Rattle.vf_expr.proofs.Weights.{weight, weights}
use Rattle.vf_expr.proofs.evaluate.+evaluation.Given as goal

abbrev pub decreases-eval : goal.decreases-eval
decreases-eval g l = 2 * weight l.e.now

abbrev pub decreases-joined : goal.decreases-joined
decreases-joined g l = weights l.parts.now
