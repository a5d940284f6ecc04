use Rattle.std.proofs.Common.{◌≡◌, ℕ, ◌<◌, false, drop}
use Rattle.vf_parse.specs.LeftOut.{begins_left_out}
use Rattle.vf_parse.proofs.left_out.left_out.Given as goal

abbrev pub invariant-loop-index : goal.invariant-loop-index
invariant-loop-index l = (j : ℕ) → j < l.index → begins_left_out (drop j l.tokens) ≡ false
