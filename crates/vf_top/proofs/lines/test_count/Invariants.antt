use Rattle.std.proofs.Common.{◌≡◌, ◌≤◌, take}
use Rattle.std.specs.Prelude.{count_by}
use Rattle.vf_top.proofs.lines.test_count.Given as goal

-- the tests so far are counted
abbrev pub invariant-loop-at : goal.invariant-loop-at
invariant-loop-at l = (l.tests ≡ count_by (λ node. node.test) (take l.at l.nodes)) × (l.tests ≤ l.at)
