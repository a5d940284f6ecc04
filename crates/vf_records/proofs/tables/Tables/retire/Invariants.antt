use Rattle.std.proofs.Common.{◌≡◌, ◌<◌, ◌≤◌, IfSome, length, true}
use Rattle.vf_jobs.specs.Subtree.{is_below}
use Rattle.vf_records.specs.Account.{solo_of}
use Rattle.vf_records.proofs.ReadyLemmas.{height}
use Rattle.vf_records.proofs.FollowLemmas.{AreRetired}
use Rattle.vf_records.proofs.tables.Tables.retire.Given as goal

-- the images of the nodes after this one that no job needs are given back; from the job's node on it stands on that node's way
abbrev pub invariant-nodes : goal.invariant-nodes
invariant-nodes l = record {
  there : IfSome l.at (λ a. a.0 < length l.setup.plan);
  on : IfSome l.at (λ a. a.0 ≤ l.node.0 → is_below l.setup.plan a.0 l.node.0 ≡ true);
  retired : AreRetired l.setup (solo_of l.setup).counts l.fn.self l.self (height l.at);
}

abbrev pub decreases-nodes : goal.decreases-nodes
decreases-nodes l = height l.at
