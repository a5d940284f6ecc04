use Rattle.std.proofs.Common.{◌≡◌, ◌<◌, IfSome, length, option_map}
use Rattle.vf_jobs.specs.Jobs.{first_fitting, node_no}
use Rattle.vf_journal.specs.Records.{image_of}
use Rattle.vf_records.specs.Account.{solo_of}
use Rattle.vf_records.specs.Tables.{records_of}
use Rattle.vf_records.proofs.ReadyLemmas.{above, height}
use Rattle.vf_records.proofs.tables.Tables.nearest.Given as goal

-- the node looked at is of the plan, and the nearest that fits stands there or above
abbrev pub invariant-nodes : goal.invariant-nodes
invariant-nodes l = record {
  there : IfSome l.at (λ node. node.0 < length l.setup.plan);
  same : first_fitting l.limits (λ n. option_map (solo_of l.setup).counts (image_of (records_of l.self) (node_no n))) (above l.setup.plan l.fn.from)
      ≡ first_fitting l.limits (λ n. option_map (solo_of l.setup).counts (image_of (records_of l.self) (node_no n))) (above l.setup.plan l.at);
}

abbrev pub decreases-nodes : goal.decreases-nodes
decreases-nodes l = height l.at
