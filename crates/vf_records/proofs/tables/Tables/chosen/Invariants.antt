use Rattle.std.proofs.Common.{◌≡◌, ◌<◌, ◌≤◌, IfSome, length, option_map}
use Rattle.vf_journal.specs.Journal.{chosen}
use Rattle.vf_records.specs.Account.{farm_of}
use Rattle.vf_records.specs.Tables.{held_of, records_of}
use Rattle.vf_records.proofs.EvictLemmas.{free_from}
use Rattle.vf_records.proofs.tables.Tables.chosen.Given as goal

-- the one chosen of the images from `at` on
abbrev pub invariant-loop-at : goal.invariant-loop-at
invariant-loop-at l = record {
  best : option_map held_of l.best ≡ chosen (farm_of l.setup) l.setup.order (free_from (records_of l.self) l.self.held.items l.at);
  within : IfSome l.best (λ h. h.node.0 < length l.setup.plan);
  at : l.at ≤ length l.self.held.items;
}

abbrev pub decreases-loop-at : goal.decreases-loop-at
decreases-loop-at l = l.at
