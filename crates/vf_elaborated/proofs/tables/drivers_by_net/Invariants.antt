use Rattle.std.proofs.Common.{◌≡◌, ℕ, List, [], drop, replicate}
use Rattle.vf_elaborated.specs.Tables.{drives}
use Rattle.vf_elaborated.specs.Noting.{noted_all}
use Rattle.vf_elaborated.proofs.tables.drivers_by_net.Given as goal

-- the processes that are left are noted in the lists so far
abbrev pub invariant-loop-process : goal.invariant-loop-process
invariant-loop-process l =
    (l.number ≡ l.process-index)
    × (noted_all drives l.number (drop l.process-index l.processes) l.lists ≡ noted_all drives 0 l.processes (replicate {A = List ℕ} l.signals []))
