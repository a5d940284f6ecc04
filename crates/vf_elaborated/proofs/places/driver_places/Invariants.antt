use Rattle.std.proofs.Common.{◌≡◌, ◌+◌, ◌++◌, drop, sum_by}
use Rattle.vf_elaborated.specs.Layout.{value_size}
use Rattle.vf_elaborated.specs.Places.{starts_from}
use Rattle.vf_elaborated.proofs.AddressLemmas.{widths_in}
use Rattle.vf_elaborated.proofs.places.driver_places.Given as goal

-- the places so far, and those of the drivers that are left; all drivers end where they do
abbrev pub invariant-loop-process : goal.invariant-loop-process
invariant-loop-process l =
    let rest = widths_in (drop l.process-index l.processes) in
    (l.places ++ starts_from l.at rest ≡ starts_from l.begin (widths_in l.processes))
    × (l.at + sum_by value_size rest ≡ l.begin + sum_by value_size (widths_in l.processes))
