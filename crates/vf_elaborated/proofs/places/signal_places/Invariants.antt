use Rattle.std.proofs.Common.{◌≡◌, ◌++◌, drop}
use Rattle.vf_elaborated.specs.Layout.{places_from, end_from}
use Rattle.vf_elaborated.proofs.places.signal_places.Given as goal

-- the places so far, and those of the signals that are left; the words of all signals end where they do
abbrev pub invariant-loop-signal : goal.invariant-loop-signal
invariant-loop-signal l =
    let rest = drop l.signal-index l.signals in
    (l.places ++ places_from l.at rest ≡ places_from l.begin l.signals) × (end_from l.at rest ≡ end_from l.begin l.signals)
