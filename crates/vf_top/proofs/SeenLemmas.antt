-- A shelf and a sink are what they show.
use Rattle.std.proofs.Common.{◌≡◌, ℕ, List, Option, ◌∙◌, ap}
use Rattle.vf_ports.specs.Shelf.{Told, ShelfState}
use Rattle.vf_ports.specs.Sink.{SinkState}

pub same_shelf : (a b : ShelfState) → b.holds ≡ a.holds → b.failed ≡ a.failed → b.faults ≡ a.faults → b ≡ a
same_shelf a b holds failed faults =
    let one = λ (h : List ℕ → Told). record b { holds = h } in
    let two = λ (f : Option (List (List ℕ))). record b { holds = a.holds; failed = f } in
    let three = λ (n : ℕ). record a { faults = n } in
    ap one holds ∙ ap two failed ∙ ap three faults

pub same_sink : (a b : SinkState) → b.written ≡ a.written → b.faults ≡ a.faults → b ≡ a
same_sink a b written faults =
    let one = λ (w : Option (List ℕ)). record b { written = w } in
    let two = λ (n : ℕ). record a { faults = n } in
    ap one written ∙ ap two faults
