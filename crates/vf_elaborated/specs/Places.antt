-- The addresses that a design keeps.
use Rattle.std.specs.Prelude.{ℕ, ◌+◌, List, [], ◌∷◌}
use Rattle.vf_elaborated.specs.declared.design.Signal.{Signal}
use Rattle.vf_elaborated.specs.declared.design.Process.{Process}
use Rattle.vf_elaborated.specs.declared.places.Places.{Places}
use Rattle.vf_elaborated.specs.Elaborated.{Elaborated}
use Rattle.vf_elaborated.specs.Layout.{value_size, drivers_begin, places_of}
use Rattle.vf_elaborated.specs.Drivers.{driver_widths}
use Rattle.vf_elaborated.specs.Addresses.{has_wide, slots_begin, word_count}

-- the first word of each value of these widths, the first value at an address
abbrev pub starts_from : ℕ → List ℕ → List ℕ
starts_from at [] = []
starts_from at (width ∷ rest) = at ∷ starts_from (at + value_size width) rest

abbrev pub places_for : Elaborated → Places
places_for d = record {
  signals = places_of d;
  drivers = starts_from (drivers_begin d) (driver_widths d);
  slots = slots_begin d;
  wide = has_wide d;
  words = word_count d;
}

-- the parts of a design that its words depend on
abbrev pub laid : List Signal → List Process → ℕ → Elaborated
laid signals processes slots = record {
  top = [];
  signals = signals;
  processes = processes;
  shows = [];
  slots = slots;
  drivers = 0;
}
