-- Where the words of a state stand, and what values stand in them (docs/LANGUAGE.md, "The words of a state"). Addresses count words from 0.
use Rattle.std.specs.Prelude.{◌<◌, ◌≤◌, ℕ, zero, suc, ◌+◌, ◌*◌, ◌^◌, Bool, List, [], ◌∷◌, length, Option, Some, None, slice_get, slice_index, nat_lt, if◌then◌else◌}
use Rattle.vf_fours.specs.declared.Bit.{Bit}
use Rattle.vf_fours.specs.Planes.{bits_of}
use Rattle.vf_elaborated.specs.declared.layout.TheConstants.{FRONT_WORDS, PROCESS_WORDS}
use Rattle.vf_elaborated.specs.declared.design.Signal.{Signal}
use Rattle.vf_elaborated.specs.Elaborated.{Elaborated}
use Rattle.vf_elaborated.specs.Values.{Elements, Scene}

-- how many words a value of a width has: two for each 64 bits
abbrev pub value_size : ℕ → ℕ
value_size width = if nat_lt 64 width then 4 else 2

-- the words of a signal: its elements by rising address
abbrev pub signal_size : Signal → ℕ
signal_size signal = signal.elements * value_size signal.width

-- the first word of each signal, the first signal at an address
abbrev pub places_from : ℕ → List Signal → List ℕ
places_from at [] = []
places_from at (signal ∷ rest) = at ∷ places_from (at + signal_size signal) rest

-- the first word after them
abbrev pub end_from : ℕ → List Signal → ℕ
end_from at [] = at
end_from at (signal ∷ rest) = end_from (at + signal_size signal) rest

-- the signals stand after the processes, and the drivers after the signals
abbrev pub signals_begin : Elaborated → ℕ
signals_begin d = FRONT_WORDS + PROCESS_WORDS * length d.processes

abbrev pub drivers_begin : Elaborated → ℕ
drivers_begin d = end_from (signals_begin d) d.signals

abbrev pub places_of : Elaborated → List ℕ
places_of d = places_from (signals_begin d) d.signals

-- ---- elements

abbrev pub count_in : Option Signal → ℕ
count_in None = 0
count_in (Some signal) = signal.elements

abbrev pub width_in : Option Signal → ℕ
width_in None = 0
width_in (Some signal) = signal.width

abbrev pub width_at : Elaborated → ℕ → ℕ
width_at d sig = width_in (slice_get d.signals sig)

-- the signal is there, and has the element
abbrev pub IsElement : Elaborated → ℕ → ℕ → Type 0
IsElement d sig element = element < count_in (slice_get d.signals sig)

-- the first word of an element
unfoldable pub address_of : Elaborated → ℕ → ℕ → ℕ
address_of d sig element = slice_index (places_of d) sig + element * value_size (width_at d sig)

-- ---- what values stand in words

-- One of the two planes of a value: the low 64 bits stand in a word, and the others two words after it.
abbrev pub plane_at : List ℕ → ℕ → ℕ → ℕ
plane_at words width at =
    if nat_lt 64 width then slice_index words at + 2 ^ 64 * slice_index words (at + 2) else slice_index words at

-- the 1s and xs stand at the address, the xs and zs in the word after it
unfoldable pub value_at : List ℕ → ℕ → ℕ → List Bit
value_at words width at = bits_of width (plane_at words width at) (plane_at words width (at + 1))

abbrev pub elements_at : List ℕ → ℕ → ℕ → ℕ → Elements
elements_at words width at zero = []
elements_at words width at (suc n) = value_at words width at ∷ elements_at words width (at + value_size width) n

abbrev pub values_at : List ℕ → ℕ → List Signal → List Elements
values_at words at [] = []
values_at words at (signal ∷ rest) =
    elements_at words signal.width at signal.elements ∷ values_at words (at + signal_size signal) rest

-- what an expression may look at, in words
abbrev pub scene_at : Elaborated → Bool → List ℕ → Scene
scene_at d past_end words = record {
  values = values_at words (signals_begin d) d.signals;
  time = slice_index words 0;
  past_end = past_end;
}

-- ---- words that hold values

-- the planes of a value have no bit above its width
pub record HasValue (words : List ℕ) (width : ℕ) (at : ℕ) : Type 0 where
  pub ones : plane_at words width at < 2 ^ width
  pub unknown : plane_at words width (at + 1) < 2 ^ width

-- There are words up to the drivers, and each element of each signal has a value of its width.
pub record HoldsValues (d : Elaborated) (words : List ℕ) : Type 0 where
  pub long : drivers_begin d ≤ length words
  pub values : (sig element : ℕ) → IsElement d sig element → HasValue words (width_at d sig) (address_of d sig element)
