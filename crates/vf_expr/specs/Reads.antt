-- Reads of values in the words of a state.
use Rattle.std.specs.Prelude.{◌≡◌, ℕ, ◌+◌, ◌^◌, ◌<◌, Bool, true, false, List, [], length, Option, Some, None, slice_get, slice_index_or, nat_lt, if◌then◌else◌}
use Rattle.vf_fours.specs.Bits.{FourState}
use Rattle.vf_elaborated.specs.declared.design.Signal.{Signal}
use Rattle.vf_elaborated.specs.Shapes.{is_width}
use Rattle.vf_elaborated.specs.Elaborated.{Elaborated}
use Rattle.vf_elaborated.specs.Layout.{HasValue, signals_begin, values_at}

-- the words of a plane are there
pub record Reaches (words : List ℕ) (width at : ℕ) : Type 0 where
  pub inside : at + (if nat_lt 64 width then 2 else 0) < length words
  pub small : at + (if nat_lt 64 width then 2 else 0) < 2 ^ 32

-- a value of a signal stands at the address
pub record IsReadable (words : List ℕ) (signal : Signal) (at : ℕ) : Type 0 where
  pub width : is_width signal.width ≡ true
  pub ones : Reaches words signal.width at
  pub unknown : Reaches words signal.width (at + 1)
  pub fits : HasValue words signal.width at

abbrev pub signed_in : Option Signal → Bool
signed_in None = false
signed_in (Some signal) = signal.signed

-- the value of a signal's element
abbrev pub element_in : Elaborated → List ℕ → ℕ → ℕ → FourState
element_in d words sig element = record {
  bits = slice_index_or (slice_index_or (values_at words (signals_begin d) d.signals) sig []) element [];
  signed = signed_in (slice_get d.signals sig);
}
