-- What a state must have so that its words stand at their addresses (docs/LANGUAGE.md, "The words of a state").
use Rattle.std.specs.Prelude.{◌≡◌, length, map}
use Rattle.std.specs.List.{AllZip}
use Rattle.vf_elaborated.specs.Elaborated.{Elaborated}
use Rattle.vf_elaborated.specs.Shapes.{FitsSignal}
use Rattle.vf_elaborated.specs.Drivers.{driver_widths}
use Rattle.vf_scheduler.specs.State.{State}

-- A state has what the design names. No more of soundness is asked for, since a state in the middle of a turn need not be sound.
pub record HasShape (d : Elaborated) (s : State) : Type 0 where
  pub threads : length s.threads ≡ length d.processes
  pub values : AllZip FitsSignal d.signals s.values
  pub drivers : map length s.drivers ≡ driver_widths d
  pub slots : length s.slots ≡ d.slots
