-- The drivers of a design: its continuous assignments (docs/LANGUAGE.md, "The scheduler"; IEEE Std 1364-2005, 6.1).
use Rattle.std.specs.Prelude.{ℕ, List, Option, Some, None, slice_get}
use Rattle.std.specs.List.{filter_map}
use Rattle.std.specs.Option.{option_map}
use Rattle.vf_elaborated.specs.declared.design.Process.{Process}
use Rattle.vf_elaborated.specs.declared.code.Instr.{Instr}
use Rattle.vf_elaborated.specs.declared.code.Instr.TheVariants.{Drive}
use Rattle.vf_elaborated.specs.declared.code.Target.{Target}
use Rattle.vf_elaborated.specs.Elaborated.{Elaborated}
use Rattle.vf_elaborated.specs.WellFormed.{target_width}

-- the target of a process that is a continuous assignment
abbrev pub driven_by : Option Instr → Option Target
driven_by (Some (Drive target e)) = Some target
driven_by _ = None

abbrev pub target_of : Process → Option Target
target_of process = driven_by (slice_get process.code 0)

-- how many bits a driver has
abbrev pub width_of : Option Target → ℕ
width_of None = 0
width_of (Some target) = target_width target

-- the bits of each driver
abbrev pub driver_widths : Elaborated → List ℕ
driver_widths d = filter_map (λ (process : Process). option_map (λ driver. width_of (target_of process)) process.driver) d.processes
