-- Continuous assignments: what the drivers of a net make of it (docs/LANGUAGE.md, "The scheduler"; IEEE Std 1364-2005, 4.6.1 and 6.1).
use Rattle.std.specs.Prelude.{ℕ, false, ◌==◌, List, [], ◌∷◌, replicate, Option, Some, None, slice_get, slice_set, slice_index_or, if◌then◌else◌, ℤ, pos, negsuc, ◌-ℤ◌}
use Rattle.std.specs.List.{flat_map, fold}
use Rattle.vf_fours.specs.declared.Bit.{Bit}
use Rattle.vf_fours.specs.declared.Bit.TheVariants.{Z}
use Rattle.vf_fours.specs.Bits.{FourState, zip_with, wire_bit, tabulate}
use Rattle.vf_elaborated.specs.declared.design.Signal.{Signal}
use Rattle.vf_elaborated.specs.declared.design.Process.{Process}
use Rattle.vf_elaborated.specs.declared.code.Target.{Target}
use Rattle.vf_elaborated.specs.declared.code.TargetPiece.{TargetPiece}
use Rattle.vf_elaborated.specs.declared.expr.Expr.{Expr}
use Rattle.vf_elaborated.specs.Elaborated.{Elaborated}
use Rattle.vf_elaborated.specs.Values.{worth_of}
use Rattle.vf_elaborated.specs.Drivers.{target_of}
use Rattle.vf_scheduler.specs.State.{State}
use Rattle.vf_scheduler.specs.Assigning.{piece_low, cut}
use Rattle.vf_scheduler.specs.Updating.{updated}

-- the pieces of a driver with their bits
abbrev pub parts_of : Option Target → List Bit → List (TargetPiece × List Bit)
parts_of None bits = []
parts_of (Some target) bits = cut target.0 bits

abbrev pub driver_parts : List (List Bit) → Process → Option ℕ → List (TargetPiece × List Bit)
driver_parts drivers process None = []
driver_parts drivers process (Some driver) = parts_of (target_of process) (slice_index_or drivers driver [])

-- the bit at a place, and z outside
abbrev pub bit_or_z : List Bit → ℤ → Bit
bit_or_z bits (pos i) = slice_index_or bits i Z
bit_or_z bits (negsuc i) = Z

-- what bits from a place on drive on a net of a width: z where they do not reach
abbrev pub spread : ℕ → Option ℤ → List Bit → List Bit
spread width None bits = replicate width Z
spread width (Some low) bits = tabulate (λ i. bit_or_z bits (pos i -ℤ low)) width

-- an index of such a target is a constant, so it needs no state
abbrev pub constant_worth : List Signal → Expr → FourState
constant_worth signals e = worth_of signals e (record { values = []; time = 0; past_end = false })

-- a piece with its bits, over what is on the net
abbrev pub driven : List Signal → ℕ → ℕ → List Bit → TargetPiece × List Bit → List Bit
driven signals net width bits part =
    if part.0.sig.0 == net then zip_with wire_bit bits (spread width (piece_low (constant_worth signals) part.0) part.1) else bits

-- The value of a net: z, resolved with each piece of each driver that names it.
unfoldable pub net_bits : Elaborated → List (List Bit) → ℕ → ℕ → List Bit
net_bits d drivers net width =
    fold (driven d.signals net width) (replicate width Z) (flat_map (λ (process : Process). driver_parts drivers process process.driver) d.processes)

abbrev pub net_width : Option Signal → ℕ
net_width None = 0
net_width (Some signal) = signal.width

-- a net is resolved anew and updated
abbrev pub resolved : Elaborated → ℕ → State → State
resolved d net s =
    updated d (record { sig = net; element = 0; low = 0; bits = net_bits d s.drivers net (net_width (slice_get d.signals net)) }) s

abbrev pub resolved_all : Elaborated → List TargetPiece → State → State
resolved_all d [] s = s
resolved_all d (piece ∷ rest) s = resolved_all d rest (resolved d piece.sig.0 s)

abbrev pub put_driver : Option ℕ → List Bit → State → State
put_driver None bits s = s
put_driver (Some driver) bits s = record s { drivers = slice_set s.drivers driver bits }

-- a driver takes a value, and each net that its target names is resolved anew, the most significant piece first
abbrev pub driver_takes : Elaborated → Option ℕ → Target → List Bit → State → State
driver_takes d driver target bits s = resolved_all d target.0 (put_driver driver bits s)
