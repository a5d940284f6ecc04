-- What the instruction of a running process does (docs/LANGUAGE.md, "The scheduler"; IEEE Std 1364-2005, clauses 6, 9 and 17).
use Rattle.std.specs.Prelude.{ℕ, ◌+◌, ◌-◌, ◌^◌, true, List, [], ◌∷◌, Option, Some, None, slice_get, if◌then◌else◌}
use Rattle.std.specs.List.{list_any}
use Rattle.std.specs.Option.{option_and_then}
use Rattle.vf_base.specs.declared.run.SaveKind.TheVariants.{Full, Incr}
use Rattle.vf_base.specs.declared.run.Ending.TheVariants as endings
use Rattle.vf_fours.specs.Bits.{FourState}
use Rattle.vf_fours.specs.Numbers.{digits_of}
use Rattle.vf_fours.specs.Operators.{resize_of}
use Rattle.vf_machine.specs.Machine.{Move, go, stop, Sight}
use Rattle.vf_elaborated.specs.declared.design.Process.{Process}
use Rattle.vf_elaborated.specs.declared.code.Target.{Target}
use Rattle.vf_elaborated.specs.declared.code.ShowKind.{ShowKind}
use Rattle.vf_elaborated.specs.declared.code.ShowKind.TheVariants as show_kinds
use Rattle.vf_elaborated.specs.declared.code.Instr.{Instr}
use Rattle.vf_elaborated.specs.declared.code.Instr.TheVariants.{Set, Getc, Post, Drive, Count, Jump, Unless, Match, Delay, Await, Until, Show, Watch, Save, IncSave, Finish, Stop, Halt}
use Rattle.vf_elaborated.specs.declared.expr.Expr.{Expr}
use Rattle.vf_elaborated.specs.Elaborated.{Elaborated}
use Rattle.vf_elaborated.specs.Values.{delay_of, rounds_of, is_match, is_true}
use Rattle.vf_elaborated.specs.WellFormed.{target_width}
use Rattle.vf_scheduler.specs.State.{State, Halted, Waiting, Update, worth, goes_to, leaves}
use Rattle.vf_scheduler.specs.Updating.{updated_all}
use Rattle.vf_scheduler.specs.Assigning.{updates_of}
use Rattle.vf_scheduler.specs.Driving.{driver_takes}
use Rattle.vf_scheduler.specs.Posting.{post, delayed, strobe}
use Rattle.vf_scheduler.specs.Printing.{shown}

-- the next byte of the stimulus, or -1 where there is none: 32 bits, signed
abbrev pub byte_value : Option ℕ → FourState
byte_value None = record { bits = digits_of 32 (2 ^ 32 - 1); signed = true }
byte_value (Some byte) = record { bits = digits_of 32 byte; signed = true }

-- a hidden counter takes a number
abbrev pub counter_update : ℕ → ℕ → Update
counter_update sig n = record { sig = sig; element = 0; low = 0; bits = digits_of 64 n }

-- no delay is a delay of 0
abbrev pub delay_in : (Expr → FourState) → Option Expr → ℕ
delay_in value None = 0
delay_in value (Some e) = delay_of (value e)

abbrev pub driver_of : Elaborated → ℕ → Option ℕ
driver_of d p = option_and_then (λ (process : Process). process.driver) (slice_get d.processes p)

abbrev pub show_of : Elaborated → Sight → ℕ → ℕ → ShowKind → ℕ → State → Move State
show_of d sight p place show_kinds.Strobe show s = strobe show s (goes_to p (place + 1) s)
show_of d sight p place kind show s = go (goes_to p (place + 1) s) (shown d sight.past_end s show) None

module _ (d : Elaborated) (sight : Sight) (p : ℕ) (place : ℕ) (s : State) where
  -- what an expression is worth before the turn
  abbrev pub now : Expr → FourState
  now e = worth d sight.past_end s e

  -- the process goes on to a place
  abbrev pub to : ℕ → Move State
  to next = go (goes_to p next s) [] None

  -- the process goes on after updates
  abbrev pub after : List Update → Move State
  after updates = go (updated_all d updates (goes_to p (place + 1) s)) [] None

  -- the updates of an assignment of a value
  abbrev pub assigned : Target → FourState → List Update
  assigned target a = updates_of now d.signals target a.bits

  -- A continuous assignment waits again before its nets are updated, so it wakes itself where it reads one.
  abbrev pub perform_one : Instr → Move State
  perform_one (Set target e) = after (assigned target (now e))
  perform_one (Getc target e) = after (assigned target (resize_of (byte_value sight.byte) (target_width target) true))
  perform_one (Post target e delay) = post (delay_in now delay) (assigned target (now e)) s (goes_to p (place + 1) s)
  perform_one (Drive target e) = go (driver_takes d (driver_of d p) target (now e).bits (leaves p place Waiting s)) [] None
  perform_one (Count sig e) = after (counter_update sig.0 (rounds_of (now e)) ∷ [])
  perform_one (Jump next) = to next
  perform_one (Unless e next) = to (if is_true (now e) then place + 1 else next)
  perform_one (Match kind e list next) = to (if list_any (λ item. is_match kind (now e) (now item)) list then place + 1 else next)
  perform_one (Delay e) = delayed p (place + 1) (delay_of (now e)) s
  perform_one (Await events) = go (leaves p place Waiting s) [] None
  perform_one (Until e) = if is_true (now e) then to (place + 1) else go (leaves p place Waiting s) [] None
  perform_one (Show kind show) = show_of d sight p place kind show s
  perform_one (Watch show) = go (record (goes_to p (place + 1) s) { monitor = Some show; due = true }) [] None
  perform_one Save = go (goes_to p (place + 1) s) [] (Some Full)
  perform_one IncSave = go (goes_to p (place + 1) s) [] (Some Incr)
  perform_one (Finish n) = stop (endings.Finish n)
  perform_one (Stop n) = stop (endings.Stop n)
  perform_one Halt = go (leaves p place Halted s) [] None

-- the instruction of a running process; a sound state has one
abbrev pub perform : Elaborated → Sight → ℕ → ℕ → State → Option Instr → Move State
perform d sight p place s (Some instr) = perform_one d sight p place s instr
perform d sight p place s None = stop endings.Drained
