-- What an observer sees of a state: whether an event is left, and whether the next turn reads the stimulus (docs/LANGUAGE.md,
-- "The scheduler").
use Rattle.std.specs.Prelude.{ℕ, Bool, true, false, List, [], Option, Some, None}
use Rattle.vf_elaborated.specs.declared.code.Instr.{Instr}
use Rattle.vf_elaborated.specs.declared.code.Instr.TheVariants.{Getc}
use Rattle.vf_elaborated.specs.Elaborated.{Elaborated}
use Rattle.vf_elaborated.specs.Values.{is_stimulus}
use Rattle.vf_scheduler.specs.State.{State, Item, thread_of, instr_at, worth}

-- no process runs, no region has an event, and the monitor is not due
abbrev pub is_over : Option ℕ → (active inactive nonblocking strobes : List Item) → Bool → List Item → Bool
is_over None [] [] [] [] false [] = true
is_over _ _ _ _ _ _ _ = false

unfoldable pub is_drained : State → Bool
is_drained s = is_over s.running s.active s.inactive s.nonblocking s.strobes s.due s.future

-- `$fgetc` of the stimulus
abbrev pub reads_byte : Elaborated → Bool → State → Option Instr → Bool
reads_byte d past_end s (Some (Getc target e)) = is_stimulus (worth d past_end s e)
reads_byte d past_end s _ = false

abbrev pub reads_by : Elaborated → Bool → State → Option ℕ → Bool
reads_by d past_end s (Some p) = reads_byte d past_end s (instr_at d p (thread_of s p).place)
reads_by d past_end s None = false

-- Whether the turn reads the stimulus. It may depend on whether a read has gone past the end, since the descriptor of `$fgetc` may hold a
-- `$feof`.
unfoldable pub is_at_read : Elaborated → Bool → State → Bool
is_at_read d past_end s = reads_by d past_end s s.running
