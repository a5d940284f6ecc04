-- A turn that reads the stimulus goes on.
use Rattle.std.proofs.Common.{◌≡◌, ℕ, Bool, true, false, Option, Some, None, refl}
use Rattle.std.proofs.lemmas.Bool.{false≢true}
use Rattle.vf_machine.specs.Machine.{Sight, stops}
use Rattle.vf_elaborated.specs.declared.code.Instr.{Instr}
use Rattle.vf_elaborated.specs.declared.code.Instr.TheVariants.{Set, Getc, Post, Drive, Count, Jump, Unless, Match, Delay, Await, Until, Show, Watch, Save, IncSave, Finish, Stop, Halt}
use Rattle.vf_elaborated.specs.Elaborated.{Elaborated}
use Rattle.vf_scheduler.specs.State.{State, thread_of, instr_at}
use Rattle.vf_scheduler.specs.Performing.{perform}
use Rattle.vf_scheduler.specs.Turning.{turn_by, turn_of}
use Rattle.vf_scheduler.specs.Seeing.{reads_byte, reads_by, is_over, is_drained, is_at_read}
use Rattle.vf_scheduler.specs.Laws.{ReadsGoOn}

instruction_goes : (d : Elaborated) (sight : Sight) (p place : ℕ) (s : State) (instr : Option Instr) → reads_byte d sight.past_end s instr ≡ true
    → stops (perform d sight p place s instr) ≡ false
instruction_goes d sight p place s None h = absurd (false≢true h)
instruction_goes d sight p place s (Some (Set target e)) h = absurd (false≢true h)
instruction_goes d sight p place s (Some (Getc target e)) h = refl
instruction_goes d sight p place s (Some (Post target e delay)) h = absurd (false≢true h)
instruction_goes d sight p place s (Some (Drive target e)) h = absurd (false≢true h)
instruction_goes d sight p place s (Some (Count sig e)) h = absurd (false≢true h)
instruction_goes d sight p place s (Some (Jump next)) h = absurd (false≢true h)
instruction_goes d sight p place s (Some (Unless e next)) h = absurd (false≢true h)
instruction_goes d sight p place s (Some (Match kind e list next)) h = absurd (false≢true h)
instruction_goes d sight p place s (Some (Delay e)) h = absurd (false≢true h)
instruction_goes d sight p place s (Some (Await events)) h = absurd (false≢true h)
instruction_goes d sight p place s (Some (Until e)) h = absurd (false≢true h)
instruction_goes d sight p place s (Some (Show kind show)) h = absurd (false≢true h)
instruction_goes d sight p place s (Some (Watch show)) h = absurd (false≢true h)
instruction_goes d sight p place s (Some Save) h = absurd (false≢true h)
instruction_goes d sight p place s (Some IncSave) h = absurd (false≢true h)
instruction_goes d sight p place s (Some (Finish n)) h = absurd (false≢true h)
instruction_goes d sight p place s (Some (Stop n)) h = absurd (false≢true h)
instruction_goes d sight p place s (Some Halt) h = absurd (false≢true h)

process_goes : (d : Elaborated) (sight : Sight) (s : State) (running : Option ℕ) → reads_by d sight.past_end s running ≡ true → stops (turn_by d sight s running) ≡ false
process_goes d sight s None h = absurd (false≢true h)
process_goes d sight s (Some p) h =
    let place = (thread_of s p).place in
    instruction_goes d sight p place s (instr_at d p place) h

process_left : (d : Elaborated) (past_end : Bool) (s : State) (running : Option ℕ) → reads_by d past_end s running ≡ true
    → is_over running s.active s.inactive s.nonblocking s.strobes s.due s.future ≡ false
process_left d past_end s None h = absurd (false≢true h)
process_left d past_end s (Some p) h = refl

pub reads_on : ReadsGoOn
unfolding turn_of is_drained is_at_read
reads_on d s sight h = record {
  event = process_left d sight.past_end s s.running h;
  move = process_goes d sight s s.running h;
}
