-- A turn that reads the stimulus goes on.
use Rattle.std.proofs.Common.{◌≡◌, true, Option, Some, None, refl, ◌∙◌, ap}
use Rattle.std.proofs.lemmas.Bool.{false≢true}
use Rattle.vf_machine.specs.Machine.{stops}
use Rattle.vf_design.specs.declared.code.Instr.{Instr}
use Rattle.vf_design.specs.declared.code.Instr.TheVariants.{Getc, Jump, Unless, Show, Save, IncSave, Finish, Halt}
use Rattle.vf_design.specs.State.{Status, halted, active, running}
use Rattle.vf_design.specs.Step.{instruction, is_at_read, move_from, is_drained, perform}
use Rattle.vf_design.specs.Laws.{ReadsGoOn}

instruction_goes : (instr : Option Instr) → is_at_read running instr ≡ true → instr ≡ Some Getc
instruction_goes None h = absurd (false≢true h)
instruction_goes (Some Getc) h = refl
instruction_goes (Some (Jump to)) h = absurd (false≢true h)
instruction_goes (Some (Unless condition to)) h = absurd (false≢true h)
instruction_goes (Some Show) h = absurd (false≢true h)
instruction_goes (Some Save) h = absurd (false≢true h)
instruction_goes (Some IncSave) h = absurd (false≢true h)
instruction_goes (Some (Finish n)) h = absurd (false≢true h)
instruction_goes (Some Halt) h = absurd (false≢true h)

-- the status and the instruction of a turn that reads
record Reads (status : Status) (instr : Option Instr) : Type 0 where
  runs : status ≡ running
  gets : instr ≡ Some Getc

reading : (status : Status) (instr : Option Instr) → is_at_read status instr ≡ true → Reads status instr
reading running instr h = record { runs = refl; gets = instruction_goes instr h }
reading active instr h = absurd (false≢true h)
reading halted instr h = absurd (false≢true h)

pub reads_on : ReadsGoOn
reads_on p s sight sound at_read =
    let r = reading s.status (instruction p s) at_read in
    record {
      event = ap is_drained r.runs;
      move = ap (λ status. stops (move_from p sight s status)) r.runs ∙ ap (λ instr. stops (perform sight s instr)) r.gets;
    }
