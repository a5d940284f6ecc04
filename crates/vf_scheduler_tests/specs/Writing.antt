-- Short ways to write designs and rows.
use Rattle.std.specs.Prelude.{ℕ, ◌-◌, Bool, true, false, List, [], ◌∷◌, Option, Some, None, ℤ, pos}
use Rattle.vf_base.specs.declared.run.Ending.{Ending}
use Rattle.vf_base.specs.declared.run.SaveKind.{SaveKind}
use Rattle.vf_fours.specs.declared.Bit.{Bit}
use Rattle.vf_fours.specs.Numbers.{digits_of}
use Rattle.vf_machine.specs.declared.mark.Mark.TheVariants.{Plain, Saved, Ended}
use Rattle.vf_elaborated.specs.declared.design.Signal.{Signal}
use Rattle.vf_elaborated.specs.declared.design.Process.{Process}
use Rattle.vf_elaborated.specs.declared.code.Target.{Target}
use Rattle.vf_elaborated.specs.declared.code.TargetPiece.{TargetPiece}
use Rattle.vf_elaborated.specs.declared.code.Event.{Event}
use Rattle.vf_elaborated.specs.declared.code.Edge.{Edge}
use Rattle.vf_elaborated.specs.declared.code.Instr.{Instr}
use Rattle.vf_elaborated.specs.declared.expr.Expr.{Expr}
use Rattle.vf_elaborated.specs.declared.expr.Expr.TheVariants.{Const, Read}
use Rattle.vf_scheduler_tests.specs.Rows.{Row}

-- ---- signals

-- a variable by its name, width and mark; its bounds count down to 0
abbrev pub variable : List ℕ → ℕ → Bool → Signal
variable name width signed = record {
  name = name;
  width = width;
  signed = signed;
  left = pos (width - 1);
  right = pos 0;
  elements = 1;
  first = pos 0;
  memory = false;
  net = false;
}

abbrev pub net : List ℕ → ℕ → Signal
net name width = record (variable name width false) { net = true }

-- a memory with addresses from 0
abbrev pub memory : List ℕ → ℕ → ℕ → Signal
memory name width elements = record (variable name width false) { elements = elements; memory = true }

-- ---- expressions

-- a number of a width, unsigned or signed
abbrev pub number : ℕ → ℕ → Expr
number width n = Const (record { bits = digits_of width n; signed = false })

abbrev pub signed_number : ℕ → ℕ → Expr
signed_number width n = Const (record { bits = digits_of width n; signed = true })

-- a number without a size: 32 bits, signed
abbrev pub plain : ℕ → Expr
plain n = signed_number 32 n

-- bits, least first
abbrev pub bits : List Bit → Expr
bits list = Const (record { bits = list; signed = false })

abbrev pub read : ℕ → Expr
read sig = Read (record { 0 = sig }) None

-- ---- targets

abbrev pub whole_piece : ℕ → ℕ → TargetPiece
whole_piece sig width = record { sig = record { 0 = sig }; element = None; low = None; scale = pos 1; shift = pos 0; width = width }

-- a signal of a width
abbrev pub whole : ℕ → ℕ → Target
whole sig width = record { 0 = whole_piece sig width ∷ [] }

abbrev pub element_piece : ℕ → Expr → ℕ → TargetPiece
element_piece sig at width = record (whole_piece sig width) { element = Some at }

abbrev pub part_piece : ℕ → Expr → ℤ → ℤ → ℕ → TargetPiece
part_piece sig low scale shift width = record (whole_piece sig width) { low = Some low; scale = scale; shift = shift }

abbrev pub to : TargetPiece → Target
to piece = record { 0 = piece ∷ [] }

-- ---- processes

abbrev pub event : Edge → ℕ → Option ℕ → Event
event edge sig bit = record { edge = edge; sig = record { 0 = sig }; bit = bit }

abbrev pub process : List Instr → Process
process code = record { code = code; driver = None }

-- a continuous assignment
abbrev pub driving : ℕ → Instr → Process
driving driver instr = record { code = instr ∷ []; driver = Some driver }

-- ---- rows

abbrev pub wrote : List (ℕ × ℕ) → Row
wrote words = record { words = words; text = []; mark = Plain }

abbrev pub printed : List (ℕ × ℕ) → List ℕ → Row
printed words text = record { words = words; text = text; mark = Plain }

-- a turn that is a checkpoint
abbrev pub saved : List (ℕ × ℕ) → SaveKind → Row
saved words kind = record { words = words; text = []; mark = Saved kind }

abbrev pub over : Ending → Row
over ending = record { words = []; text = []; mark = Ended ending }
