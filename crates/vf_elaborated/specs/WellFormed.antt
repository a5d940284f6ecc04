-- What a well-formed design is (docs/LANGUAGE.md, "Elaborated designs").
use Rattle.std.specs.Prelude.{◌≡◌, ◌≤◌, ℕ, ◌^◌, Bool, true, false, ◌&&◌, ◌||◌, ◌==◌, not, List, [], ◌∷◌, length, Option, Some, None, slice_get, if◌then◌else◌, nat_lt, nat_le, is_some, is_none}
use Rattle.std.specs.List.{list_any, list_all, filter_map, sum_by, range_with_len}
use Rattle.std.specs.Bool.{beq}
use Rattle.vf_fours.specs.Numbers.{i64_of}
use Rattle.vf_elaborated.specs.declared.design.Signal.{Signal}
use Rattle.vf_elaborated.specs.declared.design.Process.{Process}
use Rattle.vf_elaborated.specs.declared.design.Show.{Show}
use Rattle.vf_elaborated.specs.declared.design.Piece.{Piece}
use Rattle.vf_elaborated.specs.declared.design.Piece.TheVariants.{Plain, Value}
use Rattle.vf_elaborated.specs.declared.code.Instr.{Instr}
use Rattle.vf_elaborated.specs.declared.code.Instr.TheVariants.{Set, Getc, Post, Drive, Count, Jump, Unless, Match, Delay, Await, Until, Show as Shows, Watch, Save, IncSave, Finish, Stop, Halt}
use Rattle.vf_elaborated.specs.declared.code.Target.{Target}
use Rattle.vf_elaborated.specs.declared.code.TargetPiece.{TargetPiece}
use Rattle.vf_elaborated.specs.declared.code.Event.{Event}
use Rattle.vf_elaborated.specs.declared.expr.Expr.{Expr, out-Expr}
use Rattle.vf_elaborated.specs.declared.expr.Expr.TheOpen.{Expr-F}
use Rattle.vf_elaborated.specs.Elaborated.{Elaborated}
use Rattle.vf_elaborated.specs.Shapes.{Shape, shape_of, is_width, is_scale, is_one_element}

-- ---- the limits

abbrev pub MOST_PROCESSES : ℕ
MOST_PROCESSES = 4096

abbrev pub MOST_SIGNALS : ℕ
MOST_SIGNALS = 8192

-- the elements of all memories together
abbrev pub MOST_ELEMENTS : ℕ
MOST_ELEMENTS = 2 ^ 18

-- the instructions of a process
abbrev pub MOST_CODE : ℕ
MOST_CODE = 65536

abbrev pub MOST_SLOTS : ℕ
MOST_SLOTS = 16384

-- ---- signals

abbrev pub is_signal : Signal → Bool
is_signal signal = is_width signal.width && (nat_le 1 signal.elements && (signal.memory || signal.elements == 1))

abbrev pub memory_elements : Signal → ℕ
memory_elements signal = if signal.memory then signal.elements else 0

-- ---- expressions and targets

abbrev pub is_expr : List Signal → Expr → Bool
is_expr signals e = is_some (shape_of signals e)

abbrev pub is_optional_expr : List Signal → Option Expr → Bool
is_optional_expr signals None = true
is_optional_expr signals (Some e) = is_expr signals e

-- a piece without an index is as wide as its signal
abbrev pub is_piece_of : TargetPiece → Option Signal → Bool
is_piece_of piece None = false
is_piece_of piece (Some signal) =
    is_one_element signal (is_some piece.element) && (is_some piece.low || piece.width == signal.width)

abbrev pub is_piece : List Signal → TargetPiece → Bool
is_piece signals piece =
    is_piece_of piece (slice_get signals piece.sig.0) && (is_width piece.width && (is_scale piece.scale
    && (is_optional_expr signals piece.element && is_optional_expr signals piece.low)))

-- the bits of all pieces together
abbrev pub target_width : Target → ℕ
target_width target = sum_by (λ (piece : TargetPiece). piece.width) target.0

abbrev pub is_target : List Signal → Target → Bool
is_target signals target = list_all (is_piece signals) target.0 && is_width (target_width target)

abbrev pub has_width : Option Shape → ℕ → Bool
has_width None width = false
has_width (Some shape) width = shape.width == width

-- a value that is assigned has just the bits of the target
abbrev pub is_assignment : List Signal → Target → Expr → Bool
is_assignment signals target e = is_target signals target && has_width (shape_of signals e) (target_width target)

-- ---- continuous assignments

-- a constant index
abbrev pub is_constant_at : Expr-F Expr → Bool
is_constant_at (Expr-F.Const a) = is_some (i64_of a)
is_constant_at _ = false

abbrev pub is_net : Option Signal → Bool
is_net None = false
is_net (Some signal) = signal.net

abbrev pub is_constant_or_none : Option Expr → Bool
is_constant_or_none None = true
is_constant_or_none (Some e) = is_constant_at (out-Expr e)

-- a net, or constant bits of one (6.1)
abbrev pub is_driven : List Signal → TargetPiece → Bool
is_driven signals piece =
    is_net (slice_get signals piece.sig.0) && (is_none piece.element && is_constant_or_none piece.low)

-- ---- instructions

-- a bit of an event lies inside its signal, which is then no memory
abbrev pub is_event_of : Event → Option Signal → Bool
is_event_of event None = false
is_event_of event (Some signal) = is_bit event.bit
  where
    is_bit : Option ℕ → Bool
    is_bit None = true
    is_bit (Some bit) = nat_lt bit signal.width && not signal.memory

abbrev pub is_event : List Signal → Event → Bool
is_event signals event = is_event_of event (slice_get signals event.sig.0)

-- the hidden counter of a `repeat` has one element of 64 bits
abbrev pub is_counter : Option Signal → Bool
is_counter None = false
is_counter (Some signal) = signal.elements == 1 && signal.width == 64

-- the expressions of a case are as wide as its value
abbrev pub has_same_width : List Signal → Option Shape → List Expr → Bool
has_same_width signals None list = false
has_same_width signals (Some shape) list = list_all (λ e. has_width (shape_of signals e) shape.width) list

-- an instruction of a code of so many instructions names what is there
abbrev pub is_instr : Elaborated → ℕ → Instr → Bool
is_instr d code (Set target e) = is_assignment d.signals target e
is_instr d code (Getc target e) = is_target d.signals target && is_expr d.signals e
is_instr d code (Post target e delay) = is_assignment d.signals target e && is_optional_expr d.signals delay
is_instr d code (Drive target e) = is_assignment d.signals target e && list_all (is_driven d.signals) target.0
is_instr d code (Count sig e) = is_counter (slice_get d.signals sig.0) && is_expr d.signals e
is_instr d code (Jump to) = nat_lt to code
is_instr d code (Unless e to) = is_expr d.signals e && nat_lt to code
is_instr d code (Match kind e list next) = has_same_width d.signals (shape_of d.signals e) list && nat_lt next code
is_instr d code (Delay e) = is_expr d.signals e
is_instr d code (Await events) = list_all (is_event d.signals) events
is_instr d code (Until e) = is_expr d.signals e
is_instr d code (Shows kind show) = nat_lt show (length d.shows)
is_instr d code (Watch show) = nat_lt show (length d.shows)
is_instr d code Save = true
is_instr d code IncSave = true
is_instr d code (Finish n) = true
is_instr d code (Stop n) = true
is_instr d code Halt = true

abbrev pub is_drive : Instr → Bool
is_drive (Drive target e) = true
is_drive _ = false

-- no instruction follows it
abbrev pub ends_code : Instr → Bool
ends_code Halt = true
ends_code (Jump to) = true
ends_code (Drive target e) = true
ends_code _ = false

-- a code ends with an instruction that no other follows, and a continuous assignment is a code of one instruction
abbrev pub is_ended : List Instr → Bool
is_ended [] = false
is_ended (instr ∷ []) = ends_code instr
is_ended (instr ∷ next ∷ rest) = not (is_drive instr) && (is_ended (next ∷ rest) && not (list_any is_drive (next ∷ rest)))

abbrev pub is_code : Elaborated → List Instr → Bool
is_code d code = nat_le (length code) MOST_CODE && (is_ended code && list_all (is_instr d (length code)) code)

-- a process has a driver just where it is a continuous assignment
abbrev pub is_process : Elaborated → Process → Bool
is_process d process = is_code d process.code && beq (is_some process.driver) (list_any is_drive process.code)

-- ---- shows

abbrev pub is_part : List Signal → Piece → Bool
is_part signals (Plain text) = true
is_part signals (Value form least e) = is_expr signals e

abbrev pub is_show : List Signal → Show → Bool
is_show signals show = list_all (is_part signals) show.pieces

-- ---- designs

pub record IsWellFormed (d : Elaborated) : Type 0 where
  pub signals : list_all is_signal d.signals ≡ true
  pub processes : list_all (is_process d) d.processes ≡ true
  pub shows : list_all (is_show d.signals) d.shows ≡ true
  -- the drivers are numbered from 0 in the order of the processes
  pub drivers : filter_map (λ (process : Process). process.driver) d.processes ≡ range_with_len 0 d.drivers
  pub slots : (1 ≤ d.slots) × (d.slots ≤ MOST_SLOTS)
  pub few_signals : length d.signals ≤ MOST_SIGNALS
  pub few_processes : length d.processes ≤ MOST_PROCESSES
  pub few_elements : sum_by memory_elements d.signals ≤ MOST_ELEMENTS
