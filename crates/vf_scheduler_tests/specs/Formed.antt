-- The designs are well formed, and some that are nearly so are not.
use Rattle.std.specs.Prelude.{◌≡◌, true, false, [], ◌∷◌, map, pos, Some}
use Rattle.vf_fours.specs.declared.UnaryOp.TheVariants as unary
use Rattle.vf_fours.specs.declared.BinaryOp.TheVariants as binary
use Rattle.vf_elaborated.specs.declared.code.Edge.TheVariants.{Any}
use Rattle.vf_elaborated.specs.declared.code.Instr.TheVariants.{Set, Drive, Count, Jump, Unless, Match, Await, Show, Halt}
use Rattle.vf_elaborated.specs.declared.code.MatchKind.TheVariants as match
use Rattle.vf_elaborated.specs.declared.code.ShowKind.TheVariants as kind
use Rattle.vf_elaborated.specs.declared.expr.Expr.TheVariants.{Select, One, Two, Pick, Join, Resize}
use Rattle.vf_elaborated.specs.WellFormed.{IsWellFormed, is_instr, is_process, is_expr, is_signal}
use Rattle.vf_scheduler_tests.specs.Writing.{variable, number, read, whole, element_piece, part_piece, to, event, process}
use Rattle.vf_scheduler_tests.specs.Swap.{swap}
use Rattle.vf_scheduler_tests.specs.Mon.{mon}
use Rattle.vf_scheduler_tests.specs.Res.{res}
use Rattle.vf_scheduler_tests.specs.Flood.{flood}
use Rattle.vf_scheduler_tests.specs.Bench.{bench}
use Rattle.vf_scheduler_tests.specs.Wide.{wide}
use Rattle.vf_scheduler_tests.specs.Mix.{mix}

pub record AreWellFormed : Type 0 where
  pub is_swap : IsWellFormed swap
  pub is_mon : IsWellFormed mon
  pub is_res : IsWellFormed res
  pub is_flood : IsWellFormed flood
  pub is_bench : IsWellFormed bench
  pub is_wide : IsWellFormed wide
  pub is_mix : IsWellFormed mix

-- Over the signals of `wide`, a memory, 100 signed bits, four bits and two nets of four: widths that a node does not have, operands of two
-- widths, a signal that is not there, a memory as a whole, a scale of 0, arms of two marks, and a join of no bit.
abbrev pub ExpressionsAreNot : Type 0
ExpressionsAreNot =
    map (is_expr wide.signals)
    (One unary.BitNot (read 2) 5 false ∷ One unary.BitNot (read 2) 4 true ∷ One unary.ReduceOr (read 2) 4 false ∷ Two binary.Add (read 2) (read 1) 100 false
    ∷ Two binary.Equal (read 2) (number 5 0) 1 false ∷ Two binary.Equal (read 2) (read 3) 4 false ∷ read 5 ∷ read 0
    ∷ Select (read 2) (number 1 0) (pos 0) (pos 0) 1 ∷ Select (read 2) (number 1 0) (pos 1) (pos 0) 129 ∷ Pick (read 2) (read 1) (number 100 0) 100 true
    ∷ Join [] 0 ∷ Join (read 2 ∷ read 3 ∷ []) 9 ∷ Join (read 1 ∷ read 1 ∷ []) 200 ∷ Resize (read 2) 0 false ∷ [])
    ≡ false ∷ false ∷ false ∷ false ∷ false ∷ false ∷ false ∷ false ∷ false ∷ false ∷ false ∷ false ∷ false ∷ false ∷ false ∷ []

-- In a code of three instructions: values too narrow for their target, a target that is a memory as a whole or has more than 128 bits, a
-- counter that is none, a place outside, an item of another width, a bit of an event outside or of a memory, and a show that is not there.
abbrev pub InstructionsAreNot : Type 0
InstructionsAreNot =
    map (is_instr wide 3)
    (Set (whole 2 4) (number 3 0) ∷ Set (whole 0 8) (number 8 0) ∷ Set (whole 2 3) (number 3 0) ∷ Set (record { 0 = element_piece 1 (number 1 0) 100 ∷ element_piece 1 (number 1 0) 100 ∷ [] }) (number 100 0)
    ∷ Drive (whole 2 4) (number 4 0) ∷ Drive (to (part_piece 3 (read 2) (pos 1) (pos 0) 1)) (number 1 0) ∷ Count (record { 0 = 1 }) (number 4 0)
    ∷ Jump 3 ∷ Unless (read 2) 3 ∷ Match match.Case (read 2) (number 3 0 ∷ []) 0 ∷ Await (event Any 2 (Some 4) ∷ []) ∷ Await (event Any 0 (Some 0) ∷ [])
    ∷ Show kind.Write 1 ∷ [])
    ≡ false ∷ false ∷ false ∷ false ∷ false ∷ false ∷ false ∷ false ∷ false ∷ false ∷ false ∷ false ∷ false ∷ []

-- A code of nothing, one without an end, one with something after its continuous assignment, and one that lacks its driver.
abbrev pub ProcessesAreNot : Type 0
ProcessesAreNot =
    map (is_process wide)
    (process [] ∷ process (Set (whole 2 4) (number 4 0) ∷ []) ∷ record { code = Drive (whole 3 4) (read 2) ∷ Halt ∷ []; driver = Some 0 }
    ∷ process (Drive (whole 3 4) (read 2) ∷ []) ∷ record { code = Halt ∷ []; driver = Some 0 } ∷ [])
    ≡ false ∷ false ∷ false ∷ false ∷ false ∷ []

-- A width of 0 or 129, no element, and two elements of what is no memory.
abbrev pub SignalsAreNot : Type 0
SignalsAreNot =
    map is_signal
    (variable [] 0 false ∷ variable [] 129 false ∷ record (variable [] 1 false) { elements = 0; memory = true } ∷ record (variable [] 1 false) { elements = 2 } ∷ [])
    ≡ false ∷ false ∷ false ∷ false ∷ []

pub record FormedAsSaid : Type 0 where
  pub formed : AreWellFormed
  pub expressions : ExpressionsAreNot
  pub instructions : InstructionsAreNot
  pub processes : ProcessesAreNot
  pub signals : SignalsAreNot
