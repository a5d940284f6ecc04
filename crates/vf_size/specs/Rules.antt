-- The rules for sizes and signs (docs/LANGUAGE.md, "Sizes and signs"; IEEE Std 1364-2005, clauses 5.4 and 5.5): the width and mark that
-- an operator gives by those of its operands, and those at which each operand is worked out.
use Rattle.std.specs.Prelude.{ℕ, Bool, true, false, ◌&&◌, ◌==◌, max, min, length, if◌then◌else◌, Option, Some, None, ℤ, pos, negsuc}
use Rattle.std.specs.Bool.{beq}
use Rattle.std.specs.Option.{option_and_then}
use Rattle.vf_base.specs.declared.names.Place.{Place}
use Rattle.vf_fours.specs.declared.UnaryOp.{UnaryOp}
use Rattle.vf_fours.specs.declared.BinaryOp.{BinaryOp}
use Rattle.vf_fours.specs.Bits.{FourState}
use Rattle.vf_fours.specs.Numbers.{u128_of, i128_of}
use Rattle.vf_fours.specs.Choices.{is_wide, is_narrow, is_free}
use Rattle.vf_fours.specs.Operators.{resize_of}
use Rattle.vf_tree.specs.declared.expressions.SignCall.{SignCall}
use Rattle.vf_tree.specs.declared.expressions.SignCall.TheVariants as call
use Rattle.vf_elaborated.specs.declared.expr.Expr.{Expr}
use Rattle.vf_elaborated.specs.declared.expr.Expr.TheVariants as expr
use Rattle.vf_elaborated.specs.Shapes.{Shape, is_width}
use Rattle.vf_size.specs.declared.fault.SizeKind.TheVariants.{Width}
use Rattle.vf_size.specs.Faults.{Sized, fails}
use Rattle.std.specs.Prelude.{Ok}

-- one bit, unsigned: what comparisons, reductions and logical operators give
abbrev pub bit : Shape
bit = record { width = 1; signed = false }

-- the width of the larger operand, signed where both are
abbrev pub common : Shape → Shape → Shape
common a b = record { width = max a.width b.width; signed = a.signed && b.signed }

abbrev pub shape_of_value : FourState → Shape
shape_of_value v = record { width = length v.bits; signed = v.signed }

-- ---- operators

-- `+ - ~` have the width and mark of the operand
abbrev pub unary_size : UnaryOp → Shape → Shape
unary_size op a = if is_wide op then a else bit

-- a shift has the width and mark of its left operand
abbrev pub binary_size : BinaryOp → Shape → Shape → Shape
binary_size op a b = if is_narrow op then bit else (if is_free op then a else common a b)

-- What the operator itself gives in a context: an operator of one bit is not touched by its context.
abbrev pub unary_made : UnaryOp → Shape → Shape
unary_made op to = if is_wide op then to else bit

abbrev pub binary_made : BinaryOp → Shape → Shape
binary_made op to = if is_narrow op then bit else to

-- The operand is worked out as the context wants, or by itself.
abbrev pub operand_at : UnaryOp → Shape → Shape → Shape
operand_at op a to = if is_wide op then to else a

-- The left operand: the operands of `&&` and `||` by themselves, those of a comparison at the larger width, others as the context wants.
abbrev pub left_at : BinaryOp → Shape → Shape → Shape → Shape
left_at op a b to = if is_narrow op then (if is_free op then a else common a b) else to

-- the right operand: the amount of a shift is worked out by itself too
abbrev pub right_at : BinaryOp → Shape → Shape → Shape → Shape
right_at op a b to = if is_free op then b else (if is_narrow op then common a b else to)

-- `$signed` and `$unsigned` set the mark
abbrev pub marked_by : SignCall → Shape → Shape
marked_by call.Signed a = record { width = a.width; signed = true }
marked_by call.Unsigned a = record { width = a.width; signed = false }

-- ---- concatenations

-- The bits of several parts together, where 129 stands for any sum above 128.
abbrev pub capped : ℕ → ℕ
capped n = min n 129

abbrev pub joined : Place → ℕ → Sized Shape
joined place n = if is_width n then Ok (record { width = n; signed = false }) else fails Width place

abbrev pub natural : ℤ → Option ℕ
natural (pos n) = Some n
natural (negsuc n) = None

-- the number of a count by its own mark; none where it is unknown or below 1
abbrev pub times : FourState → Option ℕ
times v = option_and_then (λ n. if n == 0 then None else Some (capped n)) (if v.signed then option_and_then natural (i128_of v) else u128_of v)

-- ---- changes of width and mark

-- An operand first takes the mark of its context, and is then extended by it, or cut. Without a change it stays as it is.
abbrev pub with_mark : Shape → Bool → Expr → Expr
with_mark own signed e = if beq own.signed signed then e else expr.Resize e own.width signed

abbrev pub with_width : Shape → Shape → Expr → Expr
with_width own to e = if own.width == to.width then e else expr.Resize e to.width to.signed

abbrev pub fit : Shape → Shape → Expr → Expr
fit own to e = with_width own to (with_mark own to.signed e)

-- what the same is worth
abbrev pub fitted_mark : Shape → Bool → FourState → FourState
fitted_mark own signed v = if beq own.signed signed then v else resize_of v own.width signed

abbrev pub fitted_width : Shape → Shape → FourState → FourState
fitted_width own to v = if own.width == to.width then v else resize_of v to.width to.signed

abbrev pub fitted : Shape → Shape → FourState → FourState
fitted own to v = fitted_width own to (fitted_mark own to.signed v)
