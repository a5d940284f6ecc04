-- Which operator stands for which sign of the language.
use Rattle.std.specs.Prelude.{Bool, true, false}
use Rattle.vf_fours.specs.declared.Fold.TheVariants.{And, Nand, Or, Nor, Xor, Xnor}
use Rattle.vf_fours.specs.declared.UnaryOp.{UnaryOp}
use Rattle.vf_fours.specs.declared.UnaryOp.TheVariants.{Plus, Minus, LogicalNot, BitNot, ReduceAnd, ReduceNand, ReduceOr, ReduceNor, ReduceXor, ReduceXnor}
use Rattle.vf_fours.specs.declared.BinaryOp.{BinaryOp}
use Rattle.vf_fours.specs.declared.BinaryOp.TheVariants.{LogicalOr, LogicalAnd, BitOr, BitXor, BitXnor, BitAnd, Equal, NotEqual, CaseEqual, CaseNotEqual, Less, LessEqual, Greater, GreaterEqual, ShiftLeft, ShiftRight, ArithmeticShiftLeft, ArithmeticShiftRight, Add, Subtract, Multiply, Divide, Remainder}
use Rattle.vf_fours.specs.Bits.{FourState, not_bit, and_bit, or_bit}
use Rattle.vf_fours.specs.Operators.{one_bit, and_of, or_of, xor_of, xnor_of, not_of, plus_of, neg_of, add_of, sub_of, mul_of, div_of, rem_of, shl_of, shr_of, arithmetic_shr_of, eq_of, eqq_of, lt_of, le_of, truth_of, reduce_of}

-- `+ - ! ~ & ~& | ~| ^ ~^`
unfoldable pub unary_of : UnaryOp → FourState → FourState
unary_of Plus a = plus_of a
unary_of Minus a = neg_of a
unary_of LogicalNot a = one_bit (not_bit (truth_of a.bits))
unary_of BitNot a = not_of a
unary_of ReduceAnd a = one_bit (reduce_of And a.bits)
unary_of ReduceNand a = one_bit (reduce_of Nand a.bits)
unary_of ReduceOr a = one_bit (reduce_of Or a.bits)
unary_of ReduceNor a = one_bit (reduce_of Nor a.bits)
unary_of ReduceXor a = one_bit (reduce_of Xor a.bits)
unary_of ReduceXnor a = one_bit (reduce_of Xnor a.bits)

-- `|| && | ^ ~^ & == != === !== < <= > >= << >> <<< >>> + - * / %`
unfoldable pub binary_of : BinaryOp → FourState → FourState → FourState
binary_of LogicalOr a b = one_bit (or_bit (truth_of a.bits) (truth_of b.bits))
binary_of LogicalAnd a b = one_bit (and_bit (truth_of a.bits) (truth_of b.bits))
binary_of BitOr a b = or_of a b
binary_of BitXor a b = xor_of a b
binary_of BitXnor a b = xnor_of a b
binary_of BitAnd a b = and_of a b
binary_of Equal a b = one_bit (eq_of a b)
binary_of NotEqual a b = one_bit (not_bit (eq_of a b))
binary_of CaseEqual a b = one_bit (eqq_of a b)
binary_of CaseNotEqual a b = one_bit (not_bit (eqq_of a b))
binary_of Less a b = one_bit (lt_of a b)
binary_of LessEqual a b = one_bit (le_of a b)
binary_of Greater a b = one_bit (lt_of b a)
binary_of GreaterEqual a b = one_bit (le_of b a)
binary_of ShiftLeft a b = shl_of a b
binary_of ShiftRight a b = shr_of a b
binary_of ArithmeticShiftLeft a b = shl_of a b
binary_of ArithmeticShiftRight a b = arithmetic_shr_of a b
binary_of Add a b = add_of a b
binary_of Subtract a b = sub_of a b
binary_of Multiply a b = mul_of a b
binary_of Divide a b = div_of a b
binary_of Remainder a b = rem_of a b

-- the operator gives one bit, whatever the width of its operands
abbrev pub is_narrow : BinaryOp → Bool
is_narrow LogicalOr = true
is_narrow LogicalAnd = true
is_narrow Equal = true
is_narrow NotEqual = true
is_narrow CaseEqual = true
is_narrow CaseNotEqual = true
is_narrow Less = true
is_narrow LessEqual = true
is_narrow Greater = true
is_narrow GreaterEqual = true
is_narrow op = false

-- the operands of the operator need no common width
abbrev pub is_free : BinaryOp → Bool
is_free LogicalOr = true
is_free LogicalAnd = true
is_free ShiftLeft = true
is_free ShiftRight = true
is_free ArithmeticShiftLeft = true
is_free ArithmeticShiftRight = true
is_free op = false

-- the unary operator keeps the width of its operand
abbrev pub is_wide : UnaryOp → Bool
is_wide Plus = true
is_wide Minus = true
is_wide BitNot = true
is_wide op = false
