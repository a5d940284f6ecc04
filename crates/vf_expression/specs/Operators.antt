-- The operators by their signs, and how tight they bind (docs/LANGUAGE.md, "Grammar"; IEEE Std 1364-2005, clause 5.1 and
-- table 5-4).
use Rattle.std.specs.Prelude.{ℕ, List, Option, Some, None, codes, if◌then◌else◌}
use Rattle.std.specs.Str.{bytes_eq}
use Rattle.vf_fours.specs.declared.UnaryOp.{UnaryOp}
use Rattle.vf_fours.specs.declared.UnaryOp.TheVariants as unary
use Rattle.vf_fours.specs.declared.BinaryOp.{BinaryOp}
use Rattle.vf_fours.specs.declared.BinaryOp.TheVariants as binary

-- the unary operator of a sign
unfoldable pub unary_of : List ℕ → Option UnaryOp
unary_of sign = if bytes_eq sign (codes "+") then Some unary.Plus else if bytes_eq sign (codes "-") then Some unary.Minus
    else if bytes_eq sign (codes "!") then Some unary.LogicalNot else if bytes_eq sign (codes "~") then Some unary.BitNot
    else if bytes_eq sign (codes "&") then Some unary.ReduceAnd else if bytes_eq sign (codes "~&") then Some unary.ReduceNand
    else if bytes_eq sign (codes "|") then Some unary.ReduceOr else if bytes_eq sign (codes "~|") then Some unary.ReduceNor
    else if bytes_eq sign (codes "^") then Some unary.ReduceXor else if bytes_eq sign (codes "~^") then Some unary.ReduceXnor
    else if bytes_eq sign (codes "^~") then Some unary.ReduceXnor else None

-- the binary operator of a sign
unfoldable pub binary_of : List ℕ → Option BinaryOp
binary_of sign = if bytes_eq sign (codes "||") then Some binary.LogicalOr else if bytes_eq sign (codes "&&") then Some binary.LogicalAnd
    else if bytes_eq sign (codes "|") then Some binary.BitOr else if bytes_eq sign (codes "^") then Some binary.BitXor
    else if bytes_eq sign (codes "~^") then Some binary.BitXnor else if bytes_eq sign (codes "^~") then Some binary.BitXnor
    else if bytes_eq sign (codes "&") then Some binary.BitAnd else if bytes_eq sign (codes "==") then Some binary.Equal
    else if bytes_eq sign (codes "!=") then Some binary.NotEqual else if bytes_eq sign (codes "===") then Some binary.CaseEqual
    else if bytes_eq sign (codes "!==") then Some binary.CaseNotEqual else if bytes_eq sign (codes "<") then Some binary.Less
    else if bytes_eq sign (codes "<=") then Some binary.LessEqual else if bytes_eq sign (codes ">") then Some binary.Greater
    else if bytes_eq sign (codes ">=") then Some binary.GreaterEqual else if bytes_eq sign (codes "<<") then Some binary.ShiftLeft
    else if bytes_eq sign (codes ">>") then Some binary.ShiftRight else if bytes_eq sign (codes "<<<") then Some binary.ArithmeticShiftLeft
    else if bytes_eq sign (codes ">>>") then Some binary.ArithmeticShiftRight else if bytes_eq sign (codes "+") then Some binary.Add
    else if bytes_eq sign (codes "-") then Some binary.Subtract else if bytes_eq sign (codes "*") then Some binary.Multiply
    else if bytes_eq sign (codes "/") then Some binary.Divide else if bytes_eq sign (codes "%") then Some binary.Remainder else None

-- How tight an operator binds, from 2. The conditional operator has level 1, and operands with their unary operators have
-- level 12.
abbrev pub level_of : BinaryOp → ℕ
level_of binary.LogicalOr = 2
level_of binary.LogicalAnd = 3
level_of binary.BitOr = 4
level_of binary.BitXor = 5
level_of binary.BitXnor = 5
level_of binary.BitAnd = 6
level_of binary.Equal = 7
level_of binary.NotEqual = 7
level_of binary.CaseEqual = 7
level_of binary.CaseNotEqual = 7
level_of binary.Less = 8
level_of binary.LessEqual = 8
level_of binary.Greater = 8
level_of binary.GreaterEqual = 8
level_of binary.ShiftLeft = 9
level_of binary.ShiftRight = 9
level_of binary.ArithmeticShiftLeft = 9
level_of binary.ArithmeticShiftRight = 9
level_of binary.Add = 10
level_of binary.Subtract = 10
level_of binary.Multiply = 11
level_of binary.Divide = 11
level_of binary.Remainder = 11
