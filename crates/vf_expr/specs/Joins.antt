-- The parts of a concatenation.
use Rattle.std.specs.Prelude.{◌≡◌, ◌≤◌, ℕ, false, List, map, Some}
use Rattle.vf_fours.specs.Bits.{FourState}
use Rattle.vf_elaborated.specs.declared.design.Signal.{Signal}
use Rattle.vf_elaborated.specs.declared.expr.Expr.{Expr}
use Rattle.vf_elaborated.specs.Values.{Scene, worth_of, joined_bits}
use Rattle.vf_elaborated.specs.Shapes.{shape_of, joined_width, WIDEST}

-- each part has a shape, and together they have 128 bits at most
abbrev pub IsJoin : List Signal → List Expr → Type 0
IsJoin signals parts = (n : ℕ) × (joined_width (map (shape_of signals) parts) ≡ Some n) × (n ≤ WIDEST)

-- what they are worth together
abbrev pub join_of : List Signal → List Expr → Scene → FourState
join_of signals parts scene = record { bits = joined_bits (map (λ e. worth_of signals e scene) parts); signed = false }
