-- The laws of elaborated designs. Each is the contract of a function of `laws`.
use Rattle.std.specs.Prelude.{◌≡◌, ℕ, Bool, List, Option, Some}
use Rattle.std.specs.List.{AllZip}
use Rattle.vf_elaborated.specs.declared.design.Signal.{Signal}
use Rattle.vf_elaborated.specs.declared.expr.Expr.{Expr, out-Expr}
use Rattle.vf_elaborated.specs.declared.expr.Expr.TheFolds.{map-Expr}
use Rattle.vf_elaborated.specs.Values.{Scene, Worth, worth_of, node_worth, reads_signal, node_reads}
use Rattle.vf_elaborated.specs.Shapes.{Shape, HasShape, FitsSignal, shape_of, node_shape}

-- what an expression is worth, which signals it reads, and its shape follow from its node, by those of the parts
pub record NodesTell : Type 0 where
  pub worth : (signals : List Signal) (e : Expr) → worth_of signals e ≡ node_worth signals (map-Expr Expr Worth (worth_of signals) (out-Expr e))
  pub reads : (sig : ℕ) (e : Expr) → reads_signal sig e ≡ node_reads sig (map-Expr Expr Bool (reads_signal sig) (out-Expr e))
  pub shape : (signals : List Signal) (e : Expr) → shape_of signals e ≡ node_shape signals (map-Expr Expr (Option Shape) (shape_of signals) (out-Expr e))

-- where each signal's elements have its bits, what an expression is worth has the width and mark of the expression
abbrev pub ValuesHaveTheirShapes : Type 0
ValuesHaveTheirShapes =
    (signals : List Signal) (scene : Scene) (e : Expr) (s : Shape) → AllZip FitsSignal signals scene.values → shape_of signals e ≡ Some s → HasShape (worth_of signals e scene) s
