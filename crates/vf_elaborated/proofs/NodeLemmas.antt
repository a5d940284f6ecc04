-- What is told layer by layer is the fold, so that each node tells it by its parts.
use Rattle.std.proofs.Common.{◌≡◌, ℕ, zero, suc, refl, sym, ◌∙◌, ap}
use Rattle.std.proofs.Math.Path.{fun_ext}
use Rattle.vf_elaborated.specs.declared.expr.Expr.{Expr, out-Expr}
use Rattle.vf_elaborated.specs.declared.expr.Expr.TheOpen.{Expr-F}
use Rattle.vf_elaborated.specs.declared.expr.Expr.TheFolds.{fold-Expr, map-Expr, fold_out-Expr}
use Rattle.vf_elaborated.specs.Nodes.{told_from, told}
use Rattle.vf_elaborated.specs.Values.{node_worth, node_reads}
use Rattle.vf_elaborated.specs.Shapes.{node_shape}
use Rattle.vf_elaborated.specs.Laws.{NodesTell}

pub told_is_fold : {A : Type 0} (n : ℕ) (step : Expr-F A → A) (e : Expr) → told_from n step e ≡ fold-Expr A step e
unfolding told_from
told_is_fold zero step e = refl
told_is_fold {A} (suc n) step e =
    ap (λ f. step (map-Expr Expr A f (out-Expr e))) (fun_ext (told_is_fold n step)) ∙ sym (fold_out-Expr A step e)

pub told_by_node : {A : Type 0} (step : Expr-F A → A) (e : Expr) → told step e ≡ step (map-Expr Expr A (told step) (out-Expr e))
told_by_node {A} step e =
    told_is_fold 8 step e ∙ (fold_out-Expr A step e ∙ sym (ap (λ f. step (map-Expr Expr A f (out-Expr e))) (fun_ext (told_is_fold 8 step))))

pub nodes_tell : NodesTell
nodes_tell = record {
  worth = λ signals. told_by_node (node_worth signals);
  reads = λ sig. told_by_node (node_reads sig);
  shape = λ signals. told_by_node (node_shape signals);
}
