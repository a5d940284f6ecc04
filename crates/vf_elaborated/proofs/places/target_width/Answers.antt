use Rattle.std.proofs.Common.{◌≡◌, ◌<◌, ◌+◌, suc, length, drop, slice_index_or, sum_by, ◌∙◌, ap, subst, arith}
use Rattle.vf_elaborated.specs.declared.code.TargetPiece.{TargetPiece}
use Rattle.vf_elaborated.proofs.Sums.{sum_left}
use Rattle.vf_elaborated.proofs.places.target_width.Goals as goal

-- the next piece, and what is left after it
module _ (c : goal.After-piece-item) where
  left : sum_by (λ (piece : TargetPiece). piece.width) (drop c.loop-piece.piece-index c.args.target.now.0)
      ≡ c.piece-item.result.width + sum_by (λ (piece : TargetPiece). piece.width) (drop (suc c.loop-piece.piece-index) c.args.target.now.0)
  left =
      let same = c.as_slice-piece-items.ensures in
      sum_left (λ (piece : TargetPiece). piece.width) c.args.target.now.0 c.loop-piece.piece-index c.piece-item.result
      (subst (λ xs. c.loop-piece.piece-index < length xs) same c.loop-piece-test.true)
      (c.piece-item.is ∙ ap (λ xs. slice_index_or xs c.loop-piece.piece-index c.piece-item.result) same)

pub overflow_add-width : goal.overflow_add-width
overflow_add-width c = omega (arith, left c, c.loop-piece.invariant, c.requires)
