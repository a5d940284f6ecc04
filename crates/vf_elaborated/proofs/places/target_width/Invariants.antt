use Rattle.std.proofs.Common.{◌≡◌, ◌+◌, drop, sum_by}
use Rattle.vf_elaborated.specs.declared.code.TargetPiece.{TargetPiece}
use Rattle.vf_elaborated.specs.WellFormed.{target_width}
use Rattle.vf_elaborated.proofs.places.target_width.Given as goal

-- the bits so far, and those of the pieces that are left
abbrev pub invariant-loop-piece : goal.invariant-loop-piece
invariant-loop-piece l = l.width + sum_by (λ (piece : TargetPiece). piece.width) (drop l.piece-index l.target.0) ≡ target_width l.target
