use Rattle.std.proofs.Common.{◌≡◌, drop}
use Rattle.std.specs.List.{list_any}
use Rattle.vf_elaborated.specs.Tables.{is_piece_on}
use Rattle.vf_elaborated.specs.Noting.{noted}
use Rattle.vf_elaborated.proofs.tables.note_pieces.Given as goal

-- the pieces that are left are noted in the lists so far
abbrev pub invariant-loop-piece : goal.invariant-loop-piece
invariant-loop-piece l =
    noted l.number (λ n. list_any (is_piece_on n) (drop l.piece-index l.pieces)) l.lists ≡ noted l.number (λ n. list_any (is_piece_on n) l.pieces) l.fn.lists
