use Rattle.std.proofs.Common.{rules, sym, ◌∙◌}
use Rattle.vf_elaborated.specs.Tables.{is_piece_on}
use Rattle.vf_elaborated.proofs.NoteLemmas.{next_noted, all_are_noted}
use Rattle.vf_elaborated.proofs.tables.note_pieces.Goals as goal

pub loop-piece-preserved : goal.loop-piece-preserved
loop-piece-preserved c =
    next_noted c.args.number is_piece_on c.args.pieces.now c.loop-piece.piece-index c.loop-piece.lists _ c.note_piece.new.lists c.loop-piece-test.true (search rules)
    c.in_ok-note_piece.ensures
    ∙ c.loop-piece.invariant

pub returns : goal.returns
returns c =
    sym (all_are_noted c.args.number is_piece_on c.args.pieces.now c.loop-piece.piece-index c.loop-piece.lists c.loop-piece-test.false) ∙ c.loop-piece.invariant
