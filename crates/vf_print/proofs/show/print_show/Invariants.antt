use Rattle.std.proofs.Common.{◌≡◌, ◌++◌, drop, true}
use Rattle.std.specs.List.{flat_map, list_all}
use Rattle.vf_elaborated.specs.Layout.{scene_at}
use Rattle.vf_elaborated.specs.Printing.{piece_text}
use Rattle.vf_elaborated.specs.WellFormed.{is_part}
use Rattle.vf_print.proofs.show.print_show.Given as goal

-- the text so far and that of the pieces that are left; each of these is well formed
abbrev pub invariant-loop-piece : goal.invariant-loop-piece
invariant-loop-piece g l =
    let rest = drop l.piece-index l.piece-items in
    let text = flat_map (piece_text l.design.signals (scene_at l.design (g.W.Words.past_end l.words) (g.W.Words.contents l.words))) in
    (l.into ++ text rest ≡ l.initial.into ++ text l.piece-items) × (list_all (is_part l.design.signals) rest ≡ true)
