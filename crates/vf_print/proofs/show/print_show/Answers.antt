use Rattle.std.proofs.Common.{◌≡◌, ◌≤◌, ◌++◌, ◌∷◌, [], length, drop, cond, refl, sym, ◌∙◌, ap, subst}
use Rattle.std.specs.Prelude.{slice_index_or}
use Rattle.std.specs.List.{flat_map}
use Rattle.std.proofs.lemmas.List.{append-nil}
use Rattle.std.proofs.lemmas.Option.{slice_get_read}
use Rattle.vf_elaborated.specs.Elaborated.{Elaborated}
use Rattle.vf_elaborated.specs.Layout.{scene_at}
use Rattle.vf_elaborated.specs.Printing.{piece_text}
use Rattle.vf_print.proofs.ShowLemmas.{all_printed}
use Rattle.vf_print.proofs.show.print_show.Goals as goal

pub returns-in_ok-push_all : goal.returns-in_ok-push_all
returns-in_ok-push_all g c =
    let show = c.index-as_slice-show.result in
    let scene = scene_at c.args.design.now (g.W.Words.past_end c.args.words.now) (g.W.Words.contents c.args.words.now) in
    let text = flat_map (piece_text c.args.design.now.signals scene) in
    let shows = c.as_slice.ensures ∙ ap (λ (d : Elaborated). d.shows) c.design.view_is in
    let there = slice_get_read c.args.design.now.shows (length c.args.design.now.shows) c.args.show show refl c.requires.show
    (c.index-as_slice-show.is ∙ ap (λ xs. slice_index_or xs c.args.show show) shows) in
    let pieces = c.as_slice-piece-items.ensures in
    let past = subst (λ items. length items ≤ c.loop-piece.piece-index) pieces c.loop-piece-test.false in
    let kept = subst (λ items. c.loop-piece.into ++ text (drop c.loop-piece.piece-index items) ≡ c.args.into.now ++ text items) pieces c.loop-piece.invariant.0 in
    c.in_ok-push_all.ensures.ok ∙ ap (λ line. c.loop-piece.into ++ cond line (10 ∷ []) []) (sym c.if-show.true)
    ∙ all_printed c.args.design.now.signals scene _ show c.loop-piece.piece-index c.loop-piece.into c.args.into.now there past kept

pub returns-else-show : goal.returns-else-show
returns-else-show g c =
    let show = c.index-as_slice-show.result in
    let scene = scene_at c.args.design.now (g.W.Words.past_end c.args.words.now) (g.W.Words.contents c.args.words.now) in
    let text = flat_map (piece_text c.args.design.now.signals scene) in
    let shows = c.as_slice.ensures ∙ ap (λ (d : Elaborated). d.shows) c.design.view_is in
    let there = slice_get_read c.args.design.now.shows (length c.args.design.now.shows) c.args.show show refl c.requires.show
    (c.index-as_slice-show.is ∙ ap (λ xs. slice_index_or xs c.args.show show) shows) in
    let pieces = c.as_slice-piece-items.ensures in
    let past = subst (λ items. length items ≤ c.loop-piece.piece-index) pieces c.loop-piece-test.false in
    let kept = subst (λ items. c.loop-piece.into ++ text (drop c.loop-piece.piece-index items) ≡ c.args.into.now ++ text items) pieces c.loop-piece.invariant.0 in
    sym (append-nil c.loop-piece.into) ∙ ap (λ line. c.loop-piece.into ++ cond line (10 ∷ []) []) (sym c.if-show.false)
    ∙ all_printed c.args.design.now.signals scene _ show c.loop-piece.piece-index c.loop-piece.into c.args.into.now there past kept
