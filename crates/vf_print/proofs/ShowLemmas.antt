-- The text of a show by that of its pieces.
use Rattle.std.proofs.Common.{◌≡◌, ℕ, ◌≤◌, List, [], ◌∷◌, ◌++◌, length, drop, Option, Some, cond, sym, ◌∙◌, ap}
use Rattle.std.specs.List.{flat_map}
use Rattle.std.proofs.lemmas.List.{append_assoc, append-nil, drop_all}
use Rattle.vf_elaborated.specs.declared.design.Signal.{Signal}
use Rattle.vf_elaborated.specs.declared.design.Show.{Show}
use Rattle.vf_elaborated.specs.Values.{Scene}
use Rattle.vf_elaborated.specs.Printing.{piece_text, text_of}

-- all pieces are printed; then a newline where the show has one
pub all_printed : (signals : List Signal) (scene : Scene) (o : Option Show) (show : Show) (k : ℕ) (into old : List ℕ) → o ≡ Some show → length show.pieces ≤ k
    → into ++ flat_map (piece_text signals scene) (drop k show.pieces) ≡ old ++ flat_map (piece_text signals scene) show.pieces
    → into ++ cond show.line (10 ∷ []) [] ≡ old ++ text_of signals scene o
all_printed signals scene o show k into old is past kept =
    let text = flat_map (piece_text signals scene) in
    ap (λ bytes. bytes ++ cond show.line (10 ∷ []) [])
    (sym (append-nil into) ∙ ap (λ rest. into ++ text rest) (sym (drop_all k show.pieces past)) ∙ kept)
    ∙ append_assoc old (text show.pieces) (cond show.line (10 ∷ []) [])
    ∙ ap (λ o. old ++ text_of signals scene o) (sym is)
