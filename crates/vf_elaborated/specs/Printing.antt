-- What a task prints (docs/LANGUAGE.md, "Printed values"; IEEE Std 1364-2005, 17.1).
use Rattle.std.specs.Prelude.{ℕ, List, [], ◌∷◌, ◌++◌, Option, Some, None, if◌then◌else◌}
use Rattle.std.specs.List.{flat_map}
use Rattle.vf_format.specs.Printed.{printed}
use Rattle.vf_elaborated.specs.declared.design.Signal.{Signal}
use Rattle.vf_elaborated.specs.declared.design.Show.{Show}
use Rattle.vf_elaborated.specs.declared.design.Piece.{Piece}
use Rattle.vf_elaborated.specs.declared.design.Piece.TheVariants.{Plain, Value}
use Rattle.vf_elaborated.specs.Values.{Scene, worth_of}

abbrev pub piece_text : List Signal → Scene → Piece → List ℕ
piece_text signals scene (Plain text) = text
piece_text signals scene (Value form least e) = printed form least (worth_of signals e scene)

-- the text of a show, and a newline where one follows
abbrev pub text_of : List Signal → Scene → Option Show → List ℕ
text_of signals scene None = []
text_of signals scene (Some show) = flat_map (piece_text signals scene) show.pieces ++ (if show.line then 10 ∷ [] else [])
