-- Names after directives (docs/LANGUAGE.md, "Text and tokens"; IEEE Std 1364-2005, clause 3.7).
use Rattle.std.specs.Prelude.{ℕ, Bool, ◌&&◌, if◌then◌else◌, List, [], ◌∷◌, length, drop}
use Rattle.vf_lexeme.specs.Bytes.{is_blank, is_no_newline, begins_name, is_name_byte}
use Rattle.vf_number.specs.Runs.{run, after_run}
use Rattle.vf_lex.specs.declared.names.Class.{Class}
use Rattle.vf_lex.specs.declared.names.Class.TheVariants.{Blank, LineBlank}

-- the plain name at the front; empty where none begins the bytes
unfoldable pub name_of : List ℕ → List ℕ
name_of [] = []
name_of (first ∷ more) = if begins_name first then first ∷ run is_name_byte more else []

abbrev pub after_name : List ℕ → List ℕ
after_name bytes = drop (length (name_of bytes)) bytes

-- after the blanks
abbrev pub after_blanks : List ℕ → List ℕ
after_blanks bytes = after_run is_blank bytes

abbrev pub is_line_blank : ℕ → Bool
is_line_blank byte = is_blank byte && is_no_newline byte

-- after the blanks that stand on this line
abbrev pub after_line_blanks : List ℕ → List ℕ
after_line_blanks bytes = after_run is_line_blank bytes

-- the bytes of the code's classes
abbrev pub in_class : Class → ℕ → Bool
in_class Blank byte = is_blank byte
in_class LineBlank byte = is_line_blank byte
