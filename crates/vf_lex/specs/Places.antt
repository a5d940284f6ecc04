-- Places in a text, and nested uses of macros (docs/LANGUAGE.md, "Text and tokens").
use Rattle.std.specs.Prelude.{ℕ, ◌+◌, ◌-◌, ◌==◌, if◌then◌else◌, List, [], ◌∷◌, length, take}
use Rattle.vf_base.specs.declared.names.Place.{Place}
use Rattle.vf_lex.specs.declared.spot.Spot.{Spot}

-- the place after a byte: only a newline ends a line, and a column counts bytes
abbrev pub place_after : Place → ℕ → Place
place_after place byte =
    if byte == 10 then record { line = place.line + 1; column = 1 }
    else record { line = place.line; column = place.column + 1 }

-- the place after bytes
unfoldable pub moved_place : Place → List ℕ → Place
moved_place place [] = place
moved_place place (byte ∷ more) = moved_place (place_after place byte) more

-- After bytes of the design's own text the place has moved. In the text of a macro it is that of the use, and stands still.
unfoldable pub moved : Spot → List ℕ → Spot
moved spot bytes = if spot.depth == 0 then record { place = moved_place spot.place bytes; depth = 0 } else spot

-- in the text of a macro that is used here
abbrev pub nested : Spot → Spot
nested spot = record { place = spot.place; depth = spot.depth + 1 }

-- the bytes of a text before a rest of it
abbrev pub before : List ℕ → List ℕ → List ℕ
before text rest = take (length text - length rest) text
