-- The bytes of a text by what they can stand in, and what is after a part of it. (docs/LANGUAGE.md, "Text and tokens"; IEEE Std
-- 1364-2005, clauses 3.2 and 3.5.)
use Rattle.std.specs.Prelude.{◌≡◌, ℕ, ◌<◌, Bool, false, ◌==◌, ◌&&◌, ◌||◌, nat_le, List, [], ◌∷◌, ◌++◌, length}

abbrev pub is_digit : ℕ → Bool
is_digit byte = nat_le 48 byte && nat_le byte 57

-- space, tab, newline, form feed and carriage return
abbrev pub is_blank : ℕ → Bool
is_blank byte = byte == 32 || byte == 9 || byte == 10 || byte == 12 || byte == 13

-- what follows does not begin with a byte of the class, so that a run of such bytes ends there
abbrev pub Ends : (ℕ → Bool) → List ℕ → Type 0
Ends class [] = Unit {0}
Ends class (byte ∷ rest) = class byte ≡ false

-- the text is a front of one byte or more, and the rest
abbrev pub IsRest : List ℕ → List ℕ → Type 0
IsRest text rest = (front : List ℕ) × (text ≡ front ++ rest) × (0 < length front)
