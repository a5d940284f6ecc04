-- The bytes of a text by what they can stand in. (docs/LANGUAGE.md, "Text and tokens"; IEEE Std 1364-2005, clauses 3.1 to 3.3 and
-- 3.7.)
use Rattle.std.specs.Prelude.{◌≢◌, ℕ, Bool, ◌==◌, ◌&&◌, ◌||◌, not, nat_le, List, ◌++◌}
pub use Rattle.vf_number.specs.Bytes.{is_digit, is_blank, Ends}
use Rattle.vf_number.specs.Runs.{after_run}

abbrev pub is_letter : ℕ → Bool
is_letter byte = (nat_le 65 byte && nat_le byte 90) || (nat_le 97 byte && nat_le byte 122)

-- a letter or `_`
abbrev pub begins_name : ℕ → Bool
begins_name byte = is_letter byte || byte == 95

-- a letter, a digit, `_` or `$`
abbrev pub is_name_byte : ℕ → Bool
is_name_byte byte = is_letter byte || is_digit byte || byte == 95 || byte == 36

-- a byte before the blank that ends an escaped name
abbrev pub is_no_blank : ℕ → Bool
is_no_blank byte = not (is_blank byte)

-- a byte before the end of the line
abbrev pub is_no_newline : ℕ → Bool
is_no_newline byte = not (byte == 10)

-- from the end of the line on
abbrev pub after_line : List ℕ → List ℕ
after_line text = after_run is_no_newline text

-- the mark stands nowhere in the text
abbrev pub Lacks : List ℕ → List ℕ → Type 0
Lacks mark text = (front back : List ℕ) → text ≢ front ++ (mark ++ back)
