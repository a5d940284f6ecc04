-- What the code does, as functions on lists. The definitions of lexemes do not rest on them: the proofs show that they read exactly
-- what those say.
use Rattle.std.specs.Prelude.{◌≡◌, ℕ, zero, suc, ◌+◌, Bool, true, false, not, ◌==◌, ◌||◌, ◌&&◌, nat_le, List, [], ◌∷◌, length, take, drop, Option, Some, None, Result, Ok, Err, if◌then◌else◌}
use Rattle.std.specs.Option.{option_map}
use Rattle.vf_number.specs.Numbers.{Read, begins_number}
use Rattle.vf_number.specs.Runs.{run, after_run, begins_with}
use Rattle.vf_number.specs.Reading.{number_at}
use Rattle.vf_lexeme.specs.declared.classes.Class.{Class}
use Rattle.vf_lexeme.specs.declared.classes.Class.TheVariants.{NoBlank, Line, Name}
use Rattle.vf_lexeme.specs.declared.kinds.TokenKind.{TokenKind}
use Rattle.vf_lexeme.specs.declared.kinds.TokenKind.TheVariants as kinds
use Rattle.vf_lexeme.specs.declared.kinds.Lexeme.TheVariants as lexemes
use Rattle.vf_lexeme.specs.declared.kinds.LexemeFault.{LexemeFault}
use Rattle.vf_lexeme.specs.declared.kinds.LexemeFault.TheVariants.{BadCharacter, OpenComment, OpenString, BadNumber, TooWide, Memory}
use Rattle.vf_lexeme.specs.declared.kinds.Passed.TheVariants as passed
use Rattle.vf_lexeme.specs.declared.kinds.OpenFault.TheVariants as open_faults
use Rattle.vf_lexeme.specs.Bytes.{is_blank, is_no_blank, is_no_newline, is_name_byte, begins_name}
use Rattle.vf_lexeme.specs.Words.{is_reserved}
use Rattle.vf_lexeme.specs.Strings.{is_octal, octal_byte}
use Rattle.vf_lexeme.specs.Signs.{is_sign}
use Rattle.vf_lexeme.specs.Lexemes.{Seen, SeenPassing, of_number}

-- ---- classes

abbrev pub in_class : Class → ℕ → Bool
in_class NoBlank byte = is_no_blank byte
in_class Line byte = is_no_newline byte
in_class Name byte = is_name_byte byte

-- ---- answers

-- a fault is what reading gives, unless memory ran out
abbrev pub Fails : {Y : Type 0} → LexemeFault → Result Y LexemeFault → Type 0
Fails BadCharacter read = read ≡ Err BadCharacter
Fails OpenComment read = read ≡ Err OpenComment
Fails OpenString read = read ≡ Err OpenString
Fails BadNumber read = read ≡ Err BadNumber
Fails TooWide read = read ≡ Err TooWide
Fails Memory read = Unit {0}

-- what a function returned, seen by view, is what reading gives, unless memory ran out
abbrev pub Gives : {X Y : Type 0} → (X → Y) → Result X LexemeFault → Result Y LexemeFault → Type 0
Gives view (Ok x) read = read ≡ Ok (view x)
Gives view (Err e) read = Fails e read

-- ---- comments and attributes

unfoldable pub opens_skip : List ℕ → Bool
opens_skip [] = false
opens_skip (a ∷ []) = false
opens_skip (a ∷ b ∷ rest) =
    if a == 47 then b == 47 || b == 42 else
    if a == 40 && b == 42 then not (begins_with 41 rest) else false

-- the bytes after a `*` and that byte, where they stand in front
unfoldable pub after_close : ℕ → List ℕ → Option (List ℕ)
after_close close [] = None
after_close close (a ∷ []) = None
after_close close (a ∷ b ∷ rest) = if a == 42 && b == close then Some rest else None

-- the first, or the second where there is no first
abbrev pub or_else : Option (List ℕ) → Option (List ℕ) → Option (List ℕ)
or_else (Some rest) other = Some rest
or_else None other = other

-- the bytes after the first `*` with that byte after it
unfoldable pub after_first_close : ℕ → List ℕ → Option (List ℕ)
after_first_close close [] = None
after_first_close close (first ∷ rest) = or_else (after_close close (first ∷ rest)) (after_first_close close rest)

unfoldable pub after_skip : List ℕ → Option (List ℕ)
after_skip [] = None
after_skip (a ∷ []) = None
after_skip (a ∷ b ∷ rest) =
    if b == 47 then Some (after_run is_no_newline rest) else
    if a == 47 then after_first_close 47 rest else after_first_close 41 rest

abbrev pub seen_skip : Option (List ℕ) → Seen
seen_skip (Some rest) = Ok (lexemes.Blank, rest)
seen_skip None = Err OpenComment

unfoldable pub skipped_lexeme : List ℕ → Seen
skipped_lexeme text = seen_skip (after_skip text)

-- ---- names

abbrev pub name_kind : Bool → List ℕ → TokenKind
name_kind true name = kinds.Word name
name_kind false name = kinds.Name name

unfoldable pub name_token : List ℕ → Seen
name_token text =
    let name = run is_name_byte text in
    Ok (lexemes.Token (name_kind (is_reserved name) name), after_run is_name_byte text)

unfoldable pub escaped_name : List ℕ → Seen
escaped_name text = Ok (lexemes.Token (kinds.Name (run is_no_blank text)), after_run is_no_blank text)

unfoldable pub system_name : List ℕ → Seen
system_name text =
    let name = run is_name_byte text in
    if nat_le (length name) 1 then Err BadCharacter else Ok (lexemes.Token (kinds.System name), after_run is_name_byte text)

-- ---- signs

abbrev pub short_length : ℕ → ℕ → ℕ
short_length a b = if is_sign (a ∷ b ∷ []) then 2 else if is_sign (a ∷ []) then 1 else 0

unfoldable pub sign_length : List ℕ → ℕ
sign_length [] = 0
sign_length (a ∷ []) = if is_sign (a ∷ []) then 1 else 0
sign_length (a ∷ b ∷ []) = short_length a b
sign_length (a ∷ b ∷ c ∷ rest) = if is_sign (a ∷ b ∷ c ∷ []) then 3 else short_length a b

unfoldable pub sign_token : List ℕ → Seen
sign_token text =
    let n = sign_length text in
    if n == 0 then Err BadCharacter else Ok (lexemes.Token (kinds.Sign (take n text)), drop n text)

-- ---- strings

-- what stands before the quote that ends a string, and what follows it; the byte before the text may be a `\` that takes the
-- first along
unfoldable pub inside_at : Bool → List ℕ → Option (List ℕ × List ℕ)
inside_at escaped [] = None
inside_at escaped (b ∷ rest) =
    if b == 10 then None else
    if not escaped && b == 34 then Some ([], rest) else
    option_map (λ p. (b ∷ p.0, p.1)) (inside_at (not escaped && b == 92) rest)

-- the byte that octal digits write, and how many stand after the first
unfoldable pub octal_code : ℕ → List ℕ → ℕ × ℕ
octal_code a [] = (octal_byte (a ∷ []), 0)
octal_code a (b ∷ []) = if is_octal b then (octal_byte (a ∷ b ∷ []), 1) else (octal_byte (a ∷ []), 0)
octal_code a (b ∷ c ∷ rest) =
    if not (is_octal b) then (octal_byte (a ∷ []), 0) else
    if is_octal c then (octal_byte (a ∷ b ∷ c ∷ []), 2) else (octal_byte (a ∷ b ∷ []), 1)

-- the same of what stands after a `\`
unfoldable pub escape_code : ℕ → List ℕ → ℕ × ℕ
escape_code first rest =
    if first == 110 then (10, 0) else
    if first == 116 then (9, 0) else
    if is_octal first then octal_code first rest else (first, 0)

-- the same of the text of a string
unfoldable pub piece : ℕ → List ℕ → ℕ × ℕ
piece first [] = (first, 0)
piece first (next ∷ more) = if first == 92 then ((escape_code next more).0, (escape_code next more).1 + 1) else (first, 0)

-- the bytes that a text stands for, of which the first few were read before
unfoldable pub decoded : ℕ → List ℕ → List ℕ
decoded skip [] = []
decoded zero (first ∷ rest) = (piece first rest).0 ∷ decoded (piece first rest).1 rest
decoded (suc skip) (first ∷ rest) = decoded skip rest

abbrev pub seen_string : Option (List ℕ × List ℕ) → Seen
seen_string (Some p) = Ok (lexemes.Token (kinds.Quoted (decoded 0 p.0)), p.1)
seen_string None = Err OpenString

unfoldable pub string_token : List ℕ → Seen
string_token text = seen_string (inside_at false text)

-- ---- numbers

abbrev pub seen_number : Read → Seen
seen_number (Ok r) = Ok (lexemes.Token (kinds.Number r.0), r.1)
seen_number (Err fault) = Err (of_number fault)

unfoldable pub number_token : List ℕ → Seen
number_token text = seen_number (number_at text)

-- ---- all

-- by the first byte, what does not begin with a blank or a name
unfoldable pub other_lexeme : List ℕ → Seen
other_lexeme [] = Err BadCharacter
other_lexeme (first ∷ rest) =
    if begins_number first then number_token (first ∷ rest) else
    if first == 34 then string_token rest else
    if first == 92 then escaped_name rest else
    if first == 36 then system_name (first ∷ rest) else
    if first == 96 then Ok (lexemes.Directive, rest) else sign_token (first ∷ rest)

unfoldable pub lexeme_at : List ℕ → Seen
lexeme_at [] = Err BadCharacter
lexeme_at (first ∷ rest) =
    if is_blank first then Ok (lexemes.Blank, rest) else
    if begins_name first then name_token (first ∷ rest) else
    if opens_skip (first ∷ rest) then skipped_lexeme (first ∷ rest) else other_lexeme (first ∷ rest)

abbrev pub passing_string : Option (List ℕ × List ℕ) → SeenPassing
passing_string (Some p) = Ok (passed.Text, p.1)
passing_string None = Err open_faults.String

unfoldable pub passed_string : List ℕ → SeenPassing
passed_string text = passing_string (inside_at false text)

abbrev pub passing_skip : Option (List ℕ) → SeenPassing
passing_skip (Some rest) = Ok (passed.Text, rest)
passing_skip None = Err open_faults.Comment

unfoldable pub passed_skip : List ℕ → SeenPassing
passed_skip text = passing_skip (after_skip text)

unfoldable pub passed_at : List ℕ → SeenPassing
passed_at [] = Err open_faults.String
passed_at (first ∷ rest) =
    if first == 96 then Ok (passed.Directive, rest) else
    if first == 34 then passed_string rest else
    if first == 92 then Ok (passed.Text, after_run is_no_blank rest) else
    if opens_skip (first ∷ rest) then passed_skip (first ∷ rest) else Ok (passed.Text, rest)
