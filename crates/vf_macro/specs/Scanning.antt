-- What the code does to find the end of a macro's text, as functions on lists. The definition of the text (MacroText) does not rest
-- on them: the proofs show that they find exactly what it says.
use Rattle.std.specs.Prelude.{◌≡◌, ℕ, Bool, not, ◌==◌, ◌&&◌, if◌then◌else◌, List, [], ◌∷◌, drop, Option, None, Some}
use Rattle.vf_number.specs.Runs.{begins_with}
use Rattle.vf_lexeme.specs.Bytes.{is_no_blank, is_no_newline, after_line}
use Rattle.vf_lexeme.specs.Strings.{IsQuoted}
use Rattle.vf_macro.specs.declared.scan.Inside.{Inside}
use Rattle.vf_macro.specs.declared.scan.Inside.TheVariants as insides
use Rattle.vf_macro.specs.declared.scan.Kind.{Kind}
use Rattle.vf_macro.specs.declared.scan.Kind.TheVariants.{End, Quote, Escaped, Line, Comment, Attribute, Other}
use Rattle.vf_macro.specs.declared.scan.Part.{Part}
use Rattle.vf_macro.specs.declared.scan.Part.TheVariants as parts

-- ---- the byte at the front

abbrev pub is_byte : ℕ → ℕ → Bool
is_byte byte first = first == byte

-- what follows the byte at the front, where it is of the class
unfoldable pub after_class : (ℕ → Bool) → List ℕ → Option (List ℕ)
after_class class [] = None
after_class class (first ∷ rest) = if class first then Some rest else None

-- what follows the end of a line at the front
unfoldable pub after_end : List ℕ → Option (List ℕ)
after_end [] = None
after_end (first ∷ rest) =
    if first == 10 then Some rest else if first == 13 then after_class (is_byte 10) rest else None

-- what follows a joint at the front
unfoldable pub after_joint : List ℕ → Option (List ℕ)
after_joint [] = None
after_joint (first ∷ rest) = if first == 92 then after_end rest else None

-- what follows a `*` and that byte at the front
unfoldable pub after_close : ℕ → List ℕ → Option (List ℕ)
after_close close [] = None
after_close close (first ∷ rest) = if first == 42 then after_class (is_byte close) rest else None

-- ---- the inside of a part

-- the first, or the second where there is no first
abbrev pub or_else : Option (List ℕ) → Option (List ℕ) → Option (List ℕ)
or_else (Some rest) other = Some rest
or_else None other = other

-- the second, where there is no first
abbrev pub unless : Option (List ℕ) → Option (List ℕ) → Option (List ℕ)
unless (Some rest) other = None
unless None other = other

-- what follows the byte or joint at the front, where it stands inside
abbrev pub step : Inside → List ℕ → Option (List ℕ)
step insides.Escaped bytes = unless (after_joint bytes) (after_class is_no_blank bytes)
step insides.Comment bytes = unless (after_close 47 bytes) (after_class is_no_newline bytes)
step insides.Attribute bytes = or_else (after_joint bytes) (unless (after_close 41 bytes) (after_class is_no_newline bytes))

-- the inside of a part goes up to the rest
pub data Runs (inside : Inside) : List ℕ → List ℕ → Type 0 where
  stops : {bytes rest : List ℕ} → step inside bytes ≡ None → rest ≡ bytes → Runs inside bytes rest
  goes : {bytes rest : List ℕ} (more : List ℕ) → step inside bytes ≡ Some more → Runs inside more rest → Runs inside bytes rest

-- ---- parts

-- what a `/` begins that these bytes follow
unfoldable pub slash_kind : List ℕ → Kind
slash_kind [] = Other
slash_kind (first ∷ rest) = if first == 47 then Line else if first == 42 then Comment else Other

-- what a `(` begins that these bytes follow
unfoldable pub bracket_kind : List ℕ → Kind
bracket_kind [] = Other
bracket_kind (first ∷ rest) = if first == 42 && not (begins_with 41 rest) then Attribute else Other

-- what begins with the byte
unfoldable pub kind_by : ℕ → List ℕ → Kind
kind_by first rest =
    if first == 10 then End else
    if first == 34 then Quote else
    if first == 92 then Escaped else
    if first == 47 then slash_kind rest else
    if first == 40 then bracket_kind rest else Other

-- what begins the bytes, where no joint does
unfoldable pub kind_at : List ℕ → Kind
kind_at [] = End
kind_at (first ∷ rest) = kind_by first rest

-- how many bytes a part begins with
abbrev pub opening : Kind → ℕ
opening End = 0
opening Quote = 1
opening Escaped = 1
opening Line = 2
opening Comment = 2
opening Attribute = 2
opening Other = 1

-- a whole part and what follows it, or what stands last and the rest
pub data Seen : Type 0 where
  Whole : List ℕ → Seen
  Last : List ℕ → Seen

abbrev pub seen : Part → Seen
seen (parts.Whole after) = Whole after.now
seen (parts.Last rest) = Last rest.now

-- a part whose inside is read is whole where its mark stands there, and else the last
abbrev pub closed : Option (List ℕ) → List ℕ → Seen
closed (Some after) rest = Whole after
closed None rest = Last rest

-- what a quote begins that these bytes follow
pub data SeesString (quoted : List ℕ) (found : Seen) : Type 0 where
  whole : (value after : List ℕ) → IsQuoted quoted value after → found ≡ Whole after → SeesString quoted found
  open_end : ((value after : List ℕ) → IsQuoted quoted value after → ⊥) → found ≡ Last (after_line quoted)
      → SeesString quoted found

-- what is seen of a part by what follows its first bytes
abbrev pub SeesKind : Kind → List ℕ → Seen → Type 0
SeesKind End bytes found = found ≡ Last bytes
SeesKind Quote bytes found = SeesString bytes found
SeesKind Escaped bytes found = (rest : List ℕ) × Runs insides.Escaped bytes rest × (found ≡ Whole rest)
SeesKind Line bytes found = found ≡ Last (after_line bytes)
SeesKind Comment bytes found = (rest : List ℕ) × Runs insides.Comment bytes rest × (found ≡ closed (after_close 47 rest) rest)
SeesKind Attribute bytes found = (rest : List ℕ) × Runs insides.Attribute bytes rest × (found ≡ closed (after_close 41 rest) rest)
SeesKind Other bytes found = found ≡ Whole bytes

-- what is seen of bytes that a joint begins, after which these stand, or no joint
abbrev pub Sees : Option (List ℕ) → List ℕ → Seen → Type 0
Sees (Some after) bytes found = found ≡ Whole after
Sees None bytes found = SeesKind (kind_at bytes) (drop (opening (kind_at bytes)) bytes) found
