-- What stands at the front of a text. (docs/LANGUAGE.md, "Text and tokens"; IEEE Std 1364-2005, clause 3.)
use Rattle.std.specs.Prelude.{◌≡◌, ◌≢◌, ℕ, Bool, true, false, ◌&&◌, not, nat_le, List, ◌∷◌, ◌++◌, Result, Ok, Err}
use Rattle.std.specs.List.{list_all}
use Rattle.vf_fours.specs.Bits.{FourState}
use Rattle.vf_number.specs.declared.fault.NumberFault.{NumberFault}
use Rattle.vf_number.specs.declared.fault.NumberFault.TheVariants as number_faults
use Rattle.vf_number.specs.Numbers.{IsNumber}
use Rattle.vf_lexeme.specs.declared.kinds.TokenKind.TheVariants.{Name, System, Word, Number, Quoted, Sign}
use Rattle.vf_lexeme.specs.declared.kinds.Lexeme.{Lexeme}
use Rattle.vf_lexeme.specs.declared.kinds.Lexeme.TheVariants.{Blank, Token, Directive}
use Rattle.vf_lexeme.specs.declared.kinds.LexemeFault.{LexemeFault}
use Rattle.vf_lexeme.specs.declared.kinds.LexemeFault.TheVariants.{BadCharacter, OpenComment, OpenString, BadNumber, TooWide, Memory}
use Rattle.vf_lexeme.specs.declared.kinds.Passed.{Passed}
use Rattle.vf_lexeme.specs.declared.kinds.Passed.TheVariants as passed
use Rattle.vf_lexeme.specs.declared.kinds.OpenFault.{OpenFault}
use Rattle.vf_lexeme.specs.declared.kinds.OpenFault.TheVariants as open_faults
use Rattle.vf_lexeme.specs.Bytes.{is_blank, is_name_byte, is_no_blank, Ends}
use Rattle.vf_lexeme.specs.Words.{IsName, is_reserved}
use Rattle.vf_lexeme.specs.Strings.{IsQuoted}
use Rattle.vf_lexeme.specs.Signs.{OpensSkip, IsSkipped, IsOpen, IsSignAt}

-- a lexeme and the bytes after it, or a fault
abbrev pub Seen : Type 0
Seen = Result (Lexeme × List ℕ) LexemeFault

-- the fault of a number, as one of a lexeme
abbrev pub of_number : NumberFault → LexemeFault
of_number number_faults.BadNumber = BadNumber
of_number number_faults.TooWide = TooWide

-- a byte that begins nothing: it is no blank and not printable
abbrev pub is_stray : ℕ → Bool
is_stray byte = not (is_blank byte) && not (nat_le 32 byte && nat_le byte 126)

-- What stands at the front of a text that is taken: a lexeme and what follows it, or a fault.
pub data Begins (text : List ℕ) (seen : Seen) : Type 0 where
  blank : (byte : ℕ) (rest : List ℕ) → is_blank byte ≡ true → text ≡ byte ∷ rest → seen ≡ Ok (Blank, rest) → Begins text seen
  skipped : (rest : List ℕ) → IsSkipped text rest → seen ≡ Ok (Blank, rest) → Begins text seen
  open_comment : IsOpen text → seen ≡ Err OpenComment → Begins text seen
  name : (name rest : List ℕ) → IsName name → is_reserved name ≡ false → Ends is_name_byte rest → text ≡ name ++ rest
      → seen ≡ Ok (Token (Name name), rest) → Begins text seen
  word : (name rest : List ℕ) → IsName name → is_reserved name ≡ true → Ends is_name_byte rest → text ≡ name ++ rest
      → seen ≡ Ok (Token (Word name), rest) → Begins text seen
  escaped : (name rest : List ℕ) → list_all is_no_blank name ≡ true → Ends is_no_blank rest → text ≡ 92 ∷ (name ++ rest)
      → seen ≡ Ok (Token (Name name), rest) → Begins text seen
  system : (first : ℕ) (more rest : List ℕ) → is_name_byte first ≡ true → list_all is_name_byte more ≡ true
      → Ends is_name_byte rest → text ≡ 36 ∷ first ∷ (more ++ rest)
      → seen ≡ Ok (Token (System (36 ∷ first ∷ more)), rest) → Begins text seen
  number : (value : FourState) (rest : List ℕ) → IsNumber text (Ok (value, rest))
      → seen ≡ Ok (Token (Number value), rest) → Begins text seen
  bad_number : (fault : NumberFault) → IsNumber text (Err fault) → seen ≡ Err (of_number fault) → Begins text seen
  quoted : (after value rest : List ℕ) → IsQuoted after value rest → text ≡ 34 ∷ after
      → seen ≡ Ok (Token (Quoted value), rest) → Begins text seen
  open_string : (after : List ℕ) → ((value rest : List ℕ) → IsQuoted after value rest → ⊥) → text ≡ 34 ∷ after
      → seen ≡ Err OpenString → Begins text seen
  sign : (sign rest : List ℕ) → IsSignAt text sign rest → seen ≡ Ok (Token (Sign sign), rest) → Begins text seen
  directive : (rest : List ℕ) → text ≡ 96 ∷ rest → seen ≡ Ok (Directive, rest) → Begins text seen
  dollar : (rest : List ℕ) → Ends is_name_byte rest → text ≡ 36 ∷ rest → seen ≡ Err BadCharacter → Begins text seen
  stray : (byte : ℕ) (rest : List ℕ) → is_stray byte ≡ true → text ≡ byte ∷ rest → seen ≡ Err BadCharacter → Begins text seen

-- the text does not begin with a lexeme, for that reason; out of memory says nothing of it
abbrev pub Refuses : List ℕ → LexemeFault → Type 0
Refuses text BadCharacter = Begins text (Err BadCharacter)
Refuses text OpenComment = Begins text (Err OpenComment)
Refuses text OpenString = Begins text (Err OpenString)
Refuses text BadNumber = Begins text (Err BadNumber)
Refuses text TooWide = Begins text (Err TooWide)
Refuses text Memory = Unit {0}

-- what is passed over and the bytes after it, or what does not end
abbrev pub SeenPassing : Type 0
SeenPassing = Result (Passed × List ℕ) OpenFault

-- What stands at the front of a text that is not taken: what is passed over and what follows it, or a fault.
pub data Passes (text : List ℕ) (seen : SeenPassing) : Type 0 where
  pass_directive : (rest : List ℕ) → text ≡ 96 ∷ rest → seen ≡ Ok (passed.Directive, rest) → Passes text seen
  pass_skipped : (rest : List ℕ) → IsSkipped text rest → seen ≡ Ok (passed.Text, rest) → Passes text seen
  pass_open_comment : IsOpen text → seen ≡ Err open_faults.Comment → Passes text seen
  pass_quoted : (after value rest : List ℕ) → IsQuoted after value rest → text ≡ 34 ∷ after
      → seen ≡ Ok (passed.Text, rest) → Passes text seen
  pass_open_string : (after : List ℕ) → ((value rest : List ℕ) → IsQuoted after value rest → ⊥) → text ≡ 34 ∷ after
      → seen ≡ Err open_faults.String → Passes text seen
  pass_escaped : (name rest : List ℕ) → list_all is_no_blank name ≡ true → Ends is_no_blank rest → text ≡ 92 ∷ (name ++ rest)
      → seen ≡ Ok (passed.Text, rest) → Passes text seen
  pass_other : (byte : ℕ) (rest : List ℕ) → byte ≢ 96 → byte ≢ 34 → byte ≢ 92 → (OpensSkip text → ⊥) → text ≡ byte ∷ rest
      → seen ≡ Ok (passed.Text, rest) → Passes text seen
