-- One element at the front of a text: a blank, a comment, a token, or a directive (docs/LANGUAGE.md, "Text and tokens").
use Rattle.std.specs.Prelude.{◌≡◌, ℕ, ◌^◌, nat_lt, true, false, if◌then◌else◌, List, [], ◌∷◌, ◌++◌, length, Result, Ok, Err}
use Rattle.vf_base.specs.declared.names.Place.{Place}
use Rattle.vf_lexeme.specs.declared.kinds.Lexeme.{Lexeme}
use Rattle.vf_lexeme.specs.declared.kinds.Lexeme.TheVariants as lexemes
use Rattle.vf_lexeme.specs.declared.kinds.LexemeFault.{LexemeFault}
use Rattle.vf_lexeme.specs.declared.kinds.LexemeFault.TheVariants as faults
use Rattle.vf_lexeme.specs.declared.kinds.OpenFault.{OpenFault}
use Rattle.vf_lexeme.specs.declared.kinds.OpenFault.TheVariants as opens
use Rattle.vf_lexeme.specs.declared.kinds.Passed.{Passed}
use Rattle.vf_lexeme.specs.declared.kinds.Passed.TheVariants as passes
use Rattle.vf_lexeme.specs.declared.kinds.TokenKind.{TokenKind}
use Rattle.vf_lexeme.specs.Lexemes.{Begins, Passes}
use Rattle.vf_lex.specs.declared.fault.LexKind.{LexKind}
use Rattle.vf_lex.specs.declared.fault.LexKind.TheVariants.{BadCharacter, OpenComment, OpenString, BadNumber, TooWide, TooMany, Memory}
use Rattle.vf_lex.specs.declared.token.Token.{Token}
use Rattle.vf_lex.specs.Around.{Around, is_taken}
use Rattle.vf_lex.specs.Directives.{Effect, Goes, Stops, directive_effect}

abbrev pub kind_of : LexemeFault → LexKind
kind_of faults.BadCharacter = BadCharacter
kind_of faults.OpenComment = OpenComment
kind_of faults.OpenString = OpenString
kind_of faults.BadNumber = BadNumber
kind_of faults.TooWide = TooWide
kind_of faults.Memory = Memory

abbrev pub open_kind : OpenFault → LexKind
open_kind opens.Comment = OpenComment
open_kind opens.String = OpenString

-- one more token, of at most 2^20
unfoldable pub token_effect : Place → Around → TokenKind → List ℕ → Effect
token_effect place now kind rest =
    let token : Token = record { kind = kind; place = place } in
    if nat_lt (length now.tokens) (2 ^ 20) then Goes (record now { tokens = now.tokens ++ token ∷ [] }) rest else Stops TooMany

-- the effect of what begins a text that is taken
abbrev pub taken_effect : Place → Around → Result (Lexeme × List ℕ) LexemeFault → Effect
taken_effect place now (Ok (lexemes.Blank, rest)) = Goes now rest
taken_effect place now (Ok (lexemes.Token kind, rest)) = token_effect place now kind rest
taken_effect place now (Ok (lexemes.Directive, rest)) = directive_effect true place now rest
taken_effect place now (Err fault) = Stops (kind_of fault)

-- the effect of what begins a text that is not taken
abbrev pub passed_effect : Place → Around → Result (Passed × List ℕ) OpenFault → Effect
passed_effect place now (Ok (passes.Text, rest)) = Goes now rest
passed_effect place now (Ok (passes.Directive, rest)) = directive_effect false place now rest
passed_effect place now (Err fault) = Stops (open_kind fault)

-- the effect of the element at the front of a text
pub data Does (place : Place) (now : Around) (text : List ℕ) (effect : Effect) : Type 0 where
  taken : (seen : Result (Lexeme × List ℕ) LexemeFault) → is_taken now.conditions ≡ true → Begins text seen
      → effect ≡ taken_effect place now seen → Does place now text effect
  passed : (seen : Result (Passed × List ℕ) OpenFault) → is_taken now.conditions ≡ false → Passes text seen
      → effect ≡ passed_effect place now seen → Does place now text effect
