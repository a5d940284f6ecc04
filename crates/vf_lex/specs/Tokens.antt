-- The tokens of a design's text, and its first fault (docs/LANGUAGE.md, "Text and tokens").
use Rattle.std.specs.Prelude.{◌≡◌, ℕ, ◌⊎◌, List, [], ◌∷◌, ◌++◌}
use Rattle.vf_lex.specs.declared.fault.LexFault.{LexFault}
use Rattle.vf_lex.specs.declared.fault.LexKind.TheVariants.{BadCondition}
use Rattle.vf_lex.specs.declared.reader.Condition.{Condition}
use Rattle.vf_lex.specs.declared.spot.Spot.{Spot}
use Rattle.vf_lex.specs.declared.token.Token.{Token}
use Rattle.vf_lex.specs.Around.{Around, Ended, Stopped, nothing_yet}
use Rattle.vf_lex.specs.Reads.{Reads}

-- the first byte of the design's own text
abbrev pub first_spot : Spot
first_spot = record { place = record { line = 1; column = 1 }; depth = 0 }

-- the text has these tokens: it is read to its end, where no condition is open
pub record IsTokens (text : List ℕ) (tokens : List Token) : Type 0 where
  pub last : Around
  pub reads : Reads first_spot nothing_yet text (Ended last)
  pub closed : last.conditions ≡ []
  pub tokens_are : tokens ≡ last.tokens

-- the text has this first fault: the reading stops at it, or a condition is open at the end, of which the outermost counts
pub data IsFirstFault (text : List ℕ) (fault : LexFault) : Type 0 where
  stopped : Reads first_spot nothing_yet text (Stopped fault) → IsFirstFault text fault
  open_end : (last : Around) (inner : List Condition) (outermost : Condition)
      → Reads first_spot nothing_yet text (Ended last) → last.conditions ≡ inner ++ outermost ∷ []
      → fault ≡ record { kind = BadCondition; place = outermost.place } → IsFirstFault text fault

-- a text has at most one list of tokens, at most one first fault, and never both
abbrev pub TokensAreOne : Type 0
TokensAreOne = (text : List ℕ) →
    ((one other : List Token) → IsTokens text one → IsTokens text other → one ≡ other)
    × ((one other : LexFault) → IsFirstFault text one → IsFirstFault text other → one ≡ other)
    × ((tokens : List Token) (fault : LexFault) → IsTokens text tokens → IsFirstFault text fault → ⊥)

-- and it has one of both
abbrev pub TokensAreSome : Type 0
TokensAreSome = (text : List ℕ) → ((tokens : List Token) × IsTokens text tokens) ⊎ ((fault : LexFault) × IsFirstFault text fault)
