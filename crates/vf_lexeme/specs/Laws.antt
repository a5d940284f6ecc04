-- What holds of every text.
use Rattle.std.specs.Prelude.{◌≡◌, ℕ, ◌<◌, List, length, Ok}
pub use Rattle.vf_number.specs.Bytes.{IsRest}
use Rattle.vf_lexeme.specs.declared.kinds.Lexeme.{Lexeme}
use Rattle.vf_lexeme.specs.declared.kinds.Passed.{Passed}
use Rattle.vf_lexeme.specs.Words.{IsNameAt}
use Rattle.vf_lexeme.specs.Lexemes.{Seen, Begins, SeenPassing, Passes}

-- one thing at most stands at the front of a text that is taken
abbrev pub BeginsOnce : Type 0
BeginsOnce = (text : List ℕ) (seen other : Seen) → Begins text seen → Begins text other → seen ≡ other

-- and something, or a fault, where the text has a byte
abbrev pub BeginsSome : Type 0
BeginsSome = (text : List ℕ) → 0 < length text → (seen : Seen) × Begins text seen

-- the same of a text that is not taken
abbrev pub PassesOnce : Type 0
PassesOnce = (text : List ℕ) (seen other : SeenPassing) → Passes text seen → Passes text other → seen ≡ other

abbrev pub PassesSome : Type 0
PassesSome = (text : List ℕ) → 0 < length text → (seen : SeenPassing) × Passes text seen

-- one name at most stands at the front of a text
abbrev pub NamesOnce : Type 0
NamesOnce = (text name rest other more : List ℕ) → IsNameAt text name rest → IsNameAt text other more
    → (name ≡ other) × (rest ≡ more)

-- a lexeme takes one byte or more, and leaves what is after it
abbrev pub BeginsTakes : Type 0
BeginsTakes = (text : List ℕ) (lexeme : Lexeme) (rest : List ℕ) → Begins text (Ok (lexeme, rest)) → IsRest text rest

-- the same of a text that is not taken
abbrev pub PassesTakes : Type 0
PassesTakes = (text : List ℕ) (passed : Passed) (rest : List ℕ) → Passes text (Ok (passed, rest)) → IsRest text rest
