-- What the code's own values stand for, and its answers against the definitions.
use Rattle.std.specs.Prelude.{◌≡◌, ◌≢◌, ℕ, ◌+◌, ◌<◌, ◌≤◌, ◌^◌, List, [], ◌∷◌, ◌++◌, length, Result, Ok, Err}
use Rattle.vf_base.specs.declared.names.Place.{Place}
use Rattle.vf_lex.specs.declared.directive.Step.{Step}
use Rattle.vf_lex.specs.declared.directive.Step.TheVariants as steps
use Rattle.vf_lex.specs.declared.fault.LexFault.{LexFault}
use Rattle.vf_lex.specs.declared.fault.LexKind.{LexKind}
use Rattle.vf_lex.specs.declared.fault.LexKind.TheVariants.{BadCondition, Memory}
use Rattle.vf_lex.specs.declared.reader.Condition.{Condition}
use Rattle.vf_lex.specs.declared.spot.Spot.{Spot}
use Rattle.vf_lex.specs.declared.token.Token.{Token}
use Rattle.vf_lex.specs.Around.{Around, End, Ended, Stopped}
use Rattle.vf_lex.specs.Directives.{Effect, Goes, Defines, Uses, Stops}
use Rattle.vf_lex.specs.Elements.{Does}
use Rattle.vf_lex.specs.Places.{moved, before}
use Rattle.vf_lex.specs.Reads.{Reads}

-- what the code answers to a directive or element is the effect, with what is around after it
abbrev pub seen : Around → Step → Effect
seen now (steps.Goes rest) = Goes now rest.now
seen now (steps.Defines name bytes) = Defines name.now bytes.now
seen now (steps.Uses body rest) = Uses body.items rest.now

-- the rest that an answer leaves
abbrev pub left : Step → List ℕ
left (steps.Goes rest) = rest.now
left (steps.Defines name bytes) = bytes.now
left (steps.Uses body rest) = rest.now

-- a definition and a use leave what is around to be changed by the reader
abbrev pub Keeps : Around → Around → Step → Type 0
Keeps old new (steps.Goes rest) = Unit {0}
Keeps old new (steps.Defines name bytes) = new ≡ old
Keeps old new (steps.Uses body rest) = new ≡ old

-- memory ran out, or the effect is to stop with that kind
abbrev pub StopsWith : LexKind → Effect → Type 0
StopsWith kind effect = kind ≢ Memory → effect ≡ Stops kind

-- what was answered, seen by view, is the effect, unless memory ran out
abbrev pub Gives : {X : Type 0} → (X → Effect) → Result X LexKind → Effect → Type 0
Gives view (Ok x) effect = effect ≡ view x
Gives view (Err kind) effect = StopsWith kind effect

-- memory ran out, or that kind is the first fault of the text at this place
abbrev pub FailsWith : LexKind → Place → Around → List ℕ → Type 0
FailsWith kind place now text = kind ≢ Memory → Does place now text (Stops kind)

-- what was answered is the effect of the element at the front of the text, unless memory ran out
abbrev pub DoesSo : Result Step LexKind → Around → Place → Around → List ℕ → Type 0
DoesSo (Ok step) next place now text = Does place now text (seen next step)
DoesSo (Err kind) next place now text = FailsWith kind place now text

-- what is read from the rest on is read from the text on
abbrev pub Carries : Spot → Around → List ℕ → Spot → Around → List ℕ → Type 0
Carries spot now text after next rest = (end : End) → Reads after next rest end → Reads spot now text end

abbrev pub StopsAt : LexFault → Spot → Around → List ℕ → Type 0
StopsAt fault spot now text = fault.kind ≢ Memory → Reads spot now text (Stopped fault)

-- the first element of the text was read, up to the rest, or stops the reading
abbrev pub ReadsOne : {X : Type 0} → (X → List ℕ) → Result X LexFault → Around → Spot → Around → List ℕ → Type 0
ReadsOne rest (Ok x) next spot now text = Carries spot now text (moved spot (before text (rest x))) next (rest x)
ReadsOne rest (Err fault) next spot now text = StopsAt fault spot now text

-- the text was read to its end, or up to its first fault
abbrev pub ReadsAll : {X : Type 0} → Result X LexFault → Around → Spot → Around → List ℕ → Type 0
ReadsAll (Ok x) next spot now text = Reads spot now text (Ended next)
ReadsAll (Err fault) next spot now text = StopsAt fault spot now text

-- the place in the design's own text leaves room to count on over the text
abbrev pub HasRoom : Spot → List ℕ → Type 0
HasRoom spot text =
    (spot.depth ≤ 16)
    × (spot.depth ≡ 0 → (spot.place.line + length text < 2 ^ 32) × (spot.place.column + length text < 2 ^ 32))

-- the tokens where no condition is open, or the fault of the outermost that is
abbrev pub Finishes : {X : Type 0} → (X → List Token) → Result X LexFault → Around → Type 0
Finishes tokens (Ok x) last = (last.conditions ≡ []) × (tokens x ≡ last.tokens)
Finishes tokens (Err fault) last =
    (inner : List Condition) × (outermost : Condition) × (last.conditions ≡ inner ++ outermost ∷ [])
    × (fault ≡ record { kind = BadCondition; place = outermost.place })
