-- Directives (docs/LANGUAGE.md, "Text and tokens"; IEEE Std 1364-2005, clause 19).
use Rattle.std.specs.Prelude.{ℕ, Bool, true, false, not, ◌==◌, ◌&&◌, ◌||◌, if◌then◌else◌, List, [], ◌∷◌, length, Option, None, Some, codes}
use Rattle.std.specs.Str.{bytes_eq}
use Rattle.vf_base.specs.declared.names.Place.{Place}
use Rattle.vf_number.specs.Runs.{begins_with}
use Rattle.vf_lexeme.specs.Bytes.{after_line}
use Rattle.vf_lex.specs.Names.{name_of, after_name, after_blanks, after_line_blanks}
use Rattle.vf_lex.specs.declared.directive.Branching.{Branching}
use Rattle.vf_lex.specs.declared.directive.Branching.TheVariants.{Ifdef, Ifndef, Elsif, Else, Endif}
use Rattle.vf_lex.specs.declared.directive.Directive.{Directive}
use Rattle.vf_lex.specs.declared.directive.Directive.TheVariants.{Define, Undef, Skipped, Include, Use}
use Rattle.vf_lex.specs.declared.fault.LexKind.{LexKind}
use Rattle.vf_lex.specs.declared.fault.LexKind.TheVariants.{UnknownDirective, LeftOut, BadCondition}
use Rattle.vf_lex.specs.declared.reader.Condition.{Condition}
use Rattle.vf_lex.specs.Around.{Around, is_taken, is_defined, with_macro, with_conditions}

-- what an element at the front of a text leads to
pub data Effect : Type 0 where
  -- the rest is read on, with this around it
  Goes : Around → List ℕ → Effect
  -- the name is defined by the macro text that the bytes begin with
  Defines : List ℕ → List ℕ → Effect
  -- the text of a macro is read, and then the rest
  Uses : List ℕ → List ℕ → Effect
  -- the first fault
  Stops : LexKind → Effect

-- the directives of conditions, which count in a branch that is not taken too
unfoldable pub branching_of : List ℕ → Option Branching
branching_of name =
    if bytes_eq name (codes "ifdef") then Some Ifdef
    else if bytes_eq name (codes "ifndef") then Some Ifndef
    else if bytes_eq name (codes "elsif") then Some Elsif
    else if bytes_eq name (codes "else") then Some Else
    else if bytes_eq name (codes "endif") then Some Endif
    else None

abbrev pub is_skipped : List ℕ → Bool
is_skipped name = bytes_eq name (codes "timescale") || bytes_eq name (codes "default_nettype") || bytes_eq name (codes "resetall")
    || bytes_eq name (codes "celldefine") || bytes_eq name (codes "endcelldefine")

-- every other name is the use of a macro
unfoldable pub directive_of : List ℕ → Directive
directive_of name =
    if bytes_eq name (codes "define") then Define
    else if bytes_eq name (codes "undef") then Undef
    else if bytes_eq name (codes "include") then Include
    else if is_skipped name then Skipped
    else Use

-- ---- conditions

-- a condition that opens in an outer text that is taken or not, with the result of its test
abbrev pub opened : Place → Bool → Bool → Condition
opened place outer test = record { place = place; taken = outer && test; settled = not outer || test; closed = false }

-- at its next branch, with the result of the branch's test
abbrev pub next_branch : Condition → Bool → Bool → Condition
next_branch condition test last = record {
  place = condition.place;
  taken = not condition.settled && test;
  settled = condition.settled || test;
  closed = last;
}

-- the test of `ifdef`, which wants the name to be defined, or of `ifndef`
abbrev pub tested : Bool → Bool → Bool
tested wanted defined = if wanted then defined else not defined

-- `ifdef` or `ifndef`
abbrev pub ifdef_effect : Bool → Place → Around → List ℕ → Effect
ifdef_effect wanted place now bytes =
    let test = tested wanted (is_defined now (name_of bytes)) in
    if length (name_of bytes) == 0 then Stops BadCondition
    else Goes (with_conditions now (opened place (is_taken now.conditions) test ∷ now.conditions)) (after_name bytes)

-- `elsif`
abbrev pub elsif_effect : Around → List Condition → List ℕ → Effect
elsif_effect now [] bytes = Stops BadCondition
elsif_effect now (condition ∷ outer) bytes =
    if condition.closed || length (name_of bytes) == 0 then Stops BadCondition
    else Goes (with_conditions now (next_branch condition (is_defined now (name_of bytes)) false ∷ outer)) (after_name bytes)

-- `else`
abbrev pub else_effect : Around → List Condition → List ℕ → Effect
else_effect now [] rest = Stops BadCondition
else_effect now (condition ∷ outer) rest =
    if condition.closed then Stops BadCondition else Goes (with_conditions now (next_branch condition true true ∷ outer)) rest

-- `endif`
abbrev pub endif_effect : Around → List Condition → List ℕ → Effect
endif_effect now [] rest = Stops BadCondition
endif_effect now (condition ∷ outer) rest = Goes (with_conditions now outer) rest

-- the effect of a condition's directive; the bytes are those after it
unfoldable pub condition_effect : Branching → Place → Around → List ℕ → Effect
condition_effect Ifdef place now bytes = ifdef_effect true place now (after_blanks bytes)
condition_effect Ifndef place now bytes = ifdef_effect false place now (after_blanks bytes)
condition_effect Elsif place now bytes = elsif_effect now now.conditions (after_blanks bytes)
condition_effect Else place now bytes = else_effect now now.conditions bytes
condition_effect Endif place now bytes = endif_effect now now.conditions bytes

-- ---- the other directives

-- `define`; a name directly followed by `(` would have arguments
abbrev pub define_effect : List ℕ → Effect
define_effect bytes =
    if length (name_of bytes) == 0 then Stops UnknownDirective
    else if begins_with 40 (after_name bytes) then Stops LeftOut
    else Defines (name_of bytes) (after_name bytes)

-- `undef`
abbrev pub undef_effect : Around → List ℕ → Effect
undef_effect now bytes =
    if length (name_of bytes) == 0 then Stops UnknownDirective
    else Goes (with_macro now (name_of bytes) None) (after_name bytes)

-- a use of the macro of this text
abbrev pub use_effect : Option (List ℕ) → List ℕ → Effect
use_effect None rest = Stops UnknownDirective
use_effect (Some text) rest = Uses text rest

-- the effect of a directive by its name; the bytes are those after the name
unfoldable pub other_effect : Directive → Around → List ℕ → List ℕ → Effect
other_effect Define now name bytes = define_effect (after_line_blanks bytes)
other_effect Undef now name bytes = undef_effect now (after_blanks bytes)
other_effect Include now name bytes = Stops LeftOut
other_effect Skipped now name bytes = Goes now (after_line bytes)
other_effect Use now name bytes = use_effect (now.macros name) bytes

abbrev pub chosen_effect : Option Branching → Bool → Place → Around → List ℕ → List ℕ → Effect
chosen_effect (Some branching) taken place now name bytes = condition_effect branching place now bytes
chosen_effect None true place now name bytes = other_effect (directive_of name) now name bytes
chosen_effect None false place now name bytes = Goes now bytes

-- the effect of what stands after a '`': where the text is not taken, only conditions count
unfoldable pub directive_effect : Bool → Place → Around → List ℕ → Effect
directive_effect taken place now bytes =
    chosen_effect (branching_of (name_of bytes)) taken place now (name_of bytes) (after_name bytes)
