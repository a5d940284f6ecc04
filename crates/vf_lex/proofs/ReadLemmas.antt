-- What the elements at the front of a text lead to.
use Rattle.std.proofs.Common.{◌≡◌, ℕ, zero, suc, ◌==◌, ◌<◌, true, false, List, length, None, Some, Result, Ok, Err, refl, ap, sym, subst, ◌∙◌, arith}
use Rattle.vf_base.specs.declared.names.Place.{Place}
use Rattle.vf_lexeme.specs.declared.kinds.Lexeme.{Lexeme}
use Rattle.vf_lexeme.specs.declared.kinds.LexemeFault.{LexemeFault}
use Rattle.vf_lexeme.specs.declared.kinds.LexemeFault.TheVariants as faults
use Rattle.vf_lexeme.specs.declared.kinds.OpenFault.{OpenFault}
use Rattle.vf_lexeme.specs.declared.kinds.Passed.{Passed}
use Rattle.vf_lexeme.specs.Lexemes.{Begins, Passes, Refuses}
use Rattle.vf_macro.specs.MacroText.{IsMacroText}
use Rattle.vf_lex.specs.declared.directive.Step.{Step}
use Rattle.vf_lex.specs.declared.fault.LexKind.{LexKind}
use Rattle.std.proofs.lemmas.Bool.{eqb-true}
use Rattle.vf_lex.specs.declared.fault.LexFault.{LexFault}
use Rattle.vf_lex.specs.declared.spot.Spot.{Spot}
use Rattle.vf_lex.specs.Around.{Around, End, Ended, Stopped, is_taken, with_macro, with_use}
use Rattle.vf_lex.specs.Places.{moved, nested, before}
use Rattle.vf_lex.specs.Reads.{Reads, fault_at, use_fault, goes, defines, uses, use_stops, use_refused, stops}
use Rattle.vf_lex.specs.Answers.{Gives, DoesSo, FailsWith, Carries, StopsAt, seen}
use Rattle.vf_lex.specs.Directives.{Effect, Goes, Defines, Uses, Stops}
use Rattle.vf_lex.specs.Elements.{kind_of, open_kind, taken_effect, passed_effect, Does, taken, passed}

-- ---- an element of a text that is taken

pub took : (place : Place) (now : Around) (text : List ℕ) (found lexeme : Lexeme) (rest : List ℕ) (effect : Effect)
    → is_taken now.conditions ≡ true
    → Begins text (Ok (found, rest)) → found ≡ lexeme → effect ≡ taken_effect place now (Ok (lexeme, rest))
    → Does place now text effect
took place now text found lexeme rest effect t b is e = taken (Ok (lexeme, rest)) t
    (subst (λ l. Begins text (Ok (l, rest))) is b) e

pub took_on : (result : Result Step LexKind) (next : Around) (place : Place) (now : Around) (text : List ℕ)
    (found lexeme : Lexeme) (rest : List ℕ) → is_taken now.conditions ≡ true
    → Begins text (Ok (found, rest)) → found ≡ lexeme → Gives (seen next) result (taken_effect place now (Ok (lexeme, rest)))
    → DoesSo result next place now text
took_on (Ok step) next place now text found lexeme rest t b is e = took place now text found lexeme rest (seen next step) t b
    is (sym e)
took_on (Err kind) next place now text found lexeme rest t b is e = λ h. took place now text found lexeme rest _ t b is
    (sym (e h))

pub took_fault : (place : Place) (now : Around) (text : List ℕ) (fault : LexemeFault) (kind : LexKind)
    → is_taken now.conditions ≡ true → Refuses text fault → kind ≡ kind_of fault
    → FailsWith kind place now text
took_fault place now text faults.BadCharacter kind t b is h = taken _ t b (ap Stops is)
took_fault place now text faults.OpenComment kind t b is h = taken _ t b (ap Stops is)
took_fault place now text faults.OpenString kind t b is h = taken _ t b (ap Stops is)
took_fault place now text faults.BadNumber kind t b is h = taken _ t b (ap Stops is)
took_fault place now text faults.TooWide kind t b is h = taken _ t b (ap Stops is)
took_fault place now text faults.Memory kind t b is h = absurd (h is)

-- ---- an element of a text that is not taken

pub passed_by : (place : Place) (now : Around) (text : List ℕ) (found what : Passed) (rest : List ℕ) (effect : Effect)
    → is_taken now.conditions ≡ false
    → Passes text (Ok (found, rest)) → found ≡ what → effect ≡ passed_effect place now (Ok (what, rest))
    → Does place now text effect
passed_by place now text found what rest effect t b is e = passed (Ok (what, rest)) t
    (subst (λ l. Passes text (Ok (l, rest))) is b) e

pub passed_on : (result : Result Step LexKind) (next : Around) (place : Place) (now : Around) (text : List ℕ)
    (found what : Passed) (rest : List ℕ) → is_taken now.conditions ≡ false
    → Passes text (Ok (found, rest)) → found ≡ what → Gives (seen next) result (passed_effect place now (Ok (what, rest)))
    → DoesSo result next place now text
passed_on (Ok step) next place now text found what rest t b is e = passed_by place now text found what rest (seen next step) t
    b is (sym e)
passed_on (Err kind) next place now text found what rest t b is e = λ h. passed_by place now text found what rest _ t b is
    (sym (e h))

pub passed_fault : (place : Place) (now : Around) (text : List ℕ) (fault : OpenFault) (kind : LexKind)
    → is_taken now.conditions ≡ false → Passes text (Err fault) → kind ≡ open_kind fault
    → FailsWith kind place now text
passed_fault place now text fault kind t b is h = passed (Err fault) t b (ap Stops is)

-- ---- reading on after an element

pub some_from : (n : ℕ) → false ≡ (n == 0) → 0 < n
some_from zero e = absurd cc
some_from (suc n) e = omega arith

pub none_from : (n : ℕ) → true ≡ (n == 0) → n ≡ 0
none_from n e = eqb-true n 0 (sym e)

pub goes_on : (spot : Spot) (now next : Around) (text rest : List ℕ) → 0 < length text → Does spot.place now text (Goes next rest)
    → Carries spot now text (moved spot (before text rest)) next rest
goes_on spot now next text rest some d end r = goes next rest some d r

-- a definition, of which no more is known than that it was made
abbrev pub IsDefined : List ℕ → List ℕ → List ℕ → Around → Around → Type 0
IsDefined name bytes rest now next = (body : List ℕ) × IsMacroText bytes body rest × (next ≡ with_macro now name (Some body))

pub defines_on : (spot : Spot) (now mid next : Around) (text name bytes rest : List ℕ) → 0 < length text
    → Does spot.place now text (Defines name bytes) → mid ≡ now
    → IsDefined name bytes rest mid next → Carries spot now text (moved spot (before text rest)) next rest
defines_on spot now mid next text name bytes rest some d kept made end r =
    let next_is : next ≡ with_macro now name (Some made.0) = made.2 ∙ ap (λ a. with_macro a name (Some made.0)) kept in
    defines name bytes made.0 rest some d made.1 (subst (λ a. Reads (moved spot (before text rest)) a rest end) next_is r)

-- a use of a macro whose text is read, counted and nested by the code
pub record IsEntered (spot within : Spot) (now mid counted : Around) (body : List ℕ) : Type 0 where
  pub kept : mid ≡ now
  pub fits : use_fault spot mid body ≡ None
  pub counts : counted ≡ with_use mid body
  pub nests : within ≡ nested spot

entered_fits : (spot within : Spot) (now mid counted : Around) (body : List ℕ) → IsEntered spot within now mid counted body
    → use_fault spot now body ≡ None
entered_fits spot within now mid counted body e = subst (λ a. use_fault spot a body ≡ None) e.kept e.fits

entered_reads : (spot within : Spot) (now mid counted : Around) (body : List ℕ) (end : End)
    → IsEntered spot within now mid counted body → Reads within counted body end → Reads (nested spot) (with_use now body) body end
entered_reads spot within now mid counted body end e inner =
    subst (λ a. Reads (nested spot) a body end) (e.counts ∙ ap (λ a. with_use a body) e.kept)
    (subst (λ s. Reads s counted body end) e.nests inner)

pub uses_on : (spot within : Spot) (now mid counted next : Around) (text body rest : List ℕ)
    → 0 < length text → Does spot.place now text (Uses body rest) → IsEntered spot within now mid counted body
    → Reads within counted body (Ended next) → Carries spot now text (moved spot (before text rest)) next rest
uses_on spot within now mid counted next text body rest some d e inner end r =
    uses body rest next some d (entered_fits spot within now mid counted body e)
    (entered_reads spot within now mid counted body (Ended next) e inner) r

pub use_fails : (spot within : Spot) (now mid counted : Around) (text body rest : List ℕ) (fault : LexFault)
    → 0 < length text → Does spot.place now text (Uses body rest) → IsEntered spot within now mid counted body
    → StopsAt fault within counted body → StopsAt fault spot now text
use_fails spot within now mid counted text body rest fault some d e inner known =
    use_stops body rest fault some d (entered_fits spot within now mid counted body e)
    (entered_reads spot within now mid counted body (Stopped fault) e (inner known)) refl

pub use_is_refused : (spot : Spot) (now mid : Around) (text body rest : List ℕ) (kind : LexKind) (fault : LexFault)
    → 0 < length text → Does spot.place now text (Uses body rest) → mid ≡ now → use_fault spot mid body ≡ Some kind
    → fault ≡ fault_at kind spot → StopsAt fault spot now text
use_is_refused spot now mid text body rest kind fault some d kept why is known =
    use_refused body rest kind some d (subst (λ a. use_fault spot a body ≡ Some kind) kept why) (ap Stopped is)

pub stops_at : (spot : Spot) (now : Around) (text : List ℕ) (kind : LexKind) (fault : LexFault) → 0 < length text
    → FailsWith kind spot.place now text
    → fault ≡ fault_at kind spot → StopsAt fault spot now text
stops_at spot now text kind fault some fails is known =
    stops kind some (fails (λ same. known (ap (λ f. f.kind) is ∙ same))) (ap Stopped is)

-- one element further, what is read from the rest on is read from the text on
pub carries_on : (first spot spot_2 : Spot) (start now next : Around) (whole text rest : List ℕ) (end : End)
    → spot_2 ≡ moved spot (before text rest)
    → Carries first start whole spot now text → Carries spot now text (moved spot (before text rest)) next rest
    → Reads spot_2 next rest end → Reads first start whole end
carries_on first spot spot_2 start now next whole text rest end is on one r = on end
    (one end (subst (λ s. Reads s next rest end) is r))
