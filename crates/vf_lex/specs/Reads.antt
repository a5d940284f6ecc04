-- A text is read to its end, or to the first fault (docs/LANGUAGE.md, "Text and tokens").
use Rattle.std.specs.Prelude.{◌≡◌, ℕ, ◌+◌, ◌^◌, ◌<◌, nat_le, nat_lt, if◌then◌else◌, List, length, Option, None, Some}
use Rattle.vf_macro.specs.MacroText.{IsMacroText}
use Rattle.vf_lex.specs.declared.fault.LexFault.{LexFault}
use Rattle.vf_lex.specs.declared.fault.LexKind.{LexKind}
use Rattle.vf_lex.specs.declared.fault.LexKind.TheVariants.{MacroDepth, TooMany}
use Rattle.vf_lex.specs.declared.spot.Spot.{Spot}
use Rattle.vf_lex.specs.Around.{Around, End, Ended, Stopped, with_macro, with_use}
use Rattle.vf_lex.specs.Directives.{Goes, Defines, Uses, Stops}
use Rattle.vf_lex.specs.Elements.{Does}
use Rattle.vf_lex.specs.Places.{moved, nested, before}

abbrev pub fault_at : LexKind → Spot → LexFault
fault_at kind spot = record { kind = kind; place = spot.place }

-- Why the text of a macro that is used at a spot is not read, or nothing: at most 16 uses nest, and at most 2^26 bytes of the texts of
-- macros are read, those of this text among them.
unfoldable pub use_fault : Spot → Around → List ℕ → Option LexKind
use_fault spot now body =
    if nat_le 16 spot.depth then Some MacroDepth
    else if nat_lt (2 ^ 26) (now.macro_bytes + length body) then Some TooMany
    else None

-- the text is read from a spot on with this around it, and ends so
pub data Reads : Spot → Around → List ℕ → End → Type 0 where
  ends : {spot : Spot} {now : Around} {text : List ℕ} {end : End} → length text ≡ 0 → end ≡ Ended now → Reads spot now text end
  goes : {spot : Spot} {now : Around} {text : List ℕ} {end : End} (next : Around) (rest : List ℕ) → 0 < length text
      → Does spot.place now text (Goes next rest)
      → Reads (moved spot (before text rest)) next rest end
      → Reads spot now text end
  defines : {spot : Spot} {now : Around} {text : List ℕ} {end : End} (name bytes body rest : List ℕ) → 0 < length text
      → Does spot.place now text (Defines name bytes) → IsMacroText bytes body rest
      → Reads (moved spot (before text rest)) (with_macro now name (Some body)) rest end
      → Reads spot now text end
  uses : {spot : Spot} {now : Around} {text : List ℕ} {end : End} (body rest : List ℕ) (next : Around) → 0 < length text
      → Does spot.place now text (Uses body rest) → use_fault spot now body ≡ None
      → Reads (nested spot) (with_use now body) body (Ended next)
      → Reads (moved spot (before text rest)) next rest end
      → Reads spot now text end
  use_stops : {spot : Spot} {now : Around} {text : List ℕ} {end : End} (body rest : List ℕ) (fault : LexFault) → 0 < length text
      → Does spot.place now text (Uses body rest) → use_fault spot now body ≡ None
      → Reads (nested spot) (with_use now body) body (Stopped fault) → end ≡ Stopped fault
      → Reads spot now text end
  use_refused : {spot : Spot} {now : Around} {text : List ℕ} {end : End} (body rest : List ℕ) (kind : LexKind) → 0 < length text
      → Does spot.place now text (Uses body rest) → use_fault spot now body ≡ Some kind → end ≡ Stopped (fault_at kind spot)
      → Reads spot now text end
  stops : {spot : Spot} {now : Around} {text : List ℕ} {end : End} (kind : LexKind) → 0 < length text
      → Does spot.place now text (Stops kind) → end ≡ Stopped (fault_at kind spot)
      → Reads spot now text end
