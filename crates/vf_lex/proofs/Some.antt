-- Each text is read to its end, or to a first fault.
use Rattle.std.proofs.Common.{◌≡◌, ℕ, zero, suc, ◌+◌, ◌-◌, ◌^◌, ◌<◌, ◌≤◌, Bool, true, false, eqb, ◌||◌, cond, List, [], ◌∷◌, ◌++◌, length, drop, Option, Some, None, Ok, Err, ◌⊎◌, inl, inr, refl, ap, arith, length-drop, length-append}
use Rattle.std.proofs.lemmas.Bool.{cases_Bool, cases_lt, le-leb, lt-leb, lt-ltb, le-ltb}
use Rattle.vf_base.specs.declared.names.Place.{Place}
use Rattle.vf_lexeme.specs.declared.kinds.Lexeme.TheVariants as lexemes
use Rattle.vf_lexeme.specs.declared.kinds.TokenKind.{TokenKind}
use Rattle.vf_lexeme.specs.declared.kinds.Passed.TheVariants as passed_kinds
use Rattle.vf_lexeme.specs.Laws.{BeginsSome, BeginsTakes, PassesSome, PassesTakes, IsRest}
use Rattle.vf_lexeme.specs.Lexemes.{Seen, SeenPassing, Begins, Passes}
use Rattle.vf_macro.specs.Laws.{MacroTextsSome}
use Rattle.vf_lex.specs.declared.directive.Branching.{Branching}
use Rattle.vf_lex.specs.declared.directive.Branching.TheVariants.{Ifdef, Ifndef, Elsif, Else, Endif}
use Rattle.vf_lex.specs.declared.directive.Directive.{Directive}
use Rattle.vf_lex.specs.declared.directive.Directive.TheVariants.{Define, Undef, Skipped, Include, Use}
use Rattle.vf_lex.specs.declared.fault.LexFault.{LexFault}
use Rattle.vf_lex.specs.declared.fault.LexKind.{LexKind}
use Rattle.vf_lex.specs.declared.fault.LexKind.TheVariants.{MacroDepth, TooMany}
use Rattle.vf_lex.specs.declared.reader.Condition.{Condition}
use Rattle.vf_lex.specs.declared.spot.Spot.{Spot}
use Rattle.vf_lex.specs.declared.token.Token.{Token}
use Rattle.vf_lex.specs.Around.{Around, End, Ended, Stopped, nothing_yet, is_taken, with_macro, with_use}
use Rattle.vf_lex.specs.Directives.{Effect, Goes, Defines, Uses, Stops, branching_of, directive_of, ifdef_effect, elsif_effect, else_effect, endif_effect, condition_effect, define_effect, undef_effect, use_effect, other_effect, chosen_effect, directive_effect}
use Rattle.vf_lex.specs.Elements.{token_effect, taken_effect, passed_effect, Does, taken, passed}
use Rattle.vf_number.proofs.CallerLemmas.{after_run_within}
use Rattle.vf_lexeme.specs.Bytes.{is_blank, is_no_newline}
use Rattle.vf_lex.specs.Names.{name_of, after_name, after_blanks, is_line_blank, after_line_blanks}
use Rattle.vf_lex.specs.Places.{moved, nested, before}
use Rattle.vf_lex.specs.Reads.{Reads, fault_at, use_fault, ends, goes, defines, uses, use_stops, use_refused, stops}
use Rattle.vf_lex.specs.Tokens.{first_spot, IsTokens, IsFirstFault, stopped, open_end, TokensAreSome}
use Rattle.vf_lex.proofs.PlaceLemmas.{moved_depth}

-- what the effect leaves to be read is at most so long
abbrev Leaves : ℕ → Effect → Type 0
Leaves n (Goes next rest) = length rest ≤ n
Leaves n (Defines name bytes) = length bytes ≤ n
Leaves n (Uses body rest) = length rest ≤ n
Leaves n (Stops kind) = Unit {0}

leaves_either : (n : ℕ) (b : Bool) (one other : Effect) → Leaves n one → Leaves n other → Leaves n (cond b one other)
leaves_either n true one other h k = h
leaves_either n false one other h k = k

leaves_more : (m n : ℕ) (effect : Effect) → m ≤ n → Leaves m effect → Leaves n effect
leaves_more m n (Goes next rest) h l = omega (arith, h, l)
leaves_more m n (Defines name bytes) h l = omega (arith, h, l)
leaves_more m n (Uses body rest) h l = omega (arith, h, l)
leaves_more m n (Stops kind) h l = tt

dropped : (k : ℕ) (bytes : List ℕ) → length (drop k bytes) ≤ length bytes
dropped k bytes = omega (arith, length-drop k bytes)

name_within : (bytes rest : List ℕ) → length rest ≤ length bytes → length (after_name rest) ≤ length bytes
name_within bytes rest h = omega (arith, dropped (length (name_of rest)) rest, h)

elsif_leaves : (n : ℕ) (now : Around) (conditions : List Condition) (bytes : List ℕ) → length bytes ≤ n
    → Leaves n (elsif_effect now conditions bytes)
elsif_leaves n now [] bytes h = tt
elsif_leaves n now (condition ∷ outer) bytes h =
    leaves_either n (condition.closed || eqb (length (name_of bytes)) 0) (Stops _) (Goes _ (after_name bytes)) tt
    (omega (arith, h, name_within bytes bytes (omega arith)))

else_leaves : (n : ℕ) (now : Around) (conditions : List Condition) (rest : List ℕ) → length rest ≤ n
    → Leaves n (else_effect now conditions rest)
else_leaves n now [] rest h = tt
else_leaves n now (condition ∷ outer) rest h = leaves_either n condition.closed (Stops _) (Goes _ rest) tt h

endif_leaves : (n : ℕ) (now : Around) (conditions : List Condition) (rest : List ℕ) → length rest ≤ n
    → Leaves n (endif_effect now conditions rest)
endif_leaves n now [] rest h = tt
endif_leaves n now (condition ∷ outer) rest h = h

ifdef_leaves : (n : ℕ) (wanted : Bool) (place : Place) (now : Around) (bytes : List ℕ) → length bytes ≤ n
    → Leaves n (ifdef_effect wanted place now bytes)
ifdef_leaves n wanted place now bytes h =
    leaves_either n (eqb (length (name_of bytes)) 0) (Stops _) (Goes _ (after_name bytes)) tt
    (omega (arith, h, name_within bytes bytes (omega arith)))

condition_leaves : (branching : Branching) (place : Place) (now : Around) (bytes : List ℕ)
    → Leaves (length bytes) (condition_effect branching place now bytes)
unfolding condition_effect
condition_leaves Ifdef place now bytes = ifdef_leaves (length bytes) true place now (after_blanks bytes) (after_run_within is_blank bytes)
condition_leaves Ifndef place now bytes = ifdef_leaves (length bytes) false place now (after_blanks bytes) (after_run_within is_blank bytes)
condition_leaves Elsif place now bytes = elsif_leaves (length bytes) now now.conditions (after_blanks bytes) (after_run_within is_blank bytes)
condition_leaves Else place now bytes = else_leaves (length bytes) now now.conditions bytes (omega arith)
condition_leaves Endif place now bytes = endif_leaves (length bytes) now now.conditions bytes (omega arith)

define_leaves : (n : ℕ) (bytes : List ℕ) → length bytes ≤ n → Leaves n (define_effect bytes)
define_leaves n bytes h =
    leaves_either n (eqb (length (name_of bytes)) 0) (Stops _) _ tt
    (leaves_either n _ (Stops _) (Defines (name_of bytes) (after_name bytes)) tt
    (omega (arith, h, name_within bytes bytes (omega arith))))

undef_leaves : (n : ℕ) (now : Around) (bytes : List ℕ) → length bytes ≤ n → Leaves n (undef_effect now bytes)
undef_leaves n now bytes h =
    leaves_either n (eqb (length (name_of bytes)) 0) (Stops _) (Goes _ (after_name bytes)) tt
    (omega (arith, h, name_within bytes bytes (omega arith)))

use_leaves : (n : ℕ) (text : Option (List ℕ)) (rest : List ℕ) → length rest ≤ n → Leaves n (use_effect text rest)
use_leaves n None rest h = tt
use_leaves n (Some text) rest h = h

other_leaves : (directive : Directive) (now : Around) (name bytes : List ℕ)
    → Leaves (length bytes) (other_effect directive now name bytes)
unfolding other_effect
other_leaves Define now name bytes = define_leaves (length bytes) (after_line_blanks bytes) (after_run_within is_line_blank bytes)
other_leaves Undef now name bytes = undef_leaves (length bytes) now (after_blanks bytes) (after_run_within is_blank bytes)
other_leaves Include now name bytes = tt
other_leaves Skipped now name bytes = after_run_within is_no_newline bytes
other_leaves Use now name bytes = use_leaves (length bytes) (now.macros name) bytes (omega arith)

chosen_leaves : (branching : Option Branching) (taken_here : Bool) (place : Place) (now : Around) (name bytes : List ℕ)
    → Leaves (length bytes) (chosen_effect branching taken_here place now name bytes)
chosen_leaves (Some branching) taken_here place now name bytes = condition_leaves branching place now bytes
chosen_leaves None true place now name bytes = other_leaves (directive_of name) now name bytes
chosen_leaves None false place now name bytes = omega arith

directive_leaves : (taken_here : Bool) (place : Place) (now : Around) (bytes : List ℕ)
    → Leaves (length bytes) (directive_effect taken_here place now bytes)
unfolding directive_effect
directive_leaves taken_here place now bytes =
    leaves_more (length (after_name bytes)) (length bytes) _ (dropped _ bytes)
    (chosen_leaves (branching_of (name_of bytes)) taken_here place now (name_of bytes) (after_name bytes))

token_leaves : (n : ℕ) (place : Place) (now : Around) (kind : TokenKind) (rest : List ℕ) → length rest ≤ n
    → Leaves n (token_effect place now kind rest)
unfolding token_effect
token_leaves n place now kind rest h = leaves_either n _ (Goes _ rest) (Stops _) h tt

shorter : (text rest : List ℕ) → IsRest text rest → length rest + 1 ≤ length text
shorter text rest b = omega (arith, ap length b.1, length-append b.0 rest, b.2)

-- ---- numbers

none_or : (n : ℕ) → (n ≡ 0) ⊎ (0 < n)
none_or zero = inl refl
none_or (suc n) = inr (omega arith)

-- the text of a macro that is used is read, or there is a fault
data UseCases (spot : Spot) (now : Around) (body : List ℕ) : Type 0 where
  admitted : use_fault spot now body ≡ None → spot.depth < 16 → UseCases spot now body
  refused : (kind : LexKind) → use_fault spot now body ≡ Some kind → UseCases spot now body

use_cases : (spot : Spot) (now : Around) (body : List ℕ) → UseCases spot now body
unfolding use_fault
use_cases spot now body = elim (cases_lt spot.depth 16) [
  | inr deep ↦ refused MacroDepth (rw (le-leb 16 spot.depth deep) refl)
  | inl lt ↦
      let bytes = now.macro_bytes + length body in
      elim (cases_lt (2 ^ 26) bytes) [
        | inl many ↦ refused TooMany (rw (lt-leb 16 spot.depth lt, lt-ltb (2 ^ 26) bytes many) refl)
        | inr fits ↦ admitted (rw (lt-leb 16 spot.depth lt, le-ltb (2 ^ 26) bytes fits) refl) lt
      ]
]

-- ---- an element

record Found (place : Place) (now : Around) (text : List ℕ) : Type 0 where
  effect : Effect
  does : Does place now text effect
  leaves : Leaves (length text - 1) effect

module _ (begins : BeginsSome) (begins_takes : BeginsTakes) (passes : PassesSome) (passes_takes : PassesTakes)
    (macro_texts : MacroTextsSome) where
  taken_leaves : (place : Place) (now : Around) (text : List ℕ) (seen : Seen) → Begins text seen
      → Leaves (length text - 1) (taken_effect place now seen)
  taken_leaves place now text (Ok (lexemes.Blank, rest)) b = omega
      (arith, shorter text rest (begins_takes text lexemes.Blank rest b))
  taken_leaves place now text (Ok (lexemes.Token kind, rest)) b =
      token_leaves _ place now kind rest (omega (arith, shorter text rest (begins_takes text (lexemes.Token kind) rest b)))
  taken_leaves place now text (Ok (lexemes.Directive, rest)) b =
      leaves_more (length rest) (length text - 1) _
      (omega (arith, shorter text rest (begins_takes text lexemes.Directive rest b))) (directive_leaves true place now rest)
  taken_leaves place now text (Err fault) b = tt

  passed_leaves : (place : Place) (now : Around) (text : List ℕ) (seen : SeenPassing) → Passes text seen
      → Leaves (length text - 1) (passed_effect place now seen)
  passed_leaves place now text (Ok (passed_kinds.Text, rest)) b = omega
      (arith, shorter text rest (passes_takes text passed_kinds.Text rest b))
  passed_leaves place now text (Ok (passed_kinds.Directive, rest)) b =
      leaves_more (length rest) (length text - 1) _
      (omega (arith, shorter text rest (passes_takes text passed_kinds.Directive rest b)))
      (directive_leaves false place now rest)
  passed_leaves place now text (Err fault) b = tt

  found : (place : Place) (now : Around) (text : List ℕ) → 0 < length text → Found place now text
  found place now text some = elim (cases_Bool (is_taken now.conditions)) [
    | inl is ↦ let b = begins text some
        in record {
          effect = taken_effect place now b.0;
          does = taken b.0 is b.1 refl;
          leaves = taken_leaves place now text
              b.0 b.1;
        }
    | inr other ↦ let b = passes text some
        in record {
          effect = passed_effect place now b.0;
          does = passed b.0 other b.1 refl;
          leaves = passed_leaves place now
              text b.0 b.1;
        }
  ]

  -- ---- the text, by how deep uses can still nest and by its length

  abbrev Ends : Spot → Around → List ℕ → Type 0
  Ends spot now text = (end : End) × Reads spot now text end

  -- the text of a macro that is used here is read to an end
  abbrev Inner : ℕ → Type 0
  Inner k = (spot : Spot) (now : Around) (body : List ℕ) → 16 ≤ spot.depth + k → spot.depth < 16 → Ends (nested spot) now body

  use_ends : (spot : Spot) (now : Around) (text body rest : List ℕ) → 0 < length text
      → Does spot.place now text (Uses body rest) → use_fault spot now body ≡ None
      → Ends (nested spot) (with_use now body) body → ((next : Around) → Ends (moved spot (before text rest)) next rest) → Ends spot now text
  use_ends spot now text body rest some d fits (Ended next, inner) on = let e = on next
      in (e.0, uses body rest next some d fits inner e.1)
  use_ends spot now text body rest some d fits (Stopped fault, inner)
      on = (Stopped fault, use_stops body rest fault some d fits inner refl)

  after_run_ends : (k : ℕ) → Inner k → (spot : Spot) (now : Around) (text : List ℕ) (effect : Effect) → 16 ≤ spot.depth + k
      → 0 < length text → Does spot.place now text effect
      → Leaves (length text - 1) effect
      → ((after : Spot) (next : Around) (rest : List ℕ) → after.depth ≡ spot.depth → length rest ≤ length text - 1
      → Ends after next rest) → Ends spot now text
  after_run_ends k inner spot now text (Goes next rest) deep some d h on =
      let e = on (moved spot (before text rest)) next rest (moved_depth spot (before text rest)) h
      in (e.0, goes next rest some d e.1)
  after_run_ends k inner spot now text (Defines name bytes) deep some d h on =
      let s = macro_texts bytes in
      let e = on (moved spot (before text s.1)) (with_macro now name (Some s.0)) s.1 (moved_depth spot (before text s.1))
      (omega (arith, h, ap length s.2.parts, length-append s.2.front s.1)) in
      (e.0, defines name bytes s.0 s.1 some d s.2 e.1)
  after_run_ends k inner spot now text (Uses body rest) deep some d h on =
      elim (use_cases spot now body) [
        | admitted fits lt ↦ use_ends spot now text body rest some d fits (inner spot (with_use now body) body deep lt)
            (λ next. on (moved spot (before text rest)) next rest (moved_depth spot (before text rest)) h)
        | refused kind why ↦ (Stopped (fault_at kind spot), use_refused body rest kind some d why refl)
      ]
  after_run_ends k inner spot now text (Stops kind) deep some d h on = (Stopped (fault_at kind spot), stops kind some d refl)

  row : (k : ℕ) → Inner k → (n : ℕ) (spot : Spot) (now : Around) (text : List ℕ) → 16 ≤ spot.depth + k → length text ≤ n
      → Ends spot now text
  row k inner zero spot now text deep h = (Ended now, ends (omega (arith, h)) refl)
  row k inner (suc n) spot now text deep h =
      elim (none_or (length text)) [
        | inl none ↦ (Ended now, ends none refl)
        | inr some ↦
            let f = found spot.place now text some in
            after_run_ends k inner spot now text f.effect deep some f.does f.leaves
            (λ after next rest same less. row k inner n after next rest (omega (arith, deep, same))
            (omega (arith, less, h, some)))
      ]

  rows : (k : ℕ) → Inner k
  rows zero spot now body deep lt = absurd (omega (arith, deep, lt))
  rows (suc k) spot now body deep lt = row k (rows k) (length body) (nested spot) now body (omega (arith, deep)) (omega arith)

  whole : (text : List ℕ) → Ends first_spot nothing_yet text
  whole text = row 16 (rows 16) (length text) first_spot nothing_yet text (omega arith) (omega arith)

  -- a list is empty, or has a last item
  last_of : (conditions : List Condition)
      → (conditions ≡ []) ⊎ ((inner : List Condition) × (outer : Condition) × (conditions ≡ inner ++ outer ∷ []))
  last_of [] = inl refl
  last_of (condition ∷ more) = elim (last_of more) [
    | inl none ↦ inr ([], condition, ap (λ (cs : List Condition). condition ∷ cs) none)
    | inr l ↦ inr (condition ∷ l.0, l.1, ap (λ (cs : List Condition). condition ∷ cs) l.2)
  ]

  ended : (text : List ℕ) → Ends first_spot nothing_yet text
      → ((tokens : List Token) × IsTokens text tokens) ⊎ ((fault : LexFault) × IsFirstFault text fault)
  ended text (Stopped fault, reads) = inr (fault, stopped reads)
  ended text (Ended last, reads) = elim (last_of last.conditions) [
    | inl none ↦ inl (last.tokens, record { last = last; reads = reads; closed = none; tokens_are = refl })
    | inr l ↦ inr (_, open_end last l.0 l.1 reads l.2 refl)
  ]

  pub tokens_are_some : TokensAreSome
  tokens_are_some text = ended text (whole text)
