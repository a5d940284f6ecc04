-- What is passed over at the front of a text that is not taken is what `passed_at` reads there, and nothing else.
use Rattle.std.proofs.Common.{◌≡◌, ℕ, ◌<◌, ◌==◌, true, false, eqb, List, [], ◌∷◌, ◌++◌, length, Option, Some, None, Result, Ok, Err, refl, sym, ap, ◌∙◌, inl, inr, subst, arith}
use Rattle.std.specs.Result.{IfOk, IfErr}
use Rattle.std.proofs.lemmas.Bool.{cases_Bool, eqb-true, eqb-false, ne_eqb, false_from_ne_true}
use Rattle.vf_number.specs.Runs.{run, after_run}
use Rattle.vf_number.specs.Reading.{Shows}
use Rattle.vf_number.proofs.CallerLemmas.{run_parts, run_all, after_run_ends, after_run_of, after_shorter}
use Rattle.vf_lexeme.specs.declared.kinds.Passed.{Passed}
use Rattle.vf_lexeme.specs.declared.kinds.Passed.TheVariants as passed
use Rattle.vf_lexeme.specs.declared.kinds.OpenFault.{OpenFault}
use Rattle.vf_lexeme.specs.declared.kinds.OpenFault.TheVariants as open_faults
use Rattle.vf_lexeme.specs.Bytes.{is_no_blank}
use Rattle.vf_lexeme.specs.Strings.{IsQuoted}
use Rattle.vf_lexeme.specs.Lexemes.{SeenPassing, Passes, pass_directive, pass_skipped, pass_open_comment, pass_quoted, pass_open_string, pass_escaped, pass_other}
use Rattle.vf_lexeme.specs.Reading as reading
use Rattle.vf_lexeme.specs.Reading.{opens_skip, after_skip, inside_at, decoded, passed_at}
use Rattle.vf_lexeme.proofs.Skipping.{skip_sound, open_sound, skip_complete, open_complete, opens_not, opens_sound}
use Rattle.vf_lexeme.proofs.Quoting.{string_sound, string_complete}
use Rattle.vf_lexeme.proofs.Taking.{passes_takes}
use Rattle.vf_lexeme.proofs.Lexing.{string_none, skip_front, skip_byte_cases}

-- ---- soundness

string_by : (text : List ℕ) (o : Option (List ℕ × List ℕ)) → inside_at false text ≡ o
    → Passes (34 ∷ text) (reading.passing_string o)
string_by text (Some p) h = pass_quoted text (decoded 0 p.0) p.1 (string_sound text p.0 p.1 h) refl refl
string_by text None h = pass_open_string text (string_none text h) refl refl

skip_by : (text : List ℕ) (o : Option (List ℕ)) → opens_skip text ≡ true → after_skip text ≡ o
    → Passes text (reading.passing_skip o)
skip_by text (Some rest) h e = pass_skipped rest (skip_sound text rest h e) refl
skip_by text None h e = pass_open_comment (open_sound text h e) refl

escaped_by : (rest : List ℕ) → Passes (92 ∷ rest) (Ok (passed.Text, after_run is_no_blank rest))
escaped_by rest = pass_escaped (run is_no_blank rest) (after_run is_no_blank rest) (run_all is_no_blank rest)
    (after_run_ends is_no_blank rest) (ap (λ (t : List ℕ). 92 ∷ t) (run_parts is_no_blank rest)) refl

pub passed_sound : (text : List ℕ) → 0 < length text → Passes text (passed_at text)
unfolding passed_at reading.passed_string reading.passed_skip
passed_sound [] some = absurd (omega arith)
passed_sound (first ∷ rest) some = elim (cases_Bool (eqb first 96)) [
  | inl g ↦ rw (eqb-true first 96 g) (pass_directive rest refl refl)
  | inr g ↦ elim (cases_Bool (eqb first 34)) [
    | inl q ↦ rw (g, eqb-true first 34 q) (string_by rest (inside_at false rest) refl)
    | inr q ↦ elim (cases_Bool (eqb first 92)) [
      | inl e ↦ rw (g, q, eqb-true first 92 e) (escaped_by rest)
      | inr e ↦ elim (cases_Bool (opens_skip (first ∷ rest))) [
        | inl s ↦ rw (g, q, e, s) (skip_by (first ∷ rest) (after_skip (first ∷ rest)) s refl)
        | inr s ↦ rw (g, q, e, s) (pass_other first rest (eqb-false first 96 g) (eqb-false first 34 q) (eqb-false first 92 e)
            (opens_not (first ∷ rest) s) refl refl)
      ]
    ]
  ]
]

-- ---- completeness

at_grave : (rest : List ℕ) → passed_at (96 ∷ rest) ≡ Ok (passed.Directive, rest)
unfolding passed_at
at_grave rest = refl

at_quote : (rest : List ℕ) → passed_at (34 ∷ rest) ≡ reading.passing_string (inside_at false rest)
unfolding passed_at reading.passed_string
at_quote rest = refl

at_backslash : (rest : List ℕ) → passed_at (92 ∷ rest) ≡ Ok (passed.Text, after_run is_no_blank rest)
unfolding passed_at
at_backslash rest = refl

at_skip_byte : (b : ℕ) (rest : List ℕ) → (b == 96) ≡ false → (b == 34) ≡ false → (b == 92) ≡ false → opens_skip (b ∷ rest) ≡ true
    → passed_at (b ∷ rest) ≡ reading.passing_skip (after_skip (b ∷ rest))
unfolding passed_at reading.passed_skip
at_skip_byte b rest g q e h = rw (g, q, e, h) refl

at_other : (b : ℕ) (rest : List ℕ) → (b == 96) ≡ false → (b == 34) ≡ false → (b == 92) ≡ false → opens_skip (b ∷ rest) ≡ false
    → passed_at (b ∷ rest) ≡ Ok (passed.Text, rest)
unfolding passed_at
at_other b rest g q e h = rw (g, q, e, h) refl

at_skip : (text : List ℕ) → opens_skip text ≡ true → passed_at text ≡ reading.passing_skip (after_skip text)
at_skip text h =
    let f = skip_front text h in
    let c = skip_byte_cases f.0 f.3 in
    ap passed_at f.2 ∙ at_skip_byte f.0 f.1 c.0 c.1 c.2 (sym (ap opens_skip f.2) ∙ h)
    ∙ ap (λ t. reading.passing_skip (after_skip t)) (sym f.2)

open_string_seen : (text : List ℕ) (o : Option (List ℕ × List ℕ)) → inside_at false text ≡ o
    → ((value rest : List ℕ) → IsQuoted text value rest → ⊥) → reading.passing_string o ≡ Err open_faults.String
open_string_seen text (Some p) e h = absurd (h (decoded 0 p.0) p.1 (string_sound text p.0 p.1 e))
open_string_seen text None e h = refl

pub passed_complete : (text : List ℕ) (seen : SeenPassing) → Passes text seen → passed_at text ≡ seen
passed_complete text seen (pass_directive rest e s) = ap passed_at e ∙ at_grave rest ∙ sym s
passed_complete text seen (pass_skipped rest is s) =
    let p = skip_complete text rest is in
    at_skip text p.0 ∙ ap reading.passing_skip p.1 ∙ sym s
passed_complete text seen (pass_open_comment is s) =
    let p = open_complete text is in
    at_skip text p.0 ∙ ap reading.passing_skip p.1 ∙ sym s
passed_complete text seen (pass_quoted after_quote value rest q e s) =
    let p = string_complete after_quote value rest q in
    ap passed_at e ∙ at_quote after_quote ∙ ap reading.passing_string p.1 ∙ sym s
passed_complete text seen (pass_open_string after_quote h e s) =
    ap passed_at e ∙ at_quote after_quote ∙ open_string_seen after_quote (inside_at false after_quote) refl h ∙ sym s
passed_complete text seen (pass_escaped n rest all ends e s) =
    ap passed_at e ∙ at_backslash (n ++ rest) ∙ ap (λ (t : List ℕ). Ok (passed.Text, t)) (after_run_of is_no_blank n rest all ends)
    ∙ sym s
passed_complete text seen (pass_other b rest x y z h e s) =
    let none : opens_skip text ≡ false = false_from_ne_true (opens_skip text) (λ o. h (opens_sound text o)) in
    ap passed_at e ∙ at_other b rest (ne_eqb b 96 x) (ne_eqb b 34 y) (ne_eqb b 92 z) (sym (ap opens_skip e) ∙ none) ∙ sym s

pub passes_once : (text : List ℕ) (seen other : SeenPassing) → Passes text seen → Passes text other → seen ≡ other
passes_once text seen other a b = sym (passed_complete text seen a) ∙ passed_complete text other b

-- ---- what the code answers

pub found_from : {A : Type 0} (view : A → Passed × List ℕ) (text : List ℕ) (r : Result A OpenFault) → 0 < length text
    → Shows view r (passed_at text) → IfOk r (λ x. Passes text (Ok (view x)))
found_from view text (Ok x) some h = subst (λ s. Passes text s) h (passed_sound text some)
found_from view text (Err e) some h = tt

pub shorter_from : {A : Type 0} (view : A → Passed × List ℕ) (text : List ℕ) (r : Result A OpenFault) → 0 < length text
    → Shows view r (passed_at text) → IfOk r (λ x. length (view x).1 < length text)
shorter_from view text (Ok x) some h =
    after_shorter text (view x).1 (passes_takes text (Ok (view x)) (subst (λ s. Passes text s) h (passed_sound text some)))
shorter_from view text (Err e) some h = tt

pub refused_from : {A : Type 0} (view : A → Passed × List ℕ) (text : List ℕ) (r : Result A OpenFault) → 0 < length text
    → Shows view r (passed_at text) → IfErr r (λ e. Passes text (Err e))
refused_from view text (Ok x) some h = tt
refused_from view text (Err e) some h = subst (λ s. Passes text s) h (passed_sound text some)
