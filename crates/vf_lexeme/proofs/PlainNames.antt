-- Plain names at the front of a text.
use Rattle.std.proofs.Common.{◌≡◌, ℕ, ◌==◌, ◌||◌, ◌≤◌, true, false, List, [], ◌∷◌, ◌++◌, length, get_or, refl, ap, sym, subst, ◌∙◌, inl, inr, arith}
use Rattle.std.specs.List.{list_all}
use Rattle.std.proofs.lemmas.Bool.{or_cases, or_left, or_right, and_from, both_ways}
use Rattle.vf_number.specs.Runs.{run, after_run}
use Rattle.vf_number.proofs.CallerLemmas.{run_all, run_parts, after_run_ends, run_of, after_run_of}
use Rattle.vf_lexeme.specs.Bytes.{is_letter, is_digit, begins_name, is_name_byte, Ends}
use Rattle.vf_lexeme.specs.Words.{IsName, IsNameAt, named, unnamed}

pub first_in_name : (first : ℕ) → begins_name first ≡ true → is_name_byte first ≡ true
first_in_name first h = elim (or_cases (is_letter first) (first == 95) h) [
  | inl letter ↦ rw letter refl
  | inr under ↦ or_left (is_letter first || is_digit first || first == 95) (first == 36)
      (or_right (is_letter first || is_digit first) (first == 95) under)
]

pub is_name_front : (first : ℕ) (rest : List ℕ) → begins_name first ≡ true → IsName (run is_name_byte (first ∷ rest))
unfolding run
is_name_front first rest h = rw (first_in_name first h) (h, run_all is_name_byte rest)

pub named_front : (text front rest : List ℕ) → 1 ≤ length text → begins_name (get_or text 0 0) ≡ true
    → front ≡ run is_name_byte text → rest ≡ after_run is_name_byte text → IsNameAt text front rest
named_front [] front rest some h e f = absurd (omega arith)
named_front (first ∷ more) front rest some h e f =
    rw (e, f) (named (is_name_front first more h) (after_run_ends is_name_byte (first ∷ more))
    (run_parts is_name_byte (first ∷ more)))

pub unnamed_front : (text : List ℕ) → 1 ≤ length text → begins_name (get_or text 0 0) ≡ false → IsNameAt text [] text
unnamed_front [] some h = unnamed tt refl refl
unnamed_front (first ∷ rest) some h = unnamed h refl refl

-- ---- one name

named_run : (n rest : List ℕ) → IsName n → Ends is_name_byte rest → (run is_name_byte (n ++ rest) ≡ n)
    × (after_run is_name_byte (n ++ rest) ≡ rest)
named_run [] rest is ends = absurd is
named_run (b ∷ n) rest is ends =
    let all = and_from (is_name_byte b) (list_all is_name_byte n) (first_in_name b is.0) is.1 in
    (run_of is_name_byte (b ∷ n) rest all ends, after_run_of is_name_byte (b ∷ n) rest all ends)

both_kinds : (n rest : List ℕ) → IsName n → Ends begins_name (n ++ rest) → ⊥
both_kinds [] rest is ends = is
both_kinds (b ∷ n) rest is ends = both_ways (begins_name b) ends is.0

pub names_once : (text name rest other more : List ℕ) → IsNameAt text name rest → IsNameAt text other more → (name ≡ other)
    × (rest ≡ more)
names_once text n rest other more (named is ends e) (named is2 ends2 e2) =
    let a = named_run n rest is ends in
    let b = named_run other more is2 ends2 in
    let same : n ++ rest ≡ other ++ more = sym e ∙ e2 in
    (sym a.0 ∙ ap (run is_name_byte) same ∙ b.0, sym a.1 ∙ ap (after_run is_name_byte) same ∙ b.1)
names_once text n rest other more (named is ends e) (unnamed none f g) =
    absurd (both_kinds n rest is (subst (Ends begins_name) e none))
names_once text n rest other more (unnamed none f g) (named is ends e) =
    absurd (both_kinds other more is (subst (Ends begins_name) e none))
names_once text n rest other more (unnamed none f g) (unnamed none2 f2 g2) = (f ∙ sym f2, g ∙ sym g2)
