-- Comments and attributes.
use Rattle.std.proofs.Common.{◌≡◌, ◌≢◌, ℕ, ◌<◌, ◌&&◌, ◌||◌, true, false, not, eqb, List, [], ◌∷◌, ◌++◌, ◌⊎◌, length, Option, Some, None, codes, refl, sym, ap, ◌∙◌, inl, inr, subst, arith}
use Rattle.std.specs.List.{list_all}
use Rattle.std.proofs.lemmas.Bool.{cases_Bool, and_parts, or_cases, eqb-true, eq-eqb, both_ways, not-true}
use Rattle.std.proofs.lemmas.List.{length-append}
use Rattle.vf_number.specs.Runs.{begins_with, run, after_run}
use Rattle.vf_number.proofs.CallerLemmas.{run_parts, run_all, after_run_ends, after_run_of}
use Rattle.vf_lexeme.specs.Bytes.{is_no_newline, Ends, Lacks}
use Rattle.vf_lexeme.specs.Signs.{is_close, OpensSkip, opens_line, opens_block, opens_attribute, IsSkipped, line, block, attribute, IsOpen, open_block, open_attribute}
use Rattle.vf_lexeme.specs.Reading.{opens_skip, after_close, after_first_close, after_skip, or_else}

-- ---- the first mark

pub star_here : (close first : ℕ) (more text after : List ℕ) → text ≡ first ∷ more → after_close close text ≡ Some after
    → after_first_close close text ≡ Some after
unfolding after_first_close
star_here close first more text after e h =
    rw e (ap (λ o. or_else o (after_first_close close more)) (sym (ap (after_close close) e) ∙ h))

pub star_later : (close first : ℕ) (more text : List ℕ) → text ≡ first ∷ more → after_close close text ≡ None
    → after_first_close close text ≡ after_first_close close more
unfolding after_first_close
star_later close first more text e h = rw e (ap (λ o. or_else o (after_first_close close more)) (sym (ap (after_close close) e) ∙ h))

pub star_nowhere : (close : ℕ) (text : List ℕ) → text ≡ [] → after_first_close close text ≡ None
unfolding after_first_close
star_nowhere close text e = rw e refl

-- the mark in front, or none
some_star : (close a b : ℕ) (rest after : List ℕ) → after_close close (a ∷ b ∷ rest) ≡ Some after → (a ≡ 42) × (b ≡ close)
    × (after ≡ rest)
unfolding after_close
some_star close a b rest after h = elim (cases_Bool (eqb a 42 && eqb b close)) [
  | inl here ↦
      let same : Some rest ≡ Some after = rw here at h in
      let p = and_parts (eqb a 42) (eqb b close) here in
      (eqb-true a 42 p.0, eqb-true b close p.1, cc)
  | inr other ↦ let none : None ≡ Some after = rw other at h in absurd cc
]

star_in_front : (close : ℕ) (rest : List ℕ) → after_close close (42 ∷ close ∷ rest) ≡ Some rest
unfolding after_close
star_in_front close rest = rw (eq-eqb close close refl) refl

-- only two bytes count
same_front : (close a b : ℕ) (rest other : List ℕ) → after_close close (a ∷ b ∷ rest) ≡ None
    → after_close close (a ∷ b ∷ other) ≡ None
unfolding after_close
same_front close a b rest other h = elim (cases_Bool (eqb a 42 && eqb b close)) [
  | inl here ↦ let some : Some rest ≡ None = rw here at h in absurd cc
  | inr none ↦ rw none refl
]

abbrev mark : ℕ → List ℕ
mark close = 42 ∷ close ∷ []

short_lacks : (close : ℕ) (text : List ℕ) → length text < 2 → Lacks (mark close) text
short_lacks close text h front back e =
    let size = ap length e in
    absurd (omega (arith, length-append front (42 ∷ close ∷ back)))

longer_lacks : (close b : ℕ) (rest : List ℕ) → after_close close (b ∷ rest) ≡ None → Lacks (mark close) rest
    → Lacks (mark close) (b ∷ rest)
longer_lacks close b rest h lacks [] back e =
    let whole : after_close close (b ∷ rest) ≡ Some back = ap (after_close close) e ∙ star_in_front close back in
    let clash : Some back ≡ None = sym whole ∙ h in
    absurd cc
longer_lacks close b rest h lacks (c ∷ front) back e = lacks front back cc

tail_lacks : (close b : ℕ) (rest : List ℕ) → Lacks (mark close) (b ∷ rest) → Lacks (mark close) rest
tail_lacks close b rest lacks front back e = lacks (b ∷ front) back (ap (λ (t : List ℕ). b ∷ t) e)

-- the text up to the first mark, and after it
pub record IsMarked (close : ℕ) (text rest : List ℕ) : Type 0 where
  pub inside : List ℕ
  pub first : Lacks (mark close) (inside ++ codes "*")
  pub parts : text ≡ inside ++ 42 ∷ close ∷ rest

no_star_before : (close b : ℕ) (inside rest : List ℕ) → after_close close (b ∷ (inside ++ 42 ∷ close ∷ rest)) ≡ None
    → after_close close (b ∷ (inside ++ 42 ∷ [])) ≡ None
no_star_before close b [] rest h = same_front close b 42 (close ∷ rest) [] h
no_star_before close b (c ∷ inside) rest h = same_front close b c (inside ++ 42 ∷ close ∷ rest) (inside ++ 42 ∷ []) h

later_mark : (close b : ℕ) (text rest : List ℕ) → after_close close (b ∷ text) ≡ None → IsMarked close text rest
    → IsMarked close (b ∷ text) rest
later_mark close b text rest h m = record {
  inside = b ∷ m.inside;
  first = longer_lacks close b (m.inside ++ 42 ∷ [])
      (no_star_before close b m.inside rest (ap (λ (t : List ℕ). after_close close (b ∷ t)) (sym m.parts) ∙ h)) m.first;
  parts = ap (λ (t : List ℕ). b ∷ t) m.parts;
}

one_byte : (close b : ℕ) (x : List ℕ) → after_close close (b ∷ []) ≡ Some x → ⊥
unfolding after_close
one_byte close b x e = absurd cc

-- by what stands in front
step_some : (close b : ℕ) (text rest : List ℕ) (o : Option (List ℕ)) → after_close close (b ∷ text) ≡ o
    → or_else o (after_first_close close text) ≡ Some rest
    → ((r : List ℕ) → after_first_close close text ≡ Some r → IsMarked close text r) → IsMarked close (b ∷ text) rest
step_some close b [] rest (Some x) e h more = absurd (one_byte close b x e)
step_some close b (c ∷ text) rest (Some x) e h more =
    let p = some_star close b c text x e in
    let rest_is : text ≡ rest = let same : x ≡ rest = cc in sym p.2 ∙ same in
    let parts : b ∷ c ∷ text ≡ 42 ∷ close ∷ rest = cc in
    record { inside = []; first = short_lacks close (42 ∷ []) (omega arith); parts = parts }
step_some close b text rest None e h more = later_mark close b text rest e (more rest h)

pub marked : (close : ℕ) (text rest : List ℕ) → after_first_close close text ≡ Some rest → IsMarked close text rest
unfolding after_first_close
marked close [] rest h = absurd cc
marked close (b ∷ text) rest h = step_some close b text rest (after_close close (b ∷ text)) refl h (λ r. marked close text r)

step_none : (close b : ℕ) (text : List ℕ) (o : Option (List ℕ)) → after_close close (b ∷ text) ≡ o
    → or_else o (after_first_close close text) ≡ None
    → (after_first_close close text ≡ None → Lacks (mark close) text) → Lacks (mark close) (b ∷ text)
step_none close b text (Some x) e h more = absurd cc
step_none close b text None e h more = longer_lacks close b text e (more h)

pub unmarked : (close : ℕ) (text : List ℕ) → after_first_close close text ≡ None → Lacks (mark close) text
unfolding after_first_close
unmarked close [] h = short_lacks close [] (omega arith)
unmarked close (b ∷ text) h = step_none close b text (after_close close (b ∷ text)) refl h (unmarked close text)

-- and back
before_mark : (close b : ℕ) (inside rest : List ℕ) → close ≢ 42 → Lacks (mark close) (b ∷ (inside ++ 42 ∷ []))
    → (o : Option (List ℕ)) → after_close close (b ∷ (inside ++ 42 ∷ close ∷ rest)) ≡ o → o ≡ None
before_mark close b inside rest other lacks None e = refl
before_mark close b [] rest other lacks (Some x) e =
    let p = some_star close b 42 (close ∷ rest) x e in
    absurd (other (sym p.1))
before_mark close b (c ∷ inside) rest other lacks (Some x) e =
    let p = some_star close b c (inside ++ 42 ∷ close ∷ rest) x e in
    let front : b ∷ c ∷ (inside ++ 42 ∷ []) ≡ 42 ∷ close ∷ (inside ++ 42 ∷ []) = cc in
    absurd (lacks [] (inside ++ 42 ∷ []) front)

pub at_mark : (close : ℕ) (inside rest : List ℕ) → close ≢ 42 → Lacks (mark close) (inside ++ codes "*")
    → after_first_close close (inside ++ 42 ∷ close ∷ rest) ≡ Some rest
at_mark close [] rest other lacks = star_here close 42 (close ∷ rest) (42 ∷ close ∷ rest) rest refl (star_in_front close rest)
at_mark close (b ∷ inside) rest other lacks =
    let text = inside ++ 42 ∷ close ∷ rest in
    star_later close b text (b ∷ text) refl (before_mark close b inside rest other lacks (after_close close (b ∷ text)) refl)
    ∙ at_mark close inside rest other (tail_lacks close b (inside ++ 42 ∷ []) lacks)

without : (close : ℕ) (text : List ℕ) (o : Option (List ℕ)) → Lacks (mark close) text → after_first_close close text ≡ o → o ≡ None
without close text None lacks e = refl
without close text (Some rest) lacks e = let m = marked close text rest e in absurd (lacks m.inside rest m.parts)

pub at_no_mark : (close : ℕ) (text : List ℕ) → Lacks (mark close) text → after_first_close close text ≡ None
at_no_mark close text lacks = without close text (after_first_close close text) lacks refl

-- ---- what begins

pub ends_close : (rest : List ℕ) → begins_with 41 rest ≡ false → Ends is_close rest
ends_close [] h = tt
ends_close (b ∷ rest) h = h

pub no_close : (rest : List ℕ) → Ends is_close rest → begins_with 41 rest ≡ false
no_close [] h = refl
no_close (b ∷ rest) h = h

pub opens_complete : (text : List ℕ) → OpensSkip text → opens_skip text ≡ true
unfolding opens_skip
opens_complete text (opens_line rest e) = rw e refl
opens_complete text (opens_block rest e) = rw e refl
opens_complete text (opens_attribute rest ends e) = rw (e, no_close rest ends) refl

pub opens_not : (text : List ℕ) → opens_skip text ≡ false → OpensSkip text → ⊥
opens_not text h o = both_ways (opens_skip text) h (opens_complete text o)

-- the byte pairs that open one
opened : (a b : ℕ) (rest : List ℕ) → opens_skip (a ∷ b ∷ rest) ≡ true → ((a ≡ 47) × (b ≡ 47))
    ⊎ (((a ≡ 47) × (b ≡ 42)) ⊎ ((a ≡ 40) × (b ≡ 42) × (begins_with 41 rest ≡ false)))
unfolding opens_skip
opened a b rest h = elim (cases_Bool (eqb a 47)) [
  | inl slash ↦
      let second : (eqb b 47 || eqb b 42) ≡ true = rw slash at h in
      elim (or_cases (eqb b 47) (eqb b 42) second) [
        | inl s ↦ inl (eqb-true a 47 slash, eqb-true b 47 s)
        | inr s ↦ inr (inl (eqb-true a 47 slash, eqb-true b 42 s))
      ]
  | inr other ↦ elim (cases_Bool (eqb a 40 && eqb b 42)) [
    | inl both ↦
        let p = and_parts (eqb a 40) (eqb b 42) both in
        let third : not (begins_with 41 rest) ≡ true = rw (other, both) at h in
        inr (inr (eqb-true a 40 p.0, eqb-true b 42 p.1, not-true (begins_with 41 rest) third))
    | inr none ↦ let wrong : false ≡ true = rw (other, none) at h in absurd cc
  ]
]

line_front : (text : List ℕ) → IsSkipped (47 ∷ 47 ∷ text) (after_run is_no_newline text)
line_front text = line (run is_no_newline text) (run_all is_no_newline text) (after_run_ends is_no_newline text)
    (ap (λ (t : List ℕ). 47 ∷ 47 ∷ t) (run_parts is_no_newline text))

block_front : (text rest : List ℕ) → after_first_close 47 text ≡ Some rest → IsSkipped (47 ∷ 42 ∷ text) rest
block_front text rest h =
    let m = marked 47 text rest h in
    block m.inside m.first (ap (λ (t : List ℕ). 47 ∷ 42 ∷ t) m.parts)

front_ends : (inside more : List ℕ) → begins_with 41 (inside ++ 42 ∷ more) ≡ false → Ends is_close inside
front_ends [] more h = tt
front_ends (b ∷ inside) more h = h

attribute_front : (text rest : List ℕ) → begins_with 41 text ≡ false → after_first_close 41 text ≡ Some rest
    → IsSkipped (40 ∷ 42 ∷ text) rest
attribute_front text rest other h =
    let m = marked 41 text rest h in
    attribute m.inside m.first (front_ends m.inside (41 ∷ rest) (sym (ap (begins_with 41) m.parts) ∙ other))
    (ap (λ (t : List ℕ). 40 ∷ 42 ∷ t) m.parts)

one_wrong : (text : List ℕ) → length text < 2 → opens_skip text ≡ true → ⊥
unfolding opens_skip
one_wrong [] h e = absurd cc
one_wrong (a ∷ []) h e = absurd cc
one_wrong (a ∷ b ∷ text) h e = omega arith

front_closed : (inside more : List ℕ) → Ends is_close inside → begins_with 41 (inside ++ 42 ∷ more) ≡ false
front_closed [] more h = refl
front_closed (b ∷ inside) more h = h

open_front : (a b : ℕ) (rest : List ℕ) → opens_skip (a ∷ b ∷ rest) ≡ true → OpensSkip (a ∷ b ∷ rest)
open_front a b rest h = elim (opened a b rest h) [
  | inl p ↦ rw (p.0, p.1) (opens_line rest refl)
  | inr (inl p) ↦ rw (p.0, p.1) (opens_block rest refl)
  | inr (inr p) ↦ rw (p.0, p.1) (opens_attribute rest (ends_close rest p.2) refl)
]

pub opens_sound : (text : List ℕ) → opens_skip text ≡ true → OpensSkip text
opens_sound [] h = absurd (one_wrong [] (omega arith) h)
opens_sound (a ∷ []) h = absurd (one_wrong (a ∷ []) (omega arith) h)
opens_sound (a ∷ b ∷ text) h = open_front a b text h

pub skip_sound : (text rest : List ℕ) → opens_skip text ≡ true → after_skip text ≡ Some rest → IsSkipped text rest
unfolding after_skip
skip_sound [] rest h e = absurd cc
skip_sound (a ∷ []) rest h e = absurd cc
skip_sound (a ∷ b ∷ text) rest h e = elim (opened a b text h) [
  | inl p ↦
      let same : Some (after_run is_no_newline text) ≡ Some rest = rw (p.0, p.1) at e in
      let is : after_run is_no_newline text ≡ rest = cc in
      rw (p.0, p.1) (subst (λ r. IsSkipped (47 ∷ 47 ∷ text) r) is (line_front text))
  | inr (inl p) ↦ rw (p.0, p.1) (block_front text rest (rw (p.0, p.1) at e))
  | inr (inr p) ↦ rw (p.0, p.1) (attribute_front text rest p.2 (rw (p.0, p.1) at e))
]

pub open_sound : (text : List ℕ) → opens_skip text ≡ true → after_skip text ≡ None → IsOpen text
unfolding after_skip
open_sound [] h e = absurd (one_wrong [] (omega arith) h)
open_sound (a ∷ []) h e = absurd (one_wrong (a ∷ []) (omega arith) h)
open_sound (a ∷ b ∷ text) h e = elim (opened a b text h) [
  | inl p ↦ let none : Some (after_run is_no_newline text) ≡ None = rw (p.0, p.1) at e in absurd cc
  | inr (inl p) ↦ rw (p.0, p.1) (open_block text (unmarked 47 text (rw (p.0, p.1) at e)) refl)
  | inr (inr p) ↦ rw (p.0, p.1) (open_attribute text (unmarked 41 text (rw (p.0, p.1) at e)) (ends_close text p.2) refl)
]

-- ---- and all of it

line_opens : (text : List ℕ) → opens_skip (47 ∷ 47 ∷ text) ≡ true
unfolding opens_skip
line_opens text = refl

block_opens : (text : List ℕ) → opens_skip (47 ∷ 42 ∷ text) ≡ true
unfolding opens_skip
block_opens text = refl

attribute_opens : (text : List ℕ) → begins_with 41 text ≡ false → opens_skip (40 ∷ 42 ∷ text) ≡ true
unfolding opens_skip
attribute_opens text h = rw h refl

after_line : (text : List ℕ) → after_skip (47 ∷ 47 ∷ text) ≡ Some (after_run is_no_newline text)
unfolding after_skip
after_line text = refl

after_block : (text : List ℕ) → after_skip (47 ∷ 42 ∷ text) ≡ after_first_close 47 text
unfolding after_skip
after_block text = refl

after_attribute : (text : List ℕ) → after_skip (40 ∷ 42 ∷ text) ≡ after_first_close 41 text
unfolding after_skip
after_attribute text = refl

slash_no_star : ◌≢◌ {A = ℕ} 47 42
slash_no_star e = absurd (omega arith)

close_no_star : ◌≢◌ {A = ℕ} 41 42
close_no_star e = absurd (omega arith)

abbrev IsAtSkip : List ℕ → List ℕ → Type 0
IsAtSkip text rest = (opens_skip text ≡ true) × (after_skip text ≡ Some rest)

line_complete : (text inside rest : List ℕ) → list_all is_no_newline inside ≡ true → Ends is_no_newline rest
    → text ≡ 47 ∷ 47 ∷ (inside ++ rest) → IsAtSkip text rest
line_complete text inside rest all ends e = (
  ap opens_skip e ∙ line_opens (inside ++ rest),
  ap after_skip e ∙ after_line (inside ++ rest)
      ∙ ap Some (after_run_of is_no_newline inside rest all ends),
)

block_complete : (text inside rest : List ℕ) → Lacks (mark 47) (inside ++ 42 ∷ []) → text ≡ 47 ∷ 42 ∷ (inside ++ 42 ∷ 47 ∷ rest)
    → IsAtSkip text rest
block_complete text inside rest lacks e =
    let more = inside ++ 42 ∷ 47 ∷ rest in
    (ap opens_skip e ∙ block_opens more, ap after_skip e ∙ after_block more ∙ at_mark 47 inside rest slash_no_star lacks)

attribute_complete : (text inside rest : List ℕ) → Lacks (mark 41) (inside ++ 42 ∷ []) → Ends is_close inside
    → text ≡ 40 ∷ 42 ∷ (inside ++ 42 ∷ 41 ∷ rest) → IsAtSkip text rest
attribute_complete text inside rest lacks ends e =
    let more = inside ++ 42 ∷ 41 ∷ rest in (
      ap opens_skip e ∙ attribute_opens more (front_closed inside (41 ∷ rest) ends),
      ap after_skip e ∙ after_attribute more
          ∙ at_mark 41 inside rest close_no_star lacks,
    )

pub skip_complete : (text rest : List ℕ) → IsSkipped text rest → (opens_skip text ≡ true) × (after_skip text ≡ Some rest)
skip_complete text rest (line inside all ends e) = line_complete text inside rest all ends e
skip_complete text rest (block inside lacks e) = block_complete text inside rest lacks e
skip_complete text rest (attribute inside lacks ends e) = attribute_complete text inside rest lacks ends e

pub open_complete : (text : List ℕ) → IsOpen text → (opens_skip text ≡ true) × (after_skip text ≡ None)
open_complete text (open_block inside lacks e) =
    (ap opens_skip e ∙ block_opens inside, ap after_skip e ∙ after_block inside ∙ at_no_mark 47 inside lacks)
open_complete text (open_attribute inside lacks ends e) = (
  ap opens_skip e ∙ attribute_opens inside (no_close inside ends),
  ap after_skip e ∙ after_attribute inside
      ∙ at_no_mark 41 inside lacks,
)
