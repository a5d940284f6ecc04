-- The part of a macro's text at the front of bytes is what the code's functions see there, and nothing else.
use Rattle.std.proofs.Common.{◌≡◌, ◌≢◌, ℕ, true, false, not, eqb, ◌&&◌, List, [], ◌∷◌, ◌++◌, drop, Option, Some, None, Ok, Err, refl, sym, ap, ◌∙◌, inl, inr, subst, arith}
use Rattle.std.specs.List.{list_all}
use Rattle.std.proofs.lemmas.Bool.{cases_Bool, and_parts, eqb-true, eqb-false, not-true}
use Rattle.vf_lexeme.specs.declared.kinds.Passed.TheVariants as passed
use Rattle.vf_lexeme.specs.Bytes.{is_no_blank, is_no_newline, Ends, after_line}
use Rattle.vf_lexeme.specs.Laws.{PassesOnce, PassesSome}
use Rattle.vf_lexeme.specs.Lexemes.{SeenPassing, Passes, pass_directive, pass_skipped, pass_open_comment, pass_quoted, pass_open_string, pass_escaped, pass_other}
use Rattle.vf_lexeme.specs.Signs.{is_close, OpensSkip, opens_line, opens_block, opens_attribute, IsSkipped, line, block, attribute as skipped_attribute, IsOpen, open_block, open_attribute as open_mark}
use Rattle.vf_lexeme.specs.Strings.{IsQuoted}
use Rattle.vf_macro.specs.declared.scan.Inside.TheVariants as insides
use Rattle.vf_macro.specs.declared.scan.Kind.{Kind}
use Rattle.vf_macro.specs.declared.scan.Kind.TheVariants.{End, Quote, Escaped, Line, Comment, Attribute, Other}
use Rattle.vf_macro.specs.MacroText.{Straddles, Counts, EndsName, IsPart, joint, string, comment, attribute, escaped, other, IsLast, end, line_comment, open_comment, open_string, open_attribute}
use Rattle.vf_number.specs.Runs.{begins_with}
use Rattle.vf_macro.specs.Scanning.{after_joint, after_close, Runs, slash_kind, bracket_kind, kind_by, kind_at, opening, Seen, Whole, Last, closed, SeesString, whole, open_end, SeesKind, Sees}
use Rattle.vf_macro.proofs.LineLemmas.{line_of, after_line_of}
use Rattle.vf_macro.proofs.Counting.{heads, tails, joint_sound, joined_at, joint_none, joint_other, straddles_more, straddles_star}
use Rattle.vf_macro.proofs.Insides.{runs_once, runs_some, line_end, close_at, end_no_close, end_no_joint, Ending, by_mark, by_line, comment_sound, comment_runs, attribute_sound, attribute_runs, escaped_sound, escaped_none, escaped_runs}

-- what is seen at the front of the bytes stands there
abbrev pub IsSeen : List ℕ → Seen → Type 0
IsSeen bytes (Whole after) = IsPart bytes after
IsSeen bytes (Last rest) = IsLast bytes rest

-- ---- what begins the bytes

-- the byte at the front begins no other kind
record IsOther (bytes : List ℕ) : Type 0 where
  first : ℕ
  rest : List ℕ
  parts : bytes ≡ first ∷ rest
  no_newline : first ≢ 10
  no_quote : first ≢ 34
  no_backslash : first ≢ 92
  no_skip : OpensSkip bytes → ⊥

-- what the bytes of a kind are
abbrev Begins : Kind → List ℕ → Type 0
Begins End bytes = Ends is_no_newline bytes
Begins Quote bytes = (rest : List ℕ) × (bytes ≡ 34 ∷ rest)
Begins Escaped bytes = (rest : List ℕ) × (bytes ≡ 92 ∷ rest)
Begins Line bytes = (rest : List ℕ) × (bytes ≡ 47 ∷ 47 ∷ rest)
Begins Comment bytes = (rest : List ℕ) × (bytes ≡ 47 ∷ 42 ∷ rest)
Begins Attribute bytes = (rest : List ℕ) × (bytes ≡ 40 ∷ 42 ∷ rest) × (begins_with 41 rest ≡ false)
Begins Other bytes = IsOther bytes

-- a byte that no comment or attribute begins with
no_skip_at : (first : ℕ) (rest : List ℕ) → first ≢ 47 → first ≢ 40 → OpensSkip (first ∷ rest) → ⊥
no_skip_at first rest slash bracket (opens_line more e) = slash cc
no_skip_at first rest slash bracket (opens_block more e) = slash cc
no_skip_at first rest slash bracket (opens_attribute more ends e) = bracket cc

-- `/` and this byte
no_slash_skip : (second : ℕ) (rest : List ℕ) → second ≢ 47 → second ≢ 42 → OpensSkip (47 ∷ second ∷ rest) → ⊥
no_slash_skip second rest slash star (opens_line more e) = slash cc
no_slash_skip second rest slash star (opens_block more e) = star cc
no_slash_skip second rest slash star (opens_attribute more ends e) = star cc

no_close : (rest : List ℕ) → Ends is_close rest → begins_with 41 rest ≡ false
no_close [] ends = refl
no_close (first ∷ rest) ends = ends

is_no_close : (rest : List ℕ) → begins_with 41 rest ≡ false → Ends is_close rest
is_no_close [] h = tt
is_no_close (first ∷ rest) h = h

single_slash : OpensSkip (47 ∷ []) → ⊥
single_slash (opens_line more e) = cc
single_slash (opens_block more e) = cc
single_slash (opens_attribute more ends e) = cc

single_bracket : OpensSkip (40 ∷ []) → ⊥
single_bracket (opens_line more e) = cc
single_bracket (opens_block more e) = cc
single_bracket (opens_attribute more ends e) = cc

-- `(` and this byte
no_bracket_skip : (second : ℕ) (rest : List ℕ) → (eqb second 42 && not (begins_with 41 rest)) ≡ false
    → OpensSkip (40 ∷ second ∷ rest) → ⊥
no_bracket_skip second rest h (opens_line more e) = eqb-false 40 47 refl (heads 40 47 _ _ e)
no_bracket_skip second rest h (opens_block more e) = eqb-false 40 47 refl (heads 40 47 _ _ e)
no_bracket_skip second rest h (opens_attribute more ends e) =
    let both = tails 40 40 (second ∷ rest) (42 ∷ more) e in
    let second_is = heads second 42 rest more both in
    let rest_is = tails second 42 rest more both in
    let wrong : true ≡ false = rw (second_is, rest_is, no_close more ends) at h in
    cc

slash_other : (rest : List ℕ) → (OpensSkip (47 ∷ rest) → ⊥) → IsOther (47 ∷ rest)
slash_other rest h = record {
  first = 47;
  rest = rest;
  parts = refl;
  no_newline = eqb-false 47 10 refl;
  no_quote = eqb-false 47 34 refl;
  no_backslash = eqb-false 47 92 refl;
  no_skip = h;
}

bracket_other : (rest : List ℕ) → (OpensSkip (40 ∷ rest) → ⊥) → IsOther (40 ∷ rest)
bracket_other rest h = record {
  first = 40;
  rest = rest;
  parts = refl;
  no_newline = eqb-false 40 10 refl;
  no_quote = eqb-false 40 34 refl;
  no_backslash = eqb-false 40 92 refl;
  no_skip = h;
}

slash_begins : (rest : List ℕ) → Begins (slash_kind rest) (47 ∷ rest)
unfolding slash_kind
slash_begins [] = slash_other [] single_slash
slash_begins (second ∷ rest) = elim (cases_Bool (eqb second 47)) [
  | inl slash ↦ rw slash (rest, ap (λ b. 47 ∷ b ∷ rest) (eqb-true second 47 slash))
  | inr no_slash ↦ elim (cases_Bool (eqb second 42)) [
    | inl star ↦ rw (no_slash, star) (rest, ap (λ b. 47 ∷ b ∷ rest) (eqb-true second 42 star))
    | inr no_star ↦ rw (no_slash, no_star) (slash_other (second ∷ rest)
        (no_slash_skip second rest (eqb-false second 47 no_slash) (eqb-false second 42 no_star)))
  ]
]

bracket_begins : (rest : List ℕ) → Begins (bracket_kind rest) (40 ∷ rest)
unfolding bracket_kind
bracket_begins [] = bracket_other [] single_bracket
bracket_begins (second ∷ rest) = elim (cases_Bool (eqb second 42 && not (begins_with 41 rest))) [
  | inl both ↦
      let p = and_parts (eqb second 42) (not (begins_with 41 rest)) both in
      rw both (rest, ap (λ b. 40 ∷ b ∷ rest) (eqb-true second 42 p.0), not-true (begins_with 41 rest) p.1)
  | inr none ↦ rw none (bracket_other (second ∷ rest) (no_bracket_skip second rest none))
]

kind_begins : (first : ℕ) (rest : List ℕ) → Begins (kind_by first rest) (first ∷ rest)
unfolding kind_by
kind_begins first rest = elim (cases_Bool (eqb first 10)) [
  | inl newline ↦ rw newline (rw newline refl)
  | inr no_newline ↦ elim (cases_Bool (eqb first 34)) [
    | inl quote ↦ rw (no_newline, quote) (rest, ap (λ b. b ∷ rest) (eqb-true first 34 quote))
    | inr no_quote ↦ elim (cases_Bool (eqb first 92)) [
      | inl backslash ↦ rw (no_newline, no_quote, backslash) (rest, ap (λ b. b ∷ rest) (eqb-true first 92 backslash))
      | inr no_backslash ↦ elim (cases_Bool (eqb first 47)) [
        | inl slash ↦ rw (no_newline, no_quote, no_backslash, slash)
            (subst (λ b. Begins (slash_kind rest) (b ∷ rest)) (sym (eqb-true first 47 slash)) (slash_begins rest))
        | inr no_slash ↦ elim (cases_Bool (eqb first 40)) [
          | inl bracket ↦ rw (no_newline, no_quote, no_backslash, no_slash, bracket)
              (subst (λ b. Begins (bracket_kind rest) (b ∷ rest)) (sym (eqb-true first 40 bracket)) (bracket_begins rest))
          | inr no_bracket ↦ rw (no_newline, no_quote, no_backslash, no_slash, no_bracket) (record {
            first = first;
            rest = rest;
            parts = refl;
            no_newline = eqb-false first 10 no_newline;
            no_quote = eqb-false first 34 no_quote;
            no_backslash = eqb-false first 92 no_backslash;
            no_skip = no_skip_at first rest (eqb-false first 47 no_slash) (eqb-false first 40 no_bracket);
          })
        ]
      ]
    ]
  ]
]

begins : (bytes : List ℕ) → Begins (kind_at bytes) bytes
unfolding kind_at
begins [] = tt
begins (first ∷ rest) = kind_begins first rest

-- ---- what is seen is a part

quote_sound : (quoted : List ℕ) (found : Seen) → SeesString quoted found → IsSeen (34 ∷ quoted) found
quote_sound quoted found (whole value after q is) = rw is (string quoted value q refl)
quote_sound quoted found (open_end none is) =
    let l = line_of quoted in
    rw is (open_string l.inside (λ value after q. none value after (subst (λ t. IsQuoted t value after) (sym l.parts) q))
    l.in_line l.ends (ap (λ (t : List ℕ). 34 ∷ t) l.parts))

escaped_found : (bytes rest : List ℕ) → after_joint (92 ∷ bytes) ≡ None → Runs insides.Escaped bytes rest → IsPart (92 ∷ bytes) rest
escaped_found bytes rest none r =
    let i = escaped_sound 92 bytes rest none r in
    escaped i.name i.no_blank i.ending i.border (ap (λ (t : List ℕ). 92 ∷ t) i.parts)

line_found : (bytes : List ℕ) → IsLast (47 ∷ 47 ∷ bytes) (after_line bytes)
line_found bytes =
    let l = line_of bytes in
    line_comment l.inside l.in_line l.ends (ap (λ (t : List ℕ). 47 ∷ 47 ∷ t) l.parts)

comment_by : (bytes inside rest : List ℕ) → bytes ≡ inside ++ rest → list_all is_no_newline inside ≡ true → Ending 47 inside rest
    → IsSeen (47 ∷ 42 ∷ bytes) (closed (after_close 47 rest) rest)
comment_by bytes inside rest e all (by_mark after lacks is) =
    rw (is, close_at 47 after)
    (comment inside all lacks (ap (λ (t : List ℕ). 47 ∷ 42 ∷ t) (e ∙ ap (λ t. inside ++ t) is)))
comment_by bytes inside rest e all (by_line lacks ends) =
    rw (end_no_close 47 rest ends) (open_comment inside all lacks ends (ap (λ (t : List ℕ). 47 ∷ 42 ∷ t) e))

front_open : (inside rest : List ℕ) → begins_with 41 (inside ++ rest) ≡ false → Ends is_close inside
front_open [] rest h = tt
front_open (first ∷ inside) rest h = h

attribute_by : (bytes inside text rest : List ℕ) → begins_with 41 bytes ≡ false → bytes ≡ inside ++ rest → Counts inside text
    → (Straddles inside rest → ⊥) → Ending 41 inside rest → IsSeen (40 ∷ 42 ∷ bytes) (closed (after_close 41 rest) rest)
attribute_by bytes inside text rest h e counts border (by_mark after lacks is) =
    rw (is, close_at 41 after)
    (attribute inside text counts lacks (front_open inside rest (sym (ap (begins_with 41) e) ∙ h))
    (ap (λ (t : List ℕ). 40 ∷ 42 ∷ t) (e ∙ ap (λ t. inside ++ t) is)))
attribute_by bytes inside text rest h e counts border (by_line lacks ends) =
    rw (end_no_close 41 rest ends)
    (open_attribute inside text counts lacks (front_open inside rest (sym (ap (begins_with 41) e) ∙ h)) ends border
    (ap (λ (t : List ℕ). 40 ∷ 42 ∷ t) e))

escaped_kind : (bytes : List ℕ) (found : Seen) → after_joint (92 ∷ bytes) ≡ None → SeesKind Escaped bytes found
    → IsSeen (92 ∷ bytes) found
escaped_kind bytes found none s = rw s.2 (escaped_found bytes s.0 none s.1)

comment_kind : (bytes : List ℕ) (found : Seen) → SeesKind Comment bytes found → IsSeen (47 ∷ 42 ∷ bytes) found
comment_kind bytes found s =
    let i = comment_sound bytes s.0 s.1 in
    rw s.2 (comment_by bytes i.inside s.0 i.parts i.in_line i.ending)

attribute_kind : (bytes : List ℕ) (found : Seen) → begins_with 41 bytes ≡ false → SeesKind Attribute bytes found
    → IsSeen (40 ∷ 42 ∷ bytes) found
attribute_kind bytes found h s =
    let i = attribute_sound bytes s.0 s.1 in
    rw s.2 (attribute_by bytes i.inside i.text s.0 h i.parts i.counts i.border i.ending)

other_kind : (bytes : List ℕ) (found : Seen) (o : IsOther bytes) → found ≡ Whole o.rest → IsSeen bytes found
other_kind bytes found o is = rw is (other o.first o.no_newline o.no_quote o.no_backslash o.no_skip o.parts)

kind_sound : (kind : Kind) (bytes : List ℕ) (found : Seen) → after_joint bytes ≡ None → Begins kind bytes
    → SeesKind kind (drop (opening kind) bytes) found → IsSeen bytes found
kind_sound End bytes found none b is = rw is (end b refl)
kind_sound Quote bytes found none b s = rw b.1 (quote_sound b.0 found (rw b.1 at s))
kind_sound Escaped bytes found none b s = rw b.1 (escaped_kind b.0 found (rw b.1 at none) (rw b.1 at s))
kind_sound Line bytes found none b s =
    let is : found ≡ Last (after_line b.0) = rw b.1 at s in
    rw (b.1, is) (line_found b.0)
kind_sound Comment bytes found none b s = rw b.1 (comment_kind b.0 found (rw b.1 at s))
kind_sound Attribute bytes found none b s = rw b.1 (attribute_kind b.0 found b.2 (rw b.1 at s))
kind_sound Other bytes found none b s =
    let is : found ≡ Whole b.rest = s ∙ ap (λ t. Whole (drop 1 t)) b.parts in
    other_kind bytes found b is

sees_by : (o : Option (List ℕ)) (bytes : List ℕ) (found : Seen) → after_joint bytes ≡ o → Sees o bytes found → IsSeen bytes found
sees_by (Some after) bytes found e is = rw is (joint (joint_sound bytes after e))
sees_by None bytes found e s = kind_sound (kind_at bytes) bytes found e (begins bytes) s

pub sees_sound : (bytes : List ℕ) (found : Seen) → Sees (after_joint bytes) bytes found → IsSeen bytes found
sees_sound bytes found s = sees_by (after_joint bytes) bytes found refl s

-- ---- and a part is seen

sees_kind : (kind : Kind) (bytes : List ℕ) (found : Seen) → after_joint bytes ≡ None → kind_at bytes ≡ kind
    → SeesKind kind (drop (opening kind) bytes) found → Sees (after_joint bytes) bytes found
sees_kind kind bytes found none is s = rw (none, is) s

at_end : (bytes : List ℕ) → Ends is_no_newline bytes → kind_at bytes ≡ End
unfolding kind_at kind_by
at_end [] ends = refl
at_end (first ∷ rest) ends = rw (line_end first ends) refl

at_quote : (rest : List ℕ) → kind_at (34 ∷ rest) ≡ Quote
unfolding kind_at kind_by
at_quote rest = refl

at_backslash : (rest : List ℕ) → kind_at (92 ∷ rest) ≡ Escaped
unfolding kind_at kind_by
at_backslash rest = refl

at_line : (rest : List ℕ) → kind_at (47 ∷ 47 ∷ rest) ≡ Line
unfolding kind_at kind_by slash_kind
at_line rest = refl

at_comment : (rest : List ℕ) → kind_at (47 ∷ 42 ∷ rest) ≡ Comment
unfolding kind_at kind_by slash_kind
at_comment rest = refl

at_attribute : (rest : List ℕ) → begins_with 41 rest ≡ false → kind_at (40 ∷ 42 ∷ rest) ≡ Attribute
unfolding kind_at kind_by bracket_kind
at_attribute rest h = rw h refl

not_other : (kind : Kind) (first : ℕ) (rest : List ℕ) → Begins kind (first ∷ rest) → first ≢ 10 → first ≢ 34 → first ≢ 92
    → (OpensSkip (first ∷ rest) → ⊥) → kind ≡ Other
not_other End first rest b newline quote backslash skip = absurd (newline (line_end first b))
not_other Quote first rest b newline quote backslash skip = absurd (quote (heads first 34 rest b.0 b.1))
not_other Escaped first rest b newline quote backslash skip = absurd (backslash (heads first 92 rest b.0 b.1))
not_other Line first rest b newline quote backslash skip = absurd (skip (opens_line b.0 b.1))
not_other Comment first rest b newline quote backslash skip = absurd (skip (opens_block b.0 b.1))
not_other Attribute first rest b newline quote backslash skip = absurd (skip (opens_attribute b.0 (is_no_close b.0 b.2) b.1))
not_other Other first rest b newline quote backslash skip = refl

at_other : (first : ℕ) (rest : List ℕ) → first ≢ 10 → first ≢ 34 → first ≢ 92 → (OpensSkip (first ∷ rest) → ⊥)
    → kind_at (first ∷ rest) ≡ Other
at_other first rest newline quote backslash skip =
    not_other (kind_at (first ∷ rest)) first rest (begins (first ∷ rest)) newline quote backslash skip

no_joint_at : (first : ℕ) (rest : List ℕ) → eqb first 92 ≡ false → after_joint (first ∷ rest) ≡ None
no_joint_at first rest h = joint_other first rest (eqb-false first 92 h)

comment_seen : (inside rest : List ℕ) (found : Seen) → list_all is_no_newline inside ≡ true → Ending 47 inside rest
    → found ≡ closed (after_close 47 rest) rest
    → Sees (after_joint (47 ∷ 42 ∷ (inside ++ rest))) (47 ∷ 42 ∷ (inside ++ rest)) found
comment_seen inside rest found all ending is =
    sees_kind Comment (47 ∷ 42 ∷ (inside ++ rest)) found (no_joint_at 47 (42 ∷ (inside ++ rest)) refl) (at_comment (inside ++ rest))
    (rest, comment_runs inside rest all ending, is)

closed_front : (inside rest : List ℕ) → Ends is_close inside → begins_with 41 rest ≡ false → begins_with 41 (inside ++ rest) ≡ false
closed_front [] rest ends h = h
closed_front (first ∷ inside) rest ends h = ends

attribute_seen : (inside text rest : List ℕ) (found : Seen) → Counts inside text → (Straddles inside rest → ⊥)
    → Ending 41 inside rest → Ends is_close inside → begins_with 41 rest ≡ false
    → found ≡ closed (after_close 41 rest) rest
    → Sees (after_joint (40 ∷ 42 ∷ (inside ++ rest))) (40 ∷ 42 ∷ (inside ++ rest)) found
attribute_seen inside text rest found counts border ending front h is =
    sees_kind Attribute (40 ∷ 42 ∷ (inside ++ rest)) found (no_joint_at 40 (42 ∷ (inside ++ rest)) refl)
    (at_attribute (inside ++ rest) (closed_front inside rest front h))
    (rest, attribute_runs inside text rest counts border ending, is)

escaped_seen : (name rest : List ℕ) → list_all is_no_blank name ≡ true → EndsName rest → (Straddles (92 ∷ name) rest → ⊥)
    → Sees (after_joint (92 ∷ (name ++ rest))) (92 ∷ (name ++ rest)) (Whole rest)
escaped_seen name rest all ending border =
    let none = joint_none (92 ∷ (name ++ rest)) (after_joint (92 ∷ (name ++ rest)))
    (λ more j. escaped_none 92 name rest more refl all border j) refl in
    sees_kind Escaped (92 ∷ (name ++ rest)) (Whole rest) none (at_backslash (name ++ rest))
    (rest, escaped_runs name rest all ending (λ s. border (straddles_more (92 ∷ []) name rest s)), refl)

closes_at : (close : ℕ) (after : List ℕ)
    → Whole after ≡ closed (after_close close (42 ∷ close ∷ after)) (42 ∷ close ∷ after)
closes_at close after = rw (close_at close after) refl

line_closes : (close : ℕ) (rest : List ℕ) → Ends is_no_newline rest → Last rest ≡ closed (after_close close rest) rest
line_closes close rest ends = rw (end_no_close close rest ends) refl

line_no_close : (rest : List ℕ) → Ends is_no_newline rest → begins_with 41 rest ≡ false
line_no_close [] ends = refl
line_no_close (first ∷ rest) ends = rw (line_end first ends) refl

part_seen : (bytes after : List ℕ) → IsPart bytes after → Sees (after_joint bytes) bytes (Whole after)
part_seen bytes after (joint j) = rw (joined_at bytes after j) refl
part_seen bytes after (string quoted value q e) =
    rw e (sees_kind Quote (34 ∷ quoted) (Whole after) (no_joint_at 34 quoted refl) (at_quote quoted) (whole value after q refl))
part_seen bytes after (comment inside all lacks e) =
    rw e (comment_seen inside (42 ∷ 47 ∷ after) (Whole after) all (by_mark after lacks refl) (closes_at 47 after))
part_seen bytes after (attribute inside text counts lacks front e) =
    rw e (attribute_seen inside text (42 ∷ 41 ∷ after) (Whole after) counts (straddles_star inside (41 ∷ after))
    (by_mark after lacks refl) front refl (closes_at 41 after))
part_seen bytes after (escaped name all ending border e) = rw e (escaped_seen name after all ending border)
part_seen bytes after (other first newline quote backslash skip e) =
    let skip_2 : OpensSkip (first ∷ after) → ⊥ = subst (λ t. OpensSkip t → ⊥) e skip in
    rw e (sees_kind Other (first ∷ after) (Whole after) (joint_other first after backslash)
    (at_other first after newline quote backslash skip_2) refl)

last_seen : (bytes rest : List ℕ) → IsLast bytes rest → Sees (after_joint bytes) bytes (Last rest)
last_seen bytes rest (end ends is) =
    sees_kind End bytes (Last rest) (end_no_joint bytes ends) (at_end bytes ends) (ap Last is)
last_seen bytes rest (line_comment inside all ends e) =
    rw e (sees_kind Line (47 ∷ 47 ∷ (inside ++ rest)) (Last rest) (no_joint_at 47 (47 ∷ (inside ++ rest)) refl)
    (at_line (inside ++ rest)) (ap Last (sym (after_line_of inside rest all ends))))
last_seen bytes rest (open_comment inside all lacks ends e) =
    rw e (comment_seen inside rest (Last rest) all (by_line lacks ends) (line_closes 47 rest ends))
last_seen bytes rest (open_string inside none all ends e) =
    rw e (sees_kind Quote (34 ∷ (inside ++ rest)) (Last rest) (no_joint_at 34 (inside ++ rest) refl) (at_quote (inside ++ rest))
    (open_end none (ap Last (sym (after_line_of inside rest all ends)))))
last_seen bytes rest (open_attribute inside text counts lacks front ends border e) =
    rw e (attribute_seen inside text rest (Last rest) counts border (by_line lacks ends) front (line_no_close rest ends)
    (line_closes 41 rest ends))

sees_complete : (bytes : List ℕ) (found : Seen) → IsSeen bytes found → Sees (after_joint bytes) bytes found
sees_complete bytes (Whole after) is = part_seen bytes after is
sees_complete bytes (Last rest) is = last_seen bytes rest is

-- ---- one thing at most is seen

-- what the code's way to pass over a string tells of the bytes after the quote
abbrev pub string_seen : List ℕ → SeenPassing → Seen
string_seen quoted (Ok p) = Whole p.1
string_seen quoted (Err fault) = Last (after_line quoted)

abbrev rest_of : SeenPassing → List ℕ
rest_of (Ok p) = p.1
rest_of (Err fault) = []

module _ (passes : PassesOnce) where
  quoted_once : (quoted one two value other_value : List ℕ) → IsQuoted quoted value one → IsQuoted quoted other_value two → one ≡ two
  quoted_once quoted one two value other_value q r =
      ap rest_of (passes (34 ∷ quoted) (Ok (passed.Text, one)) (Ok (passed.Text, two)) (pass_quoted quoted value one q refl refl)
      (pass_quoted quoted other_value two r refl refl))

  string_once : (quoted : List ℕ) (one two : Seen) → SeesString quoted one → SeesString quoted two → one ≡ two
  string_once quoted one two (whole value after q is) (whole value_2 after_2 r is_2) =
      is ∙ ap Whole (quoted_once quoted after after_2 value value_2 q r) ∙ sym is_2
  string_once quoted one two (whole value after q is) (open_end none is_2) = absurd (none value after q)
  string_once quoted one two (open_end none is) (whole value after q is_2) = absurd (none value after q)
  string_once quoted one two (open_end none is) (open_end none_2 is_2) = is ∙ sym is_2

  kind_once : (kind : Kind) (bytes : List ℕ) (one two : Seen) → SeesKind kind bytes one → SeesKind kind bytes two → one ≡ two
  kind_once End bytes one two s t = s ∙ sym t
  kind_once Quote bytes one two s t = string_once bytes one two s t
  kind_once Escaped bytes one two s t = s.2 ∙ ap Whole (runs_once insides.Escaped bytes s.0 t.0 s.1 t.1) ∙ sym t.2
  kind_once Line bytes one two s t = s ∙ sym t
  kind_once Comment bytes one two s t =
      s.2 ∙ ap (λ r. closed (after_close 47 r) r) (runs_once insides.Comment bytes s.0 t.0 s.1 t.1) ∙ sym t.2
  kind_once Attribute bytes one two s t =
      s.2 ∙ ap (λ r. closed (after_close 41 r) r) (runs_once insides.Attribute bytes s.0 t.0 s.1 t.1) ∙ sym t.2
  kind_once Other bytes one two s t = s ∙ sym t

  sees_once : (o : Option (List ℕ)) (bytes : List ℕ) (one two : Seen) → Sees o bytes one → Sees o bytes two → one ≡ two
  sees_once (Some after) bytes one two s t = s ∙ sym t
  sees_once None bytes one two s t = kind_once (kind_at bytes) (drop (opening (kind_at bytes)) bytes) one two s t

  pub seen_once : (bytes : List ℕ) (one two : Seen) → IsSeen bytes one → IsSeen bytes two → one ≡ two
  seen_once bytes one two a b =
      sees_once (after_joint bytes) bytes one two (sees_complete bytes one a) (sees_complete bytes two b)

-- ---- and one thing is seen

skipped_front : (text rest quoted : List ℕ) → IsSkipped text rest → text ≡ 34 ∷ quoted → ⊥
skipped_front text rest quoted (line inside all ends e) is = eqb-false 34 47 refl (heads 34 47 quoted _ (sym is ∙ e))
skipped_front text rest quoted (block inside lacks e) is = eqb-false 34 47 refl (heads 34 47 quoted _ (sym is ∙ e))
skipped_front text rest quoted (skipped_attribute inside lacks ends e) is =
    eqb-false 34 40 refl (heads 34 40 quoted _ (sym is ∙ e))

open_front : (text quoted : List ℕ) → IsOpen text → text ≡ 34 ∷ quoted → ⊥
open_front text quoted (open_block inside lacks e) is = eqb-false 34 47 refl (heads 34 47 quoted _ (sym is ∙ e))
open_front text quoted (open_mark inside lacks ends e) is = eqb-false 34 40 refl (heads 34 40 quoted _ (sym is ∙ e))

pub string_passed : (text quoted : List ℕ) (seen : SeenPassing) → text ≡ 34 ∷ quoted → Passes text seen
    → SeesString quoted (string_seen quoted seen)
string_passed text quoted seen is (pass_directive rest e s) = absurd (eqb-false 34 96 refl (heads 34 96 quoted rest (sym is ∙ e)))
string_passed text quoted seen is (pass_skipped rest skipped s) = absurd (skipped_front text rest quoted skipped is)
string_passed text quoted seen is (pass_open_comment opens s) = absurd (open_front text quoted opens is)
string_passed text quoted seen is (pass_quoted after value rest q e s) =
    let same = tails 34 34 after quoted (sym e ∙ is) in
    rw s (whole value rest (subst (λ t. IsQuoted t value rest) same q) refl)
string_passed text quoted seen is (pass_open_string after none e s) =
    let same = tails 34 34 quoted after (sym is ∙ e) in
    rw s (open_end (λ value rest q. none value rest (subst (λ t. IsQuoted t value rest) same q)) refl)
string_passed text quoted seen is (pass_escaped name rest all ends e s) =
    absurd (eqb-false 34 92 refl (heads 34 92 quoted (name ++ rest) (sym is ∙ e)))
string_passed text quoted seen is (pass_other byte rest grave quote backslash skip e s) =
    absurd (quote (heads byte 34 rest quoted (sym e ∙ is)))

module _ (passes : PassesSome) where
  kind_some : (kind : Kind) (bytes : List ℕ) → (found : Seen) × SeesKind kind bytes found
  kind_some End bytes = (Last bytes, refl)
  kind_some Quote bytes =
      let p = passes (34 ∷ bytes) (omega arith) in
      (string_seen bytes p.0, string_passed (34 ∷ bytes) bytes p.0 refl p.1)
  kind_some Escaped bytes = let r = runs_some insides.Escaped bytes in (Whole r.0, (r.0, r.1, refl))
  kind_some Line bytes = (Last (after_line bytes), refl)
  kind_some Comment bytes = let r = runs_some insides.Comment bytes in (closed (after_close 47 r.0) r.0, (r.0, r.1, refl))
  kind_some Attribute bytes = let r = runs_some insides.Attribute bytes in (closed (after_close 41 r.0) r.0, (r.0, r.1, refl))
  kind_some Other bytes = (Whole bytes, refl)

  sees_some : (o : Option (List ℕ)) (bytes : List ℕ) → (found : Seen) × Sees o bytes found
  sees_some (Some after) bytes = (Whole after, refl)
  sees_some None bytes = kind_some (kind_at bytes) (drop (opening (kind_at bytes)) bytes)

  pub seen_some : (bytes : List ℕ) → (found : Seen) × IsSeen bytes found
  seen_some bytes = let s = sees_some (after_joint bytes) bytes in (s.0, sees_sound bytes s.0 s.1)

-- where a quote begins the bytes, it stands before what follows the first byte
pub quote_front : (kind : Kind) (bytes after : List ℕ) → kind ≡ kind_at bytes → kind ≡ Quote
    → after ≡ drop (opening kind) bytes → bytes ≡ 34 ∷ after
quote_front kind bytes after is quote e =
    let b : Begins Quote bytes = subst (λ k. Begins k bytes) (sym is ∙ quote) (begins bytes) in
    let after_is : after ≡ b.0 = e ∙ ap (λ k. drop (opening k) bytes) quote ∙ ap (λ (t : List ℕ). drop 1 t) b.1 in
    b.1 ∙ ap (λ (t : List ℕ). 34 ∷ t) (sym after_is)
