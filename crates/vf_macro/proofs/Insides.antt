-- The inside of a part of a macro's text.
use Rattle.std.proofs.Common.{◌≡◌, ◌≢◌, ℕ, ◌<◌, ◌≤◌, ◌+◌, zero, suc, Bool, true, false, eqb, List, [], ◌∷◌, ◌++◌, ◌⊎◌, length, Option, Some, None, refl, sym, ap, ◌∙◌, inl, inr, subst, arith, append_assoc, length-append}
use Rattle.std.specs.List.{list_all}
use Rattle.std.proofs.lemmas.Bool.{cases_Bool, and_parts, eqb-true, ne_eqb, eq-eqb}
use Rattle.vf_lexeme.specs.Bytes.{is_no_blank, is_no_newline, Ends, Lacks}
use Rattle.vf_macro.specs.declared.scan.Inside.{Inside}
use Rattle.vf_macro.specs.declared.scan.Inside.TheVariants as insides
use Rattle.vf_macro.specs.MacroText.{IsJoint, IsJoined, Straddles, Counts, nothing, joined, plain, EndsName}
use Rattle.vf_macro.specs.Scanning.{is_byte, after_class, after_joint, after_close, or_else, unless, step, Runs, stops, goes}
use Rattle.vf_macro.proofs.Counting.{class_some, class_none, class_at, class_ends, joint_sound, joined_at, joint_none, joint_other, joint_of_none, joint_of_star, joined_shorter, straddles_none, straddles_more, straddles_not, straddles_past, split_joint, plain_joint, joined_more, no_newline, is_in_line, joint_blank}

-- ---- answers that may be none

unless_some : (o p : Option (List ℕ)) (x : List ℕ) → unless o p ≡ Some x → (o ≡ None) × (p ≡ Some x)
unless_some None p x e = (refl, e)
unless_some (Some y) p x e = absurd cc

unless_none : (o p : Option (List ℕ)) → unless o p ≡ None → ((x : List ℕ) × (o ≡ Some x)) ⊎ ((o ≡ None) × (p ≡ None))
unless_none None p e = inr (refl, e)
unless_none (Some x) p e = inl (x, refl)

or_some : (o p : Option (List ℕ)) (x : List ℕ) → or_else o p ≡ Some x → (o ≡ Some x) ⊎ ((o ≡ None) × (p ≡ Some x))
or_some None p x e = inr (refl, e)
or_some (Some y) p x e = inl e

or_none : (o p : Option (List ℕ)) → or_else o p ≡ None → (o ≡ None) × (p ≡ None)
or_none None p e = (refl, e)
or_none (Some y) p e = absurd cc

unless_of : (o : Option (List ℕ)) → (o ≡ None) ⊎ ((x : List ℕ) × (o ≡ Some x))
unless_of None = inl refl
unless_of (Some x) = inr (x, refl)

-- ---- the rest of a run is one

pub runs_once : (inside : Inside) (bytes one two : List ℕ) → Runs inside bytes one → Runs inside bytes two → one ≡ two
runs_once inside bytes one two (stops e is) (stops f is_2) = is ∙ sym is_2
runs_once inside bytes one two (stops e is) (goes more f r) = absurd cc
runs_once inside bytes one two (goes more e r) (stops f is) = absurd cc
runs_once inside bytes one two (goes more e r) (goes more_2 f r_2) =
    let same : more_2 ≡ more = cc in
    runs_once inside more one two r (subst (λ m. Runs inside m two) same r_2)

abbrev in_attribute : List ℕ → Option (List ℕ)
in_attribute bytes = unless (after_close 41 bytes) (after_class is_no_newline bytes)

class_shorter : (class : ℕ → Bool) (bytes more : List ℕ) → after_class class bytes ≡ Some more → length more < length bytes
class_shorter class bytes more e = let c = class_some class bytes more e in omega (arith, ap length c.1)

-- what follows the byte or joint at the front is shorter
step_shorter : (inside : Inside) (bytes more : List ℕ) → step inside bytes ≡ Some more → length more < length bytes
step_shorter insides.Escaped bytes more e =
    class_shorter is_no_blank bytes more (unless_some (after_joint bytes) (after_class is_no_blank bytes) more e).1
step_shorter insides.Comment bytes more e =
    class_shorter is_no_newline bytes more (unless_some (after_close 47 bytes) (after_class is_no_newline bytes) more e).1
step_shorter insides.Attribute bytes more e = elim (or_some (after_joint bytes) (in_attribute bytes) more e) [
  | inl j ↦ joined_shorter bytes more (joint_sound bytes more j)
  | inr p ↦
      class_shorter is_no_newline bytes more (unless_some (after_close 41 bytes) (after_class is_no_newline bytes) more p.1).1
]

some_run : (inside : Inside) (n : ℕ) (bytes : List ℕ) (o : Option (List ℕ)) → step inside bytes ≡ o → length bytes ≤ n
    → ((more : List ℕ) → length more < length bytes → (rest : List ℕ) × Runs inside more rest)
    → (rest : List ℕ) × Runs inside bytes rest
some_run inside n bytes None e h on = (bytes, stops e refl)
some_run inside n bytes (Some more) e h on =
    let r = on more (step_shorter inside bytes more e) in
    (r.0, goes more e r.1)

runs_within : (inside : Inside) (n : ℕ) (bytes : List ℕ) → length bytes < n → (rest : List ℕ) × Runs inside bytes rest
runs_within inside zero bytes h = absurd (omega (arith, h))
runs_within inside (suc n) bytes h =
    some_run inside (suc n) bytes (step inside bytes) refl (omega (arith, h)) (λ more less. runs_within inside n more (omega (arith, less, h)))

pub runs_some : (inside : Inside) (bytes : List ℕ) → (rest : List ℕ) × Runs inside bytes rest
runs_some inside bytes = runs_within inside (length bytes + 1) bytes (omega arith)

-- ---- a `*` and the byte that ends a part

abbrev mark : ℕ → List ℕ
mark close = 42 ∷ close ∷ []

pub close_sound : (close : ℕ) (bytes after : List ℕ) → after_close close bytes ≡ Some after → bytes ≡ 42 ∷ close ∷ after
unfolding after_close
close_sound close [] after e = absurd cc
close_sound close (first ∷ rest) after e = elim (cases_Bool (eqb first 42)) [
  | inl is ↦
      let c = class_some (is_byte close) rest after (rw is at e) in
      let first_is = eqb-true first 42 is in
      let second_is = eqb-true c.0 close c.2 in
      let rest_is = c.1 in
      cc
  | inr other ↦ let wrong : None ≡ Some after = rw other at e in absurd cc
]

pub close_at : (close : ℕ) (after : List ℕ) → after_close close (42 ∷ close ∷ after) ≡ Some after
unfolding after_close
close_at close after = class_at (is_byte close) close after (eq-eqb close close refl)

close_other : (close first : ℕ) (rest : List ℕ) → first ≢ 42 → after_close close (first ∷ rest) ≡ None
unfolding after_close
close_other close first rest other = rw (ne_eqb first 42 other) refl

close_backslash : (close : ℕ) (rest : List ℕ) → after_close close (92 ∷ rest) ≡ None
unfolding after_close
close_backslash close rest = refl

close_newline : (close : ℕ) (rest : List ℕ) → after_close close (10 ∷ rest) ≡ None
unfolding after_close
close_newline close rest = refl

close_return : (close : ℕ) (rest : List ℕ) → after_close close (13 ∷ rest) ≡ None
unfolding after_close
close_return close rest = refl

close_of_none : (close : ℕ) → after_close close [] ≡ None
unfolding after_close
close_of_none close = refl

close_none : (close : ℕ) (bytes : List ℕ) (o : Option (List ℕ)) → ((after : List ℕ) → bytes ≡ 42 ∷ close ∷ after → ⊥)
    → after_close close bytes ≡ o → o ≡ None
close_none close bytes None h e = refl
close_none close bytes (Some after) h e = absurd (h after (close_sound close bytes after e))

-- the end of a line is no such mark, and no joint
pub line_end : (first : ℕ) → is_no_newline first ≡ false → first ≡ 10
line_end first h = elim (cases_Bool (eqb first 10)) [
  | inl is ↦ eqb-true first 10 is
  | inr other ↦ let wrong : true ≡ false = rw other at h in absurd cc
]

pub end_no_close : (close : ℕ) (bytes : List ℕ) → Ends is_no_newline bytes → after_close close bytes ≡ None
end_no_close close [] ends = close_of_none close
end_no_close close (first ∷ rest) ends =
    let is = line_end first ends in
    close_other close first rest (λ e. let wrong : 10 ≡ 42 = sym is ∙ e in cc)

pub end_no_joint : (bytes : List ℕ) → Ends is_no_newline bytes → after_joint bytes ≡ None
end_no_joint [] ends = joint_of_none
end_no_joint (first ∷ rest) ends =
    let is = line_end first ends in
    joint_other first rest (λ e. let wrong : 10 ≡ 92 = sym is ∙ e in cc)

-- ---- how a comment or an attribute ends

short_lacks : (close : ℕ) (text : List ℕ) → length text < 2 → Lacks (mark close) text
short_lacks close text h front back e =
    let size = ap length e in
    absurd (omega (arith, length-append front (42 ∷ close ∷ back)))

lacks_more : (close byte : ℕ) (text more : List ℕ) → after_close close (byte ∷ (text ++ more)) ≡ None → Lacks (mark close) text
    → Lacks (mark close) (byte ∷ text)
lacks_more close byte text more h lacks [] back e =
    let whole : byte ∷ (text ++ more) ≡ 42 ∷ close ∷ (back ++ more) = ap (λ (t : List ℕ). t ++ more) e in
    let clash : Some (back ++ more) ≡ None = sym (ap (after_close close) whole ∙ close_at close (back ++ more)) ∙ h in
    absurd cc
lacks_more close byte text more h lacks (c ∷ front) back e = lacks front back cc

lacks_tail : (close byte : ℕ) (text : List ℕ) → Lacks (mark close) (byte ∷ text) → Lacks (mark close) text
lacks_tail close byte text lacks front back e = lacks (byte ∷ front) back (ap (λ (t : List ℕ). byte ∷ t) e)

-- the inside ends with the mark, or with the line
pub data Ending (close : ℕ) (inside rest : List ℕ) : Type 0 where
  by_mark : (after : List ℕ) → Lacks (42 ∷ close ∷ []) (inside ++ 42 ∷ []) → rest ≡ 42 ∷ close ∷ after → Ending close inside rest
  by_line : Lacks (42 ∷ close ∷ []) inside → Ends is_no_newline rest → Ending close inside rest

ending_here : (close : ℕ) (bytes : List ℕ) → unless (after_close close bytes) (after_class is_no_newline bytes) ≡ None
    → Ending close [] bytes
ending_here close bytes e = elim (unless_none (after_close close bytes) (after_class is_no_newline bytes) e) [
  | inl found ↦ by_mark found.0 (short_lacks close (42 ∷ []) (omega arith)) (close_sound close bytes found.0 found.1)
  | inr ends ↦ by_line (short_lacks close [] (omega arith)) (class_none is_no_newline bytes ends.1)
]

ending_more : (close byte : ℕ) (inside rest : List ℕ) → after_close close (byte ∷ (inside ++ rest)) ≡ None
    → Ending close inside rest → Ending close (byte ∷ inside) rest
ending_more close byte inside rest h (by_mark after lacks is) =
    let text : inside ++ rest ≡ (inside ++ 42 ∷ []) ++ close ∷ after = ap (λ t. inside ++ t) is
    ∙ sym (append_assoc inside (42 ∷ []) (close ∷ after)) in
    by_mark after
    (lacks_more close byte (inside ++ 42 ∷ []) (close ∷ after) (ap (λ (t : List ℕ). after_close close (byte ∷ t)) (sym text) ∙ h)
    lacks) is
ending_more close byte inside rest h (by_line lacks ends) = by_line (lacks_more close byte inside rest h lacks) ends

ending_joint : (close : ℕ) (joint inside rest : List ℕ) → IsJoint joint → Ending close inside rest
    → Ending close (joint ++ inside) rest
ending_joint close joint inside rest (inl e) d =
    rw e (ending_more close 92 (10 ∷ inside) rest (close_backslash close (10 ∷ (inside ++ rest)))
    (ending_more close 10 inside rest (close_newline close (inside ++ rest)) d))
ending_joint close joint inside rest (inr e) d =
    rw e (ending_more close 92 (13 ∷ 10 ∷ inside) rest (close_backslash close (13 ∷ 10 ∷ (inside ++ rest)))
    (ending_more close 13 (10 ∷ inside) rest (close_return close (10 ∷ (inside ++ rest)))
    (ending_more close 10 inside rest (close_newline close (inside ++ rest)) d)))

ending_tail : (close byte : ℕ) (inside rest : List ℕ) → Ending close (byte ∷ inside) rest → Ending close inside rest
ending_tail close byte inside rest (by_mark after lacks is) = by_mark after (lacks_tail close byte (inside ++ 42 ∷ []) lacks) is
ending_tail close byte inside rest (by_line lacks ends) = by_line (lacks_tail close byte inside lacks) ends

ending_drop : (close : ℕ) (front inside rest : List ℕ) → Ending close (front ++ inside) rest → Ending close inside rest
ending_drop close [] inside rest d = d
ending_drop close (byte ∷ front) inside rest d =
    ending_drop close front inside rest (ending_tail close byte (front ++ inside) rest d)

ending_stops : (close : ℕ) (rest : List ℕ) → Ending close [] rest
    → unless (after_close close rest) (after_class is_no_newline rest) ≡ None
ending_stops close rest (by_mark after lacks is) =
    ap (λ t. unless (after_close close t) (after_class is_no_newline t)) is ∙ rw (close_at close after) refl
ending_stops close rest (by_line lacks ends) = rw (end_no_close close rest ends, class_ends is_no_newline rest ends) refl

-- the byte that ends a comment or an attribute
pub record IsClose (close : ℕ) : Type 0 where
  pub no_star : close ≢ 42
  pub in_line : close ≢ 10

no_close_before : (close byte : ℕ) (inside rest after : List ℕ) → IsClose close → Ending close (byte ∷ inside) rest
    → byte ∷ (inside ++ rest) ≡ 42 ∷ close ∷ after → ⊥
no_close_before close byte [] rest after is (by_mark more lacks rest_is) e =
    let whole : byte ∷ 42 ∷ close ∷ more ≡ 42 ∷ close ∷ after = ap (λ (t : List ℕ). byte ∷ t) (sym rest_is) ∙ e in
    is.no_star cc
no_close_before close byte (c ∷ inside) rest after is (by_mark more lacks rest_is) e =
    let front : byte ∷ c ∷ (inside ++ 42 ∷ []) ≡ 42 ∷ close ∷ (inside ++ 42 ∷ []) = cc in
    lacks [] (inside ++ 42 ∷ []) front
no_close_before close byte [] [] after is (by_line lacks ends) e = cc
no_close_before close byte [] (first ∷ rest) after is (by_line lacks ends) e =
    let first_is : first ≡ 10 = line_end first ends in
    is.in_line cc
no_close_before close byte (c ∷ inside) rest after is (by_line lacks ends) e =
    let front : byte ∷ c ∷ inside ≡ 42 ∷ close ∷ inside = cc in
    lacks [] inside front

ending_goes : (close byte : ℕ) (inside rest : List ℕ) → IsClose close → byte ≢ 10 → Ending close (byte ∷ inside) rest
    → unless (after_close close (byte ∷ (inside ++ rest))) (after_class is_no_newline (byte ∷ (inside ++ rest)))
    ≡ Some (inside ++ rest)
ending_goes close byte inside rest is other d =
    let none = close_none close (byte ∷ (inside ++ rest)) (after_close close (byte ∷ (inside ++ rest)))
    (λ after e. no_close_before close byte inside rest after is d e) refl in
    rw (none, class_at is_no_newline byte (inside ++ rest) (is_in_line byte other)) refl

-- ---- comments

pub record IsComment (bytes rest : List ℕ) : Type 0 where
  pub inside : List ℕ
  pub parts : bytes ≡ inside ++ rest
  pub in_line : list_all is_no_newline inside ≡ true
  pub ending : Ending 47 inside rest

pub comment_sound : (bytes rest : List ℕ) → Runs insides.Comment bytes rest → IsComment bytes rest
comment_sound bytes rest (stops e is) = record {
  inside = [];
  parts = sym is;
  in_line = refl;
  ending = subst (λ t. Ending 47 [] t) (sym is) (ending_here 47 bytes e);
}
comment_sound bytes rest (goes more e r) =
    let u = unless_some (after_close 47 bytes) (after_class is_no_newline bytes) more e in
    let c = class_some is_no_newline bytes more u.1 in
    let i = comment_sound more rest r in
    let whole : bytes ≡ c.0 ∷ (i.inside ++ rest) = c.1 ∙ ap (λ (t : List ℕ). c.0 ∷ t) i.parts in
    record {
      inside = c.0 ∷ i.inside;
      parts = whole;
      in_line = rw c.2 i.in_line;
      ending = ending_more 47 c.0 i.inside rest (ap (after_close 47) (sym whole) ∙ u.0) i.ending;
    }

slash_closes : IsClose 47
slash_closes = record { no_star = λ e. cc; in_line = λ e. cc }

pub comment_runs : (inside rest : List ℕ) → list_all is_no_newline inside ≡ true → Ending 47 inside rest
    → Runs insides.Comment (inside ++ rest) rest
comment_runs [] rest h d = stops (ending_stops 47 rest d) refl
comment_runs (byte ∷ inside) rest h d =
    let p = and_parts (is_no_newline byte) (list_all is_no_newline inside) h in
    goes (inside ++ rest) (ending_goes 47 byte inside rest slash_closes (no_newline byte p.0) d)
    (comment_runs inside rest p.1 (ending_tail 47 byte inside rest d))

-- ---- attributes

pub record IsAttribute (bytes rest : List ℕ) : Type 0 where
  pub inside : List ℕ
  pub text : List ℕ
  pub parts : bytes ≡ inside ++ rest
  pub counts : Counts inside text
  pub border : Straddles inside rest → ⊥
  pub ending : Ending 41 inside rest

attribute_joint : (bytes more rest : List ℕ) → IsJoined bytes more → IsAttribute more rest → IsAttribute bytes rest
attribute_joint bytes more rest j i = record {
  inside = j.joint ++ i.inside;
  text = 32 ∷ i.text;
  parts = j.parts ∙ ap (λ t. j.joint ++ t) i.parts ∙ sym (append_assoc j.joint i.inside rest);
  counts = joined (record { joint = j.joint; is = j.is; parts = refl }) i.counts;
  border = λ s. i.border (straddles_past j.joint i.inside rest j.is s);
  ending = ending_joint 41 j.joint i.inside rest j.is i.ending;
}

attribute_byte : (bytes more rest : List ℕ) → after_joint bytes ≡ None → in_attribute bytes ≡ Some more → IsAttribute more rest
    → IsAttribute bytes rest
attribute_byte bytes more rest none e i =
    let u = unless_some (after_close 41 bytes) (after_class is_no_newline bytes) more e in
    let c = class_some is_no_newline bytes more u.1 in
    let whole : bytes ≡ c.0 ∷ (i.inside ++ rest) = c.1 ∙ ap (λ (t : List ℕ). c.0 ∷ t) i.parts in
    record {
      inside = c.0 ∷ i.inside;
      text = c.0 ∷ i.text;
      parts = whole;
      counts = plain (no_newline c.0 c.2) i.counts;
      border = straddles_not c.0 i.inside rest (ap after_joint (sym whole) ∙ none) i.border;
      ending = ending_more 41 c.0 i.inside rest (ap (after_close 41) (sym whole) ∙ u.0) i.ending;
    }

pub attribute_sound : (bytes rest : List ℕ) → Runs insides.Attribute bytes rest → IsAttribute bytes rest
attribute_sound bytes rest (stops e is) = record {
  inside = [];
  text = [];
  parts = sym is;
  counts = nothing;
  border = straddles_none rest;
  ending = subst (λ t. Ending 41 [] t) (sym is) (ending_here 41 bytes (or_none (after_joint bytes) (in_attribute bytes) e).1);
}
attribute_sound bytes rest (goes more e r) = elim (or_some (after_joint bytes) (in_attribute bytes) more e) [
  | inl j ↦ attribute_joint bytes more rest (joint_sound bytes more j) (attribute_sound more rest r)
  | inr p ↦ attribute_byte bytes more rest p.0 p.1 (attribute_sound more rest r)
]

bracket_closes : IsClose 41
bracket_closes = record { no_star = λ e. cc; in_line = λ e. cc }

ending_no_joint : (close : ℕ) (rest : List ℕ) → Ending close [] rest → after_joint rest ≡ None
ending_no_joint close rest (by_mark after lacks is) = ap after_joint is ∙ joint_of_star (close ∷ after)
ending_no_joint close rest (by_line lacks ends) = end_no_joint rest ends

-- no joint begins at a byte that counts as itself
plain_none : (byte : ℕ) (after text rest more : List ℕ) → Counts after text → (Straddles (byte ∷ after) rest → ⊥)
    → IsJoined (byte ∷ (after ++ rest)) more → ⊥
plain_none byte after text rest more c border j = elim (split_joint (byte ∷ after) rest more (omega arith) j) [
  | inl s ↦ border s
  | inr within ↦ plain_joint byte after text within.0 c within.1
]

pub attribute_runs : (inside text rest : List ℕ) → Counts inside text → (Straddles inside rest → ⊥) → Ending 41 inside rest
    → Runs insides.Attribute (inside ++ rest) rest
attribute_runs _ _ rest nothing border d =
    stops (rw (ending_no_joint 41 rest d) (ending_stops 41 rest d)) refl
attribute_runs inside _ rest (joined {after} {text} j c) border d =
    let whole = joined_at (inside ++ rest) (after ++ rest) (joined_more inside after rest j) in
    goes (after ++ rest) (rw whole refl)
    (attribute_runs after text rest c
    (λ s. border (subst (λ t. Straddles t rest) (sym j.parts) (straddles_more j.joint after rest s)))
    (ending_drop 41 j.joint after rest (subst (λ t. Ending 41 t rest) j.parts d)))
attribute_runs _ _ rest (plain {byte} {after} {text} other c) border d =
    let none = joint_none (byte ∷ (after ++ rest)) (after_joint (byte ∷ (after ++ rest)))
    (λ more j. plain_none byte after text rest more c border j) refl in
    goes (after ++ rest) (rw none (ending_goes 41 byte after rest bracket_closes other d))
    (attribute_runs after text rest c (λ s. border (straddles_more (byte ∷ []) after rest s))
    (ending_tail 41 byte after rest d))

-- ---- escaped names

pub record IsEscaped (first : ℕ) (bytes rest : List ℕ) : Type 0 where
  pub name : List ℕ
  pub parts : bytes ≡ name ++ rest
  pub no_blank : list_all is_no_blank name ≡ true
  pub ending : EndsName rest
  pub border : Straddles (first ∷ name) rest → ⊥

name_ending : (bytes : List ℕ) → unless (after_joint bytes) (after_class is_no_blank bytes) ≡ None → EndsName bytes
name_ending bytes e = elim (unless_none (after_joint bytes) (after_class is_no_blank bytes) e) [
  | inl found ↦ inr (found.0, joint_sound bytes found.0 found.1)
  | inr ends ↦ inl (class_none is_no_blank bytes ends.1)
]

pub escaped_sound : (first : ℕ) (bytes rest : List ℕ) → after_joint (first ∷ bytes) ≡ None → Runs insides.Escaped bytes rest
    → IsEscaped first bytes rest
escaped_sound first bytes rest none (stops e is) = record {
  name = [];
  parts = sym is;
  no_blank = refl;
  ending = subst (λ t. EndsName t) (sym is) (name_ending bytes e);
  border = straddles_not first [] rest (ap (λ (t : List ℕ). after_joint (first ∷ t)) is ∙ none) (straddles_none rest);
}
escaped_sound first bytes rest none (goes more e r) =
    let u = unless_some (after_joint bytes) (after_class is_no_blank bytes) more e in
    let c = class_some is_no_blank bytes more u.1 in
    let i = escaped_sound c.0 more rest (ap after_joint (sym c.1) ∙ u.0) r in
    let whole : bytes ≡ c.0 ∷ (i.name ++ rest) = c.1 ∙ ap (λ (t : List ℕ). c.0 ∷ t) i.parts in
    record {
      name = c.0 ∷ i.name;
      parts = whole;
      no_blank = rw c.2 i.no_blank;
      ending = i.ending;
      border = straddles_not first (c.0 ∷ i.name) rest (ap (λ (t : List ℕ). after_joint (first ∷ t)) (sym whole) ∙ none) i.border;
    }

name_stops : (rest : List ℕ) → EndsName rest → unless (after_joint rest) (after_class is_no_blank rest) ≡ None
name_stops rest (inl ends) = elim (unless_of (after_joint rest)) [
  | inl none ↦ rw (none, class_ends is_no_blank rest ends) refl
  | inr some ↦ rw some.1 refl
]
name_stops rest (inr j) = rw (joined_at rest j.0 j.1) refl

-- no joint begins in an escaped name
pub escaped_none : (first : ℕ) (name rest more : List ℕ) → is_no_blank first ≡ true → list_all is_no_blank name ≡ true
    → (Straddles (first ∷ name) rest → ⊥) → IsJoined (first ∷ (name ++ rest)) more → ⊥
escaped_none first name rest more h all border j = elim (split_joint (first ∷ name) rest more (omega arith) j) [
  | inl s ↦ border s
  | inr within ↦ joint_blank (first ∷ name) within.0 (rw h all) within.1
]

pub escaped_runs : (name rest : List ℕ) → list_all is_no_blank name ≡ true → EndsName rest → (Straddles name rest → ⊥)
    → Runs insides.Escaped (name ++ rest) rest
escaped_runs [] rest all ends border = stops (name_stops rest ends) refl
escaped_runs (byte ∷ name) rest all ends border =
    let p = and_parts (is_no_blank byte) (list_all is_no_blank name) all in
    let none = joint_none (byte ∷ (name ++ rest)) (after_joint (byte ∷ (name ++ rest)))
    (λ more j. escaped_none byte name rest more p.0 p.1 border j) refl in
    goes (name ++ rest) (rw (none, class_at is_no_blank byte (name ++ rest) p.0) refl)
    (escaped_runs name rest p.1 ends (λ s. border (straddles_more (byte ∷ []) name rest s)))
