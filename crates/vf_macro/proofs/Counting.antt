-- Joints in a macro's text, and what its bytes count as.
use Rattle.std.proofs.Common.{◌≡◌, ◌≢◌, ℕ, ◌<◌, Bool, true, false, not, eqb, ◌&&◌, List, [], ◌∷◌, ◌++◌, ◌⊎◌, length, Option, Some, None, refl, sym, ap, ◌∙◌, inl, inr, subst, arith, append_assoc, length-append}
use Rattle.std.specs.List.{list_all}
use Rattle.std.proofs.lemmas.Bool.{cases_Bool, and_parts, eqb-true, eqb-false, ne_eqb, not-true, both_ways}
use Rattle.std.proofs.lemmas.List.{append-nil}
use Rattle.vf_lexeme.specs.Bytes.{is_no_blank, is_no_newline, Ends}
use Rattle.vf_macro.specs.MacroText.{IsJoint, IsJoined, Straddles, Counts, nothing, joined, plain}
use Rattle.vf_macro.specs.Scanning.{is_byte, after_class, after_end, after_joint}

-- ---- the byte at the front

pub class_some : (class : ℕ → Bool) (bytes rest : List ℕ) → after_class class bytes ≡ Some rest
    → (first : ℕ) × (bytes ≡ first ∷ rest) × (class first ≡ true)
unfolding after_class
class_some class [] rest e = absurd cc
class_some class (first ∷ more) rest e = elim (cases_Bool (class first)) [
  | inl is ↦
      let same : Some more ≡ Some rest = rw is at e in
      let more_is : more ≡ rest = cc in
      (first, ap (λ (t : List ℕ). first ∷ t) more_is, is)
  | inr other ↦ let none : None ≡ Some rest = rw other at e in absurd cc
]

pub class_none : (class : ℕ → Bool) (bytes : List ℕ) → after_class class bytes ≡ None → Ends class bytes
unfolding after_class
class_none class [] e = tt
class_none class (first ∷ more) e = elim (cases_Bool (class first)) [
  | inl is ↦ let some : Some more ≡ None = rw is at e in absurd cc
  | inr other ↦ other
]

pub class_at : (class : ℕ → Bool) (first : ℕ) (rest : List ℕ) → class first ≡ true → after_class class (first ∷ rest) ≡ Some rest
unfolding after_class
class_at class first rest is = rw is refl

pub class_ends : (class : ℕ → Bool) (bytes : List ℕ) → Ends class bytes → after_class class bytes ≡ None
unfolding after_class
class_ends class [] ends = refl
class_ends class (first ∷ rest) ends = rw ends refl

-- ---- joints

end_sound : (bytes after : List ℕ) → after_end bytes ≡ Some after
    → (bytes ≡ 10 ∷ after) ⊎ (bytes ≡ 13 ∷ 10 ∷ after)
unfolding after_end
end_sound [] after e = absurd cc
end_sound (first ∷ rest) after e = elim (cases_Bool (eqb first 10)) [
  | inl is ↦
      let same : Some rest ≡ Some after = rw is at e in
      let first_is = eqb-true first 10 is in
      inl cc
  | inr other ↦ elim (cases_Bool (eqb first 13)) [
    | inl is ↦
        let c = class_some (is_byte 10) rest after (rw (other, is) at e) in
        let first_is = eqb-true first 13 is in
        let second_is = eqb-true c.0 10 c.2 in
        let rest_is = c.1 in
        inr cc
    | inr none ↦ let wrong : None ≡ Some after = rw (other, none) at e in absurd cc
  ]
]

pub joint_sound : (bytes after : List ℕ) → after_joint bytes ≡ Some after → IsJoined bytes after
unfolding after_joint
joint_sound [] after e = absurd cc
joint_sound (first ∷ rest) after e = elim (cases_Bool (eqb first 92)) [
  | inl is ↦
      let first_is = eqb-true first 92 is in
      elim (end_sound rest after (rw is at e)) [
        | inl rest_is ↦ record { joint = 92 ∷ 10 ∷ []; is = inl refl; parts = cc }
        | inr rest_is ↦ record { joint = 92 ∷ 13 ∷ 10 ∷ []; is = inr refl; parts = cc }
      ]
  | inr other ↦ let wrong : None ≡ Some after = rw other at e in absurd cc
]

joint_at : (joint after : List ℕ) → IsJoint joint → after_joint (joint ++ after) ≡ Some after
unfolding after_joint after_end after_class
joint_at joint after (inl e) = rw e refl
joint_at joint after (inr e) = rw e refl

pub joined_at : (bytes after : List ℕ) → IsJoined bytes after → after_joint bytes ≡ Some after
joined_at bytes after j = ap after_joint j.parts ∙ joint_at j.joint after j.is

pub no_joint : (bytes after : List ℕ) → after_joint bytes ≡ None → IsJoined bytes after → ⊥
no_joint bytes after e j = let clash : None ≡ Some after = sym e ∙ joined_at bytes after j in cc

-- where no joint can begin, none is found
pub joint_none : (bytes : List ℕ) (o : Option (List ℕ)) → ((after : List ℕ) → IsJoined bytes after → ⊥) → after_joint bytes ≡ o
    → o ≡ None
joint_none bytes None h e = refl
joint_none bytes (Some after) h e = absurd (h after (joint_sound bytes after e))

pub joint_other : (first : ℕ) (rest : List ℕ) → first ≢ 92 → after_joint (first ∷ rest) ≡ None
unfolding after_joint
joint_other first rest other = rw (ne_eqb first 92 other) refl

pub some_joint : (joint : List ℕ) → IsJoint joint → 0 < length joint
some_joint joint (inl e) = rw e (omega arith)
some_joint joint (inr e) = rw e (omega arith)

pub joined_shorter : (bytes after : List ℕ) → IsJoined bytes after → length after < length bytes
joined_shorter bytes after j = omega
    (arith, ap length j.parts, length-append j.joint after, some_joint j.joint j.is)

pub joint_of_star : (rest : List ℕ) → after_joint (42 ∷ rest) ≡ None
unfolding after_joint
joint_of_star rest = refl

pub joint_of_none : after_joint [] ≡ None
unfolding after_joint
joint_of_none = refl

-- ---- a joint across a border

-- a joint begins the first run of bytes and ends in the second
record Crosses (front rest : List ℕ) : Type 0 where
  tail : List ℕ
  after : List ℕ
  some_tail : 0 < length tail
  rest_is : rest ≡ tail ++ after
  is : IsJoint (front ++ tail)

straddles_by : (first : ℕ) (front rest : List ℕ) (s : Straddles (first ∷ front) rest) (before : List ℕ) → s.before ≡ before
    → Crosses (first ∷ front) rest ⊎ Straddles front rest
straddles_by first front rest s [] e =
    let whole : first ∷ front ≡ s.head = rw e at s.front_is in
    inl (record {
      tail = s.tail;
      after = s.after;
      some_tail = s.some_tail;
      rest_is = s.rest_is;
      is = subst (λ h. IsJoint (h ++ s.tail)) (sym whole) s.is;
    })
straddles_by first front rest s (b ∷ before) e =
    let whole : first ∷ front ≡ b ∷ (before ++ s.head) = rw e at s.front_is in
    inr (record {
      before = before;
      head = s.head;
      tail = s.tail;
      after = s.after;
      some_head = s.some_head;
      some_tail = s.some_tail;
      front_is = cc;
      rest_is = s.rest_is;
      is = s.is;
    })

straddles_parts : (first : ℕ) (front rest : List ℕ) → Straddles (first ∷ front) rest
    → Crosses (first ∷ front) rest ⊎ Straddles front rest
straddles_parts first front rest s = straddles_by first front rest s s.before refl

pub straddles_none : (rest : List ℕ) → Straddles [] rest → ⊥
straddles_none rest s = omega (arith, ap length s.front_is, length-append s.before s.head, s.some_head)

pub straddles_more : (before front rest : List ℕ) → Straddles front rest → Straddles (before ++ front) rest
straddles_more before front rest s = record {
  before = before ++ s.before;
  head = s.head;
  tail = s.tail;
  after = s.after;
  some_head = s.some_head;
  some_tail = s.some_tail;
  front_is = ap (λ t. before ++ t) s.front_is ∙ sym (append_assoc before s.before s.head);
  rest_is = s.rest_is;
  is = s.is;
}

crosses_joined : (front rest : List ℕ) (c : Crosses front rest) → IsJoined (front ++ rest) c.after
crosses_joined front rest c = record {
  joint = front ++ c.tail;
  is = c.is;
  parts = ap (λ t. front ++ t) c.rest_is ∙ sym (append_assoc front c.tail c.after);
}

-- no joint begins here, and none stands across the border further on
pub straddles_not : (first : ℕ) (front rest : List ℕ) → after_joint (first ∷ (front ++ rest)) ≡ None
    → (Straddles front rest → ⊥) → Straddles (first ∷ front) rest → ⊥
straddles_not first front rest e h s = elim (straddles_parts first front rest s) [
  | inl c ↦ no_joint (first ∷ (front ++ rest)) c.after e (crosses_joined (first ∷ front) rest c)
  | inr later ↦ h later
]

crosses_first : (first : ℕ) (front rest : List ℕ) → first ≢ 92 → Crosses (first ∷ front) rest → ⊥
crosses_first first front rest other c = elim c.is [ inl e ↦ other cc | inr e ↦ other cc ]

no_more : (inside tail : List ℕ) → 0 < length tail → inside ++ tail ≡ [] → ⊥
no_more inside tail some e = omega (arith, ap length e, length-append inside tail, some)

past_newline : (inside rest : List ℕ) → Straddles (10 ∷ inside) rest → Straddles inside rest
past_newline inside rest s = elim (straddles_parts 10 inside rest s) [
  | inl c ↦ absurd (crosses_first 10 inside rest (λ e. cc) c)
  | inr later ↦ later
]

-- a joint that stands whole before the border does not count
pub straddles_past : (joint inside rest : List ℕ) → IsJoint joint → Straddles (joint ++ inside) rest → Straddles inside rest
straddles_past joint inside rest (inl e) s =
    let s2 : Straddles (92 ∷ 10 ∷ inside) rest = subst (λ j. Straddles (j ++ inside) rest) e s in
    elim (straddles_parts 92 (10 ∷ inside) rest s2) [
      | inl c ↦ absurd (elim c.is [
        | inl is ↦ let none : inside ++ c.tail ≡ [] = cc in no_more inside c.tail c.some_tail none
        | inr is ↦ cc
      ])
      | inr later ↦ past_newline inside rest later
    ]
straddles_past joint inside rest (inr e) s =
    let s2 : Straddles (92 ∷ 13 ∷ 10 ∷ inside) rest = subst (λ j. Straddles (j ++ inside) rest) e s in
    elim (straddles_parts 92 (13 ∷ 10 ∷ inside) rest s2) [
      | inl c ↦ absurd (elim c.is [
        | inl is ↦ cc
        | inr is ↦ let none : inside ++ c.tail ≡ [] = cc in no_more inside c.tail c.some_tail none
      ])
      | inr later ↦ elim (straddles_parts 13 (10 ∷ inside) rest later) [
        | inl c ↦ absurd (crosses_first 13 (10 ∷ inside) rest (λ e_2. cc) c)
        | inr last ↦ past_newline inside rest last
      ]
    ]

over : (head tail after : List ℕ) → 0 < length head → 0 < length tail → IsJoint (head ++ tail)
    → Straddles head (tail ++ after)
over head tail after some_head some_tail is = record {
  before = [];
  head = head;
  tail = tail;
  after = after;
  some_head = some_head;
  some_tail = some_tail;
  front_is = refl;
  rest_is = refl;
  is = is;
}

-- a joint at the front of both runs stands across the border, or whole in the first
split_short : (front rest after : List ℕ) → 0 < length front → front ++ rest ≡ 92 ∷ 10 ∷ after
    → Straddles front rest ⊎ ((more : List ℕ) × IsJoined front more)
split_short [] rest after some e = absurd (omega (arith, some))
split_short (a ∷ []) rest after some e =
    let a_is : a ≡ 92 = cc in
    let rest_is : rest ≡ (10 ∷ []) ++ after = cc in
    inl (rw (a_is, rest_is) (over (92 ∷ []) (10 ∷ []) after (omega arith) (omega arith) (inl refl)))
split_short (a ∷ b ∷ more) rest after some e =
    inr (more, record { joint = 92 ∷ 10 ∷ []; is = inl refl; parts = cc })

split_long : (front rest after : List ℕ) → 0 < length front → front ++ rest ≡ 92 ∷ 13 ∷ 10 ∷ after
    → Straddles front rest ⊎ ((more : List ℕ) × IsJoined front more)
split_long [] rest after some e = absurd (omega (arith, some))
split_long (a ∷ []) rest after some e =
    let a_is : a ≡ 92 = cc in
    let rest_is : rest ≡ (13 ∷ 10 ∷ []) ++ after = cc in
    inl (rw (a_is, rest_is) (over (92 ∷ []) (13 ∷ 10 ∷ []) after (omega arith) (omega arith) (inr refl)))
split_long (a ∷ b ∷ []) rest after some e =
    let a_is : a ≡ 92 = cc in
    let b_is : b ≡ 13 = cc in
    let rest_is : rest ≡ (10 ∷ []) ++ after = cc in
    inl (rw (a_is, b_is, rest_is) (over (92 ∷ 13 ∷ []) (10 ∷ []) after (omega arith) (omega arith) (inr refl)))
split_long (a ∷ b ∷ c ∷ more) rest after some e =
    inr (more, record { joint = 92 ∷ 13 ∷ 10 ∷ []; is = inr refl; parts = cc })

pub split_joint : (front rest after : List ℕ) → 0 < length front → IsJoined (front ++ rest) after
    → Straddles front rest ⊎ ((more : List ℕ) × IsJoined front more)
split_joint front rest after some j = elim j.is [
  | inl is ↦ split_short front rest after some (j.parts ∙ ap (λ t. t ++ after) is)
  | inr is ↦ split_long front rest after some (j.parts ∙ ap (λ t. t ++ after) is)
]

-- no `*` stands in a joint
abbrev is_no_star : ℕ → Bool
is_no_star byte = not (eqb byte 42)

joint_no_star : (joint : List ℕ) → IsJoint joint → list_all is_no_star joint ≡ true
joint_no_star joint (inl e) = rw e refl
joint_no_star joint (inr e) = rw e refl

and_false : (x : Bool) → (x && false) ≡ false
and_false true = refl
and_false false = refl

star_in : (front more : List ℕ) → list_all is_no_star (front ++ 42 ∷ more) ≡ false
star_in [] more = refl
star_in (byte ∷ front) more = ap (λ t. is_no_star byte && t) (star_in front more) ∙ and_false (is_no_star byte)

no_star : (front more : List ℕ) → IsJoint (front ++ 42 ∷ more) → ⊥
no_star front more j = both_ways (list_all is_no_star (front ++ 42 ∷ more)) (star_in front more) (joint_no_star _ j)

star_by : (front rest : List ℕ) (s : Straddles front rest) (tail more : List ℕ) → s.tail ≡ tail → rest ≡ 42 ∷ more → ⊥
star_by front rest s [] more e is = omega (arith, s.some_tail, ap length e)
star_by front rest s (b ∷ tail) more e is =
    let whole : 42 ∷ more ≡ b ∷ (tail ++ s.after) = sym is ∙ s.rest_is ∙ ap (λ t. t ++ s.after) e in
    let b_is : b ≡ 42 = cc in
    no_star s.head tail (subst (λ t. IsJoint (s.head ++ t)) (e ∙ ap (λ x. x ∷ tail) b_is) s.is)

pub straddles_star : (front more : List ℕ) → Straddles front (42 ∷ more) → ⊥
straddles_star front more s = star_by front (42 ∷ more) s s.tail more refl refl

-- ---- what bytes count as

joint_first : (bytes after : List ℕ) → IsJoined bytes after → (more : List ℕ) × (bytes ≡ 92 ∷ more)
joint_first bytes after j = elim j.is [
  | inl is ↦ (10 ∷ after, j.parts ∙ ap (λ t. t ++ after) is)
  | inr is ↦ (13 ∷ 10 ∷ after, j.parts ∙ ap (λ t. t ++ after) is)
]

newline_first : (bytes text rest : List ℕ) → Counts bytes text → bytes ≡ 10 ∷ rest → ⊥
newline_first _ _ rest nothing e = cc
newline_first bytes _ rest (joined {after} j c) e =
    let f = joint_first bytes after j in
    let clash : 92 ∷ f.0 ≡ 10 ∷ rest = sym f.1 ∙ e in
    cc
newline_first _ _ rest (plain other c) e = other cc

pub tails : (a b : ℕ) (one two : List ℕ) → a ∷ one ≡ b ∷ two → one ≡ two
tails a b one two e = cc

pub heads : (a b : ℕ) (one two : List ℕ) → a ∷ one ≡ b ∷ two → a ≡ b
heads a b one two e = cc

return_joint : (bytes after rest : List ℕ) → IsJoined bytes after → bytes ≡ 13 ∷ rest → ⊥
return_joint bytes after rest j e =
    let f = joint_first bytes after j in
    eqb-false 92 13 refl (heads 92 13 f.0 rest (sym f.1 ∙ e))

return_first : (bytes text more rest : List ℕ) → Counts bytes text → bytes ≡ 13 ∷ more → more ≡ 10 ∷ rest → ⊥
return_first _ _ more rest nothing e is = cc
return_first bytes _ more rest (joined {after} j c) e is = return_joint bytes after more j e
return_first _ _ more rest (plain {byte} {after} {text} other c) e is =
    newline_first after text rest c (tails byte 13 after more e ∙ is)

pub plain_joint : (byte : ℕ) (rest text after : List ℕ) → Counts rest text → IsJoined (byte ∷ rest) after → ⊥
plain_joint byte rest text after c j = elim j.is [
  | inl is ↦
      let whole : byte ∷ rest ≡ 92 ∷ 10 ∷ after = j.parts ∙ ap (λ t. t ++ after) is in
      newline_first rest text after c (tails byte 92 rest (10 ∷ after) whole)
  | inr is ↦
      let whole : byte ∷ rest ≡ 92 ∷ 13 ∷ 10 ∷ after = j.parts ∙ ap (λ t. t ++ after) is in
      return_first rest text (10 ∷ after) after c (tails byte 92 rest (13 ∷ 10 ∷ after) whole) refl
]

-- what counts, by what follows a joint at the front
abbrev pub Counted : Option (List ℕ) → List ℕ → List ℕ → Type 0
Counted (Some after) bytes text = (more : List ℕ) × Counts after more × (text ≡ 32 ∷ more)
Counted None [] text = text ≡ []
Counted None (first ∷ rest) text = (first ≢ 10) × (more : List ℕ) × Counts rest more × (text ≡ first ∷ more)

pub counted : (bytes text : List ℕ) → Counts bytes text → Counted (after_joint bytes) bytes text
counted _ _ nothing = rw joint_of_none refl
counted bytes _ (joined {after} {text} j c) = rw (joined_at bytes after j) (text, c, refl)
counted _ _ (plain {byte} {after} {text} other c) =
    rw (joint_none (byte ∷ after) _ (λ b j. plain_joint byte after text b c j) refl) (other, text, c, refl)

pub counts_once : (bytes one two : List ℕ) → Counts bytes one → Counts bytes two → one ≡ two
counts_once _ _ two nothing d =
    let i : Counted None [] two = rw joint_of_none at (counted [] two d) in
    sym i
counts_once bytes _ two (joined {after} {text} j c) d =
    let i : Counted (Some after) bytes two = rw (joined_at bytes after j) at (counted bytes two d) in
    ap (λ (t : List ℕ). 32 ∷ t) (counts_once after text i.0 c i.1) ∙ sym i.2
counts_once _ _ two (plain {byte} {after} {text} other c) d =
    let none = joint_none (byte ∷ after) (after_joint (byte ∷ after)) (λ b j. plain_joint byte after text b c j) refl in
    let i : Counted None (byte ∷ after) two = rw none at (counted (byte ∷ after) two d) in
    ap (λ (t : List ℕ). byte ∷ t) (counts_once after text i.1 c i.2) ∙ sym i.3

pub joined_more : (bytes after more : List ℕ) → IsJoined bytes after → IsJoined (bytes ++ more) (after ++ more)
joined_more bytes after more j = record {
  joint = j.joint;
  is = j.is;
  parts = ap (λ t. t ++ more) j.parts ∙ append_assoc j.joint after more;
}

pub counts_append : (front text back more : List ℕ) → Counts front text → Counts back more → Counts (front ++ back) (text ++ more)
counts_append _ _ back more nothing d = d
counts_append front _ back more (joined {after} {text} j c) d =
    joined (joined_more front after back j) (counts_append after text back more c d)
counts_append _ _ back more (plain {byte} {after} {text} other c) d = plain other (counts_append after text back more c d)

pub no_newline : (byte : ℕ) → is_no_newline byte ≡ true → byte ≢ 10
no_newline byte h = eqb-false byte 10 (not-true (eqb byte 10) h)

pub is_in_line : (byte : ℕ) → byte ≢ 10 → is_no_newline byte ≡ true
is_in_line byte h = rw (ne_eqb byte 10 h) refl

-- bytes without a newline count as themselves
pub counts_line : (bytes : List ℕ) → list_all is_no_newline bytes ≡ true → Counts bytes bytes
counts_line [] h = nothing
counts_line (byte ∷ rest) h =
    let p = and_parts (is_no_newline byte) (list_all is_no_newline rest) h in
    plain (no_newline byte p.0) (counts_line rest p.1)

-- no joint stands in what has no blank
pub joint_blank : (bytes after : List ℕ) → list_all is_no_blank bytes ≡ true → IsJoined bytes after → ⊥
joint_blank bytes after h j = elim j.is [
  | inl is ↦
      let whole : bytes ≡ 92 ∷ 10 ∷ after = j.parts ∙ ap (λ t. t ++ after) is in
      let wrong : false ≡ true = sym (ap (list_all is_no_blank) whole) ∙ h in
      cc
  | inr is ↦
      let whole : bytes ≡ 92 ∷ 13 ∷ 10 ∷ after = j.parts ∙ ap (λ t. t ++ after) is in
      let wrong : false ≡ true = sym (ap (list_all is_no_blank) whole) ∙ h in
      cc
]

-- ---- counting from the front

-- the rest counts as something, and after the text so far that is what the bytes count as
pub record CountsOn (bytes text rest : List ℕ) : Type 0 where
  pub some : (more : List ℕ) × Counts rest more
  pub carries : (more : List ℕ) → Counts rest more → Counts bytes (text ++ more)

pub counts_start : (bytes : List ℕ) → (text : List ℕ) × Counts bytes text → CountsOn bytes [] bytes
counts_start bytes some = record { some = some; carries = λ more c. c }

pub counts_joint : (bytes text rest after : List ℕ) → after_joint rest ≡ Some after → CountsOn bytes text rest
    → CountsOn bytes (text ++ 32 ∷ []) after
counts_joint bytes text rest after e on =
    let i : Counted (Some after) rest on.some.0 = rw e at (counted rest on.some.0 on.some.1) in
    record {
      some = (i.0, i.1);
      carries = λ more c. subst (Counts bytes) (sym (append_assoc text (32 ∷ []) more))
          (on.carries (32 ∷ more) (joined (joint_sound rest after e) c));
    }

counts_byte_at : (bytes text rest : List ℕ) (first : ℕ) → after_joint (first ∷ rest) ≡ None → CountsOn bytes text (first ∷ rest)
    → CountsOn bytes (text ++ first ∷ []) rest
counts_byte_at bytes text rest first e on =
    let i : Counted None (first ∷ rest) on.some.0 = rw e at (counted (first ∷ rest) on.some.0 on.some.1) in
    record {
      some = (i.1, i.2);
      carries = λ more c. subst (Counts bytes) (sym (append_assoc text (first ∷ []) more))
          (on.carries (first ∷ more) (plain i.0 c));
    }

pub counts_byte : (bytes text whole rest : List ℕ) (first : ℕ) → whole ≡ first ∷ rest → after_joint whole ≡ None
    → CountsOn bytes text whole → CountsOn bytes (text ++ first ∷ []) rest
counts_byte bytes text whole rest first is e on =
    counts_byte_at bytes text rest first (ap after_joint (sym is) ∙ e) (subst (CountsOn bytes text) is on)

counts_none : (text : List ℕ) → Counts [] text → text ≡ []
counts_none text c = rw joint_of_none at (counted [] text c)

pub counts_end : (bytes text rest : List ℕ) → length rest ≡ 0 → CountsOn bytes text rest → Counts bytes text
counts_end bytes text [] is on =
    subst (Counts bytes) (ap (λ m. text ++ m) (counts_none on.some.0 on.some.1) ∙ append-nil text)
    (on.carries on.some.0 on.some.1)
counts_end bytes text (first ∷ rest) is on = absurd (omega (arith, is))
