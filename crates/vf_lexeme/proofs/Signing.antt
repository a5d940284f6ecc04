-- Signs: the longest one at the front.
use Rattle.std.proofs.Common.{◌≡◌, ℕ, ◌+◌, ◌-◌, ◌<◌, ◌≤◌, ◌==◌, ◌&&◌, ◌||◌, Bool, true, false, not, leb, if◌then◌else◌, List, [], ◌∷◌, ◌++◌, length, take, drop, refl, sym, ap, ◌∙◌, inl, inr, arith}
use Rattle.std.specs.List.{list_all, list_any}
use Rattle.std.specs.Str.{bytes_eq}
use Rattle.std.proofs.lemmas.Bool.{cases_Bool, and_parts, or_cases, both_ways, leb-true, not-true, or_parts, agree_below, agree_below_at}
use Rattle.std.proofs.lemmas.List.{take-append-drop, length-take-le}
use Rattle.std.proofs.lemmas.Slice.Eq.{bytes_eq-Decides}
use Rattle.vf_number.specs.Numbers.{begins_number}
use Rattle.vf_lexeme.specs.Bytes.{is_blank, begins_name}
use Rattle.vf_lexeme.specs.Signs.{signs, is_sign, OpensSkip, IsSignAt}
use Rattle.vf_lexeme.specs.Lexemes.{is_stray}
use Rattle.vf_lexeme.specs.Reading.{short_length, sign_length}

-- ---- what holds of every sign

any_all : (p : List ℕ → Bool) (x : List ℕ) (ss : List (List ℕ)) → list_all p ss ≡ true → list_any (bytes_eq x) ss ≡ true
    → p x ≡ true
any_all p x [] all h = absurd cc
any_all p x (s ∷ ss) all h =
    let q = and_parts (p s) (list_all p ss) all in
    elim (or_cases (bytes_eq x s) (list_any (bytes_eq x) ss) h) [
      | inl same ↦ ap p ((bytes_eq-Decides x s).0 same) ∙ q.0
      | inr later ↦ any_all p x ss q.1 later
    ]

-- the first bytes that neither a blank, a name, a number nor one of `"`, `\`, `$` and '`' has
abbrev pub begins_other : ℕ → Bool
begins_other b = not (is_blank b || begins_name b || begins_number b || b == 34 || b == 92 || b == 36 || b == 96)

abbrev begins_sign : List ℕ → Bool
begins_sign [] = false
begins_sign (b ∷ rest) = begins_other b

all_begin : list_all begins_sign signs ≡ true
all_begin = refl

all_short : list_all (λ sign. leb (length sign) 3) signs ≡ true
all_short = refl

pub sign_begins : (b : ℕ) (rest : List ℕ) → is_sign (b ∷ rest) ≡ true → begins_other b ≡ true
unfolding is_sign
sign_begins b rest h = any_all begins_sign (b ∷ rest) signs all_begin h

abbrev prints_sign : List ℕ → Bool
prints_sign [] = false
prints_sign (b ∷ rest) = leb 32 b && leb b 126

all_print : list_all prints_sign signs ≡ true
all_print = refl

pub sign_printable : (b : ℕ) (rest : List ℕ) → is_sign (b ∷ rest) ≡ true → (leb 32 b && leb b 126) ≡ true
unfolding is_sign
sign_printable b rest h = any_all prints_sign (b ∷ rest) signs all_print h

pub no_sign : is_sign [] ≡ true → ⊥
unfolding is_sign
no_sign h = let wrong : false ≡ true = any_all begins_sign [] signs all_begin h in absurd cc

pub sign_short : (sign : List ℕ) → is_sign sign ≡ true → length sign ≤ 3
unfolding is_sign
sign_short sign h = leb-true (length sign) 3 (any_all (λ sign. leb (length sign) 3) sign signs all_short h)

-- ---- the longest

short_one : (a b : ℕ) → is_sign (a ∷ []) ≡ true → 1 ≤ short_length a b
short_one a b h = elim (cases_Bool (is_sign (a ∷ b ∷ []))) [
  | inl two ↦ rw two (omega arith)
  | inr other ↦ rw (other, h) (omega arith)
]

short_two : (a b : ℕ) → is_sign (a ∷ b ∷ []) ≡ true → 2 ≤ short_length a b
short_two a b h = rw h (omega arith)

short_in : (a b c : ℕ) (rest : List ℕ) (k : ℕ) → k ≤ short_length a b → k ≤ 2 → k ≤ sign_length (a ∷ b ∷ c ∷ rest)
unfolding sign_length
short_in a b c rest k h small = elim (cases_Bool (is_sign (a ∷ b ∷ c ∷ []))) [
  | inl three ↦ rw three (omega arith)
  | inr other ↦ rw other h
]

at_three : (a b c : ℕ) (rest : List ℕ) → is_sign (a ∷ b ∷ c ∷ []) ≡ true → 3 ≤ sign_length (a ∷ b ∷ c ∷ rest)
unfolding sign_length
at_three a b c rest h = rw h (omega arith)

at_one : (a : ℕ) → is_sign (a ∷ []) ≡ true → 1 ≤ sign_length (a ∷ [])
unfolding sign_length
at_one a h = rw h (omega arith)

at_two : (a b k : ℕ) → k ≤ short_length a b → k ≤ sign_length (a ∷ b ∷ [])
unfolding sign_length
at_two a b k h = h

pub sign_most : (sign rest : List ℕ) → is_sign sign ≡ true → length sign ≤ sign_length (sign ++ rest)
sign_most [] rest h = omega arith
sign_most (a ∷ []) [] h = at_one a h
sign_most (a ∷ []) (b ∷ []) h = at_two a b 1 (short_one a b h)
sign_most (a ∷ []) (b ∷ c ∷ rest) h = short_in a b c rest 1 (short_one a b h) (omega arith)
sign_most (a ∷ b ∷ []) [] h = at_two a b 2 (short_two a b h)
sign_most (a ∷ b ∷ []) (c ∷ rest) h = short_in a b c rest 2 (short_two a b h) (omega arith)
sign_most (a ∷ b ∷ c ∷ []) rest h = at_three a b c rest h
sign_most (a ∷ b ∷ c ∷ d ∷ sign) rest h = let short = sign_short (a ∷ b ∷ c ∷ d ∷ sign) h in absurd (omega arith)

-- ---- what is measured is a sign

record IsMeasured (text : List ℕ) (n : ℕ) : Type 0 where
  within : n ≤ length text
  sign : 0 < n → is_sign (take n text) ≡ true

one_measured : (a : ℕ) (rest : List ℕ) → IsMeasured (a ∷ rest) (if is_sign (a ∷ []) then 1 else 0)
one_measured a rest = elim (cases_Bool (is_sign (a ∷ []))) [
  | inl h ↦ rw h (record { within = omega arith; sign = λ x. h })
  | inr h ↦ rw h (record { within = omega arith; sign = λ x. absurd (omega arith) })
]

short_measured : (a b : ℕ) (rest : List ℕ) → IsMeasured (a ∷ b ∷ rest) (short_length a b)
short_measured a b rest = elim (cases_Bool (is_sign (a ∷ b ∷ []))) [
  | inl h ↦ rw h (record { within = omega arith; sign = λ x. h })
  | inr h ↦ rw h (one_measured a (b ∷ rest))
]

measured : (text : List ℕ) → IsMeasured text (sign_length text)
unfolding sign_length
measured [] = record { within = omega arith; sign = λ x. absurd (omega arith) }
measured (a ∷ []) = one_measured a []
measured (a ∷ b ∷ []) = short_measured a b []
measured (a ∷ b ∷ c ∷ rest) = elim (cases_Bool (is_sign (a ∷ b ∷ c ∷ []))) [
  | inl h ↦ rw h (record { within = omega arith; sign = λ x. h })
  | inr h ↦ rw h (short_measured a b (c ∷ rest))
]

pub sign_sound : (text : List ℕ) → (OpensSkip text → ⊥) → 0 < sign_length text
    → IsSignAt text (take (sign_length text) text) (drop (sign_length text) text)
sign_sound text skips some =
    let n = sign_length text in
    let m = measured text in
    let size : length (take n text) ≡ n = length-take-le n text m.within in
    record {
      listed = m.sign some;
      parts = sym (take-append-drop n text);
      longest = λ other more h e. let most = sign_most other more h in let same : sign_length text ≡ sign_length (other ++ more) =
          ap sign_length e in omega arith;
      no_skip = skips;
    }

-- ---- and back

take_front : (front rest : List ℕ) → take (length front) (front ++ rest) ≡ front
take_front [] rest = refl
take_front (b ∷ front) rest = ap (λ (t : List ℕ). b ∷ t) (take_front front rest)

drop_front : (front rest : List ℕ) → drop (length front) (front ++ rest) ≡ rest
drop_front [] rest = refl
drop_front (b ∷ front) rest = drop_front front rest

pub record IsMeasuredAs (text sign rest : List ℕ) : Type 0 where
  pub some : 0 < sign_length text
  pub front : take (sign_length text) text ≡ sign
  pub after : drop (sign_length text) text ≡ rest

pub sign_complete : (text sign rest : List ℕ) → IsSignAt text sign rest → IsMeasuredAs text sign rest
sign_complete text [] rest s = absurd (no_sign s.listed)
sign_complete text (b ∷ sign) rest s =
    let n = sign_length text in
    let k = length (b ∷ sign) in
    let m = measured text in
    let same : sign_length text ≡ sign_length ((b ∷ sign) ++ rest) = ap sign_length s.parts in
    let most = sign_most (b ∷ sign) rest s.listed in
    let some : 0 < n = omega arith in
    let least : length (take n text) ≤ k = s.longest (take n text) (drop n text) (m.sign some) (sym (take-append-drop n text)) in
    let size : length (take n text) ≡ n = length-take-le n text m.within in
    let is : n ≡ k = omega arith in
    record {
      some = some;
      front = ap (λ (x : ℕ). take x text) is ∙ ap (take k) s.parts ∙ take_front (b ∷ sign) rest;
      after = ap (λ (x : ℕ). drop x text) is ∙ ap (drop k) s.parts ∙ drop_front (b ∷ sign) rest;
    }

-- ---- no sign

-- every printable byte that begins nothing else is a sign
covered : agree_below (λ i. not (begins_other (32 + i)) || is_sign ((32 + i) ∷ [])) (λ i. true) 95 ≡ true
unfolding is_sign
covered = refl

printable_sign : (i : ℕ) → i < 95 → begins_other (32 + i) ≡ true → is_sign ((32 + i) ∷ []) ≡ true
printable_sign i h other =
    let t = agree_below_at (λ i. not (begins_other (32 + i)) || is_sign ((32 + i) ∷ [])) (λ i. true) 95 i covered h in
    elim (or_cases (not (begins_other (32 + i))) (is_sign ((32 + i) ∷ [])) t) [
      | inl none ↦ absurd (both_ways (begins_other (32 + i)) (not-true (begins_other (32 + i)) none) other)
      | inr sign ↦ sign
    ]

first_of_seven : (a b c d e f g : Bool) → (a || b || c || d || e || f || g) ≡ false → a ≡ false
first_of_seven true b c d e f g h =
    let p = or_parts (true || b || c || d || e || f) g h in
    let q = or_parts (true || b || c || d || e) f p.0 in
    let r = or_parts (true || b || c || d) e q.0 in
    let s = or_parts (true || b || c) d r.0 in
    let t = or_parts (true || b) c s.0 in
    (or_parts true b t.0).0
first_of_seven false b c d e f g h = refl

no_short_sign : (a : ℕ) (rest : List ℕ) → sign_length (a ∷ rest) ≡ 0 → is_sign (a ∷ []) ≡ true → ⊥
no_short_sign a rest h sign = let most = sign_most (a ∷ []) rest sign in absurd (omega arith)

pub stray_sound : (a : ℕ) (rest : List ℕ) → begins_other a ≡ true → sign_length (a ∷ rest) ≡ 0 → is_stray a ≡ true
stray_sound a rest other h = elim (cases_Bool (leb 32 a && leb a 126)) [
  | inl printable ↦
      let p = and_parts (leb 32 a) (leb a 126) printable in
      let low = leb-true 32 a p.0 in
      let high = leb-true a 126 p.1 in
      let is : 32 + (a - 32) ≡ a = omega arith in
      let sign : is_sign ((32 + (a - 32)) ∷ []) ≡ true = printable_sign (a - 32) (omega arith) (ap begins_other is ∙ other) in
      absurd (no_short_sign a rest h (ap (λ (b : ℕ). is_sign (b ∷ [])) (sym is) ∙ sign))
  | inr odd ↦
      let none = not-true (is_blank a || begins_name a || begins_number a || a == 34 || a == 92 || a == 36 || a == 96) other in
      let blank : is_blank a ≡ false =
      first_of_seven (is_blank a) (begins_name a) (begins_number a) (a == 34) (a == 92) (a == 36) (a == 96) none in
      rw (blank, odd) refl
]
