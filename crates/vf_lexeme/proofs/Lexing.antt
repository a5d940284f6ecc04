-- What stands at the front of a text is what `lexeme_at` reads there, and nothing else.
use Rattle.std.proofs.Common.{◌≡◌, ℕ, zero, suc, ◌<◌, ◌==◌, ◌&&◌, ◌||◌, Bool, true, false, not, eqb, leb, List, [], ◌∷◌, ◌++◌, length, take, drop, Option, Some, None, Result, Ok, Err, refl, sym, ap, ap₂, ◌∙◌, inl, inr, subst, arith}
use Rattle.std.specs.List.{list_all}
use Rattle.std.specs.Result.{IfOk, IfErr}
use Rattle.std.proofs.lemmas.Bool.{cases_Bool, and_parts, and_from, or_cases, or_from, or_parts, ne_eqb, eqb-true, eqb-false, both_ways, leb-true, lt-leb, not-true, not_from_false, false_from_ne_true, true_from_ne_false, agree_below, agree_below_at, cases_lt}
use Rattle.vf_fours.specs.Bits.{FourState}
use Rattle.vf_number.specs.declared.fault.NumberFault.{NumberFault}
use Rattle.vf_number.specs.Runs.{run, after_run}
use Rattle.vf_number.specs.Numbers.{Read, IsNumber, begins_number, BeginsNumber}
use Rattle.vf_number.specs.Reading.{Shows, number_at}
use Rattle.vf_number.proofs.CallerLemmas.{run_parts, run_all, after_run_ends, run_of, after_run_of, number_sound, number_complete, number_begins, after_shorter}
use Rattle.vf_lexeme.specs.declared.kinds.TokenKind.TheVariants as kinds
use Rattle.vf_lexeme.specs.declared.kinds.Lexeme.{Lexeme}
use Rattle.vf_lexeme.specs.declared.kinds.Lexeme.TheVariants as lexemes
use Rattle.vf_lexeme.specs.declared.kinds.LexemeFault.{LexemeFault}
use Rattle.vf_lexeme.specs.declared.kinds.LexemeFault.TheVariants.{BadCharacter, OpenComment, OpenString, BadNumber, TooWide, Memory}
use Rattle.vf_lexeme.specs.Bytes.{is_digit, is_letter, is_blank, begins_name, is_name_byte, is_no_blank, Ends}
use Rattle.vf_lexeme.specs.Words.{IsName, is_reserved}
use Rattle.vf_lexeme.specs.Strings.{IsQuoted}
use Rattle.vf_lexeme.specs.Signs.{is_sign, IsSignAt}
use Rattle.vf_lexeme.specs.Lexemes.{Seen, is_stray, Begins, blank, skipped, open_comment, name, word, escaped, system, number, bad_number, quoted, open_string, sign, directive, dollar, stray, Refuses}
use Rattle.vf_lexeme.specs.Reading as reading
use Rattle.vf_lexeme.specs.Reading.{opens_skip, after_skip, inside_at, sign_length, other_lexeme, lexeme_at, decoded, Fails, Gives}
use Rattle.vf_lexeme.proofs.PlainNames.{first_in_name, is_name_front}
use Rattle.vf_lexeme.proofs.Skipping.{skip_sound, open_sound, skip_complete, open_complete, opens_not, opens_sound}
use Rattle.vf_lexeme.proofs.Quoting.{string_sound, string_complete}
use Rattle.vf_lexeme.proofs.Signing.{begins_other, sign_begins, sign_printable, no_sign, sign_sound, sign_complete, stray_sound}
use Rattle.vf_lexeme.proofs.Taking.{begins_takes}

-- ---- first bytes

-- the test of a byte that begins a token holds of no byte of another class; all such bytes are below 128
low : (test : ℕ → Bool) (b : ℕ) → agree_below (λ i. test i) (λ i. false) 128 ≡ true → b < 128 → test b ≡ false
low test b t h = agree_below_at test (λ i. false) 128 b t h

letter_low : (b : ℕ) → begins_name b ≡ true → b < 128
letter_low b h = elim (or_cases (is_letter b) (eqb b 95) h) [
  | inr e ↦ let is = eqb-true b 95 e in omega arith
  | inl l ↦ elim (or_cases (leb 65 b && leb b 90) (leb 97 b && leb b 122) l) [
    | inl u ↦ let top = leb-true b 90 (and_parts (leb 65 b) (leb b 90) u).1 in omega arith
    | inr u ↦ let top = leb-true b 122 (and_parts (leb 97 b) (leb b 122) u).1 in omega arith
  ]
]

digit_low : (b : ℕ) → begins_number b ≡ true → b < 128
digit_low b h = elim (or_cases (is_digit b) (eqb b 39) h) [
  | inr e ↦ let is = eqb-true b 39 e in omega arith
  | inl d ↦ let top = leb-true b 57 (and_parts (leb 48 b) (leb b 57) d).1 in omega arith
]

pub name_no_blank : (b : ℕ) → begins_name b ≡ true → is_blank b ≡ false
name_no_blank b h =
    let both = low (λ i. begins_name i && is_blank i) b refl (letter_low b h) in
    false_from_ne_true (is_blank b) (λ e. both_ways (begins_name b && is_blank b) both (and_from (begins_name b) (is_blank b) h e))

number_no_blank : (b : ℕ) → begins_number b ≡ true → is_blank b ≡ false
number_no_blank b h =
    let both = low (λ i. begins_number i && is_blank i) b refl (digit_low b h) in
    false_from_ne_true (is_blank b)
    (λ e. both_ways (begins_number b && is_blank b) both (and_from (begins_number b) (is_blank b) h e))

number_no_name : (b : ℕ) → begins_number b ≡ true → begins_name b ≡ false
number_no_name b h =
    let both = low (λ i. begins_number i && begins_name i) b refl (digit_low b h) in
    false_from_ne_true (begins_name b)
    (λ e. both_ways (begins_number b && begins_name b) both (and_from (begins_number b) (begins_name b) h e))

pub skip_byte : ℕ → Bool
skip_byte b = b == 47 || b == 40

opens_by : (b : ℕ) (rest : List ℕ) → skip_byte b ≡ false → opens_skip (b ∷ rest) ≡ false
unfolding opens_skip skip_byte
opens_by b [] h = refl
opens_by b (c ∷ rest) h =
    let p = or_parts (eqb b 47) (eqb b 40) h in
    rw (p.0, p.1) refl

number_no_skip : (b : ℕ) (rest : List ℕ) → begins_number b ≡ true → opens_skip (b ∷ rest) ≡ false
unfolding skip_byte
number_no_skip b rest h =
    let both = low (λ i. begins_number i && (i == 47 || i == 40)) b refl (digit_low b h) in
    opens_by b rest (false_from_ne_true (b == 47 || b == 40)
    (λ e. both_ways (begins_number b && (b == 47 || b == 40)) both (and_from (begins_number b) (b == 47 || b == 40) h e)))

-- ---- soundness

skipped_sound : (text : List ℕ) (o : Option (List ℕ)) → opens_skip text ≡ true → after_skip text ≡ o
    → Begins text (reading.seen_skip o)
skipped_sound text (Some rest) h e = skipped rest (skip_sound text rest h e) refl
skipped_sound text None h e = open_comment (open_sound text h e) refl

named_sound : (first : ℕ) (rest : List ℕ) → begins_name first ≡ true → Begins (first ∷ rest) (reading.name_token (first ∷ rest))
unfolding reading.name_token
named_sound first rest h =
    let text = first ∷ rest in
    let front = run is_name_byte text in
    elim (cases_Bool (is_reserved front)) [
      | inl r ↦ word front (after_run is_name_byte text) (is_name_front first rest h) r (after_run_ends is_name_byte text)
          (run_parts is_name_byte text) (rw r refl)
      | inr r ↦ name front (after_run is_name_byte text) (is_name_front first rest h) r (after_run_ends is_name_byte text)
          (run_parts is_name_byte text) (rw r refl)
    ]

escaped_sound : (rest : List ℕ) → Begins (92 ∷ rest) (reading.escaped_name rest)
unfolding reading.escaped_name
escaped_sound rest = escaped (run is_no_blank rest) (after_run is_no_blank rest) (run_all is_no_blank rest)
    (after_run_ends is_no_blank rest) (ap (λ (t : List ℕ). 92 ∷ t) (run_parts is_no_blank rest)) refl

-- what a `$` begins
run_dollar : (rest : List ℕ) → run is_name_byte (36 ∷ rest) ≡ 36 ∷ run is_name_byte rest
unfolding run
run_dollar rest = refl

after_dollar : (rest : List ℕ) → after_run is_name_byte (36 ∷ rest) ≡ after_run is_name_byte rest
unfolding after_run
after_dollar rest = refl

system_none : (rest : List ℕ) → run is_name_byte rest ≡ [] → reading.system_name (36 ∷ rest) ≡ Err BadCharacter
unfolding reading.system_name
system_none rest h = rw (run_dollar rest, h) refl

system_some : (rest : List ℕ) (first : ℕ) (more : List ℕ) → run is_name_byte rest ≡ first ∷ more
    → reading.system_name (36 ∷ rest) ≡ Ok (lexemes.Token (kinds.System (36 ∷ first ∷ more)), after_run is_name_byte rest)
unfolding reading.system_name
system_some rest first more h = rw (run_dollar rest, h, after_dollar rest, lt-leb (suc (suc (length more))) 1 (omega arith)) refl

run_none : (rest : List ℕ) → run is_name_byte rest ≡ [] → Ends is_name_byte rest
unfolding run
run_none [] h = tt
run_none (b ∷ rest) h = elim (cases_Bool (is_name_byte b)) [
  | inl i ↦ let some : b ∷ run is_name_byte rest ≡ [] = rw i at h in absurd cc
  | inr o ↦ o
]

system_by : (rest front : List ℕ) → run is_name_byte rest ≡ front → Begins (36 ∷ rest) (reading.system_name (36 ∷ rest))
system_by rest [] h = dollar rest (run_none rest h) refl (system_none rest h)
system_by rest (first ∷ more) h =
    let all : list_all is_name_byte (first ∷ more) ≡ true = sym (ap (list_all is_name_byte) h) ∙ run_all is_name_byte rest in
    let p = and_parts (is_name_byte first) (list_all is_name_byte more) all in
    let whole : rest ≡ first ∷ (more ++ after_run is_name_byte rest) = run_parts is_name_byte rest
    ∙ ap (λ (t : List ℕ). t ++ after_run is_name_byte rest) h in
    system first more (after_run is_name_byte rest) p.0 p.1 (after_run_ends is_name_byte rest) (ap (λ (t : List ℕ). 36 ∷ t) whole)
    (system_some rest first more h)

some_none : {A : Type 0} (o : Option A) (x : A) → o ≡ Some x → o ≡ None → ⊥
some_none None x e f = absurd cc
some_none (Some y) x e f = absurd cc

pub string_none : (text : List ℕ) → inside_at false text ≡ None → (value rest : List ℕ) → IsQuoted text value rest → ⊥
string_none text h value rest q =
    let p = string_complete text value rest q in
    some_none (inside_at false text) (p.0, rest) p.1 h

quoted_sound : (text : List ℕ) (o : Option (List ℕ × List ℕ)) → inside_at false text ≡ o
    → Begins (34 ∷ text) (reading.seen_string o)
quoted_sound text (Some p) h = quoted text (decoded 0 p.0) p.1 (string_sound text p.0 p.1 h) refl refl
quoted_sound text None h = open_string text (string_none text h) refl refl

numbered_by : (text : List ℕ) (r : Read) → IsNumber text r → Begins text (reading.seen_number r)
numbered_by text (Ok r) is = number r.0 r.1 is refl
numbered_by text (Err fault) is = bad_number fault is refl

numbered_sound : (first : ℕ) (rest : List ℕ) → begins_number first ≡ true → Begins (first ∷ rest) (reading.number_token (first ∷ rest))
unfolding reading.number_token
numbered_sound first rest h = numbered_by (first ∷ rest) (number_at (first ∷ rest)) (number_sound (first ∷ rest) h)

signed_sound : (first : ℕ) (rest : List ℕ) → begins_other first ≡ true → opens_skip (first ∷ rest) ≡ false
    → Begins (first ∷ rest) (reading.sign_token (first ∷ rest))
unfolding reading.sign_token
signed_sound first rest other h =
    let text = first ∷ rest in
    let n = sign_length text in
    elim (cases_Bool (n == 0)) [
      | inl z ↦ stray first rest (stray_sound first rest other (eqb-true n 0 z)) refl (rw z refl)
      | inr some ↦
          let not_zero = eqb-false n 0 some in
          sign (take n text) (drop n text) (sign_sound text (opens_not text h) (omega arith)) (rw some refl)
    ]

marked_sound : (first : ℕ) (rest : List ℕ) → is_blank first ≡ false → begins_name first ≡ false
    → opens_skip (first ∷ rest) ≡ false → Begins (first ∷ rest) (other_lexeme (first ∷ rest))
unfolding other_lexeme reading.string_token
marked_sound first rest blank_no name_no h = elim (cases_Bool (begins_number first)) [
  | inl n ↦ rw n (numbered_sound first rest n)
  | inr n ↦ elim (cases_Bool (eqb first 34)) [
    | inl q ↦ rw (n, eqb-true first 34 q) (quoted_sound rest (inside_at false rest) refl)
    | inr q ↦ elim (cases_Bool (eqb first 92)) [
      | inl e ↦ rw (n, q, eqb-true first 92 e) (escaped_sound rest)
      | inr e ↦ elim (cases_Bool (eqb first 36)) [
        | inl d ↦ rw (n, q, e, eqb-true first 36 d) (system_by rest (run is_name_byte rest) refl)
        | inr d ↦ elim (cases_Bool (eqb first 96)) [
          | inl g ↦ rw (n, q, e, d, eqb-true first 96 g) (directive rest refl refl)
          | inr g ↦
              let other : begins_other first ≡ true = rw (blank_no, name_no, n, q, e, d, g) refl in
              rw (n, q, e, d, g) (signed_sound first rest other h)
        ]
      ]
    ]
  ]
]

pub lexeme_sound : (text : List ℕ) → 0 < length text → Begins text (lexeme_at text)
unfolding lexeme_at reading.skipped_lexeme
lexeme_sound [] some = absurd (omega arith)
lexeme_sound (first ∷ rest) some = elim (cases_Bool (is_blank first)) [
  | inl b ↦ rw b (blank first rest b refl refl)
  | inr b ↦ elim (cases_Bool (begins_name first)) [
    | inl n ↦ rw (b, n) (named_sound first rest n)
    | inr n ↦ elim (cases_Bool (opens_skip (first ∷ rest))) [
      | inl s ↦ rw (b, n, s) (skipped_sound (first ∷ rest) (after_skip (first ∷ rest)) s refl)
      | inr s ↦ rw (b, n, s) (marked_sound first rest b n s)
    ]
  ]
]

-- ---- completeness

at_blank : (b : ℕ) (rest : List ℕ) → is_blank b ≡ true → lexeme_at (b ∷ rest) ≡ Ok (lexemes.Blank, rest)
unfolding lexeme_at
at_blank b rest h = rw h refl

at_name : (b : ℕ) (rest : List ℕ) → begins_name b ≡ true → lexeme_at (b ∷ rest) ≡ reading.name_token (b ∷ rest)
unfolding lexeme_at
at_name b rest h = rw (name_no_blank b h, h) refl

-- what opens a comment or an attribute begins with `/` or `(`
no_skip_here : opens_skip [] ≡ true → ⊥
unfolding opens_skip
no_skip_here h = absurd cc

pub skip_front : (text : List ℕ) → opens_skip text ≡ true → (b : ℕ) × (rest : List ℕ) × (text ≡ b ∷ rest) × (skip_byte b ≡ true)
skip_front [] h = absurd (no_skip_here h)
skip_front (b ∷ rest) h = (
  b,
  rest,
  refl,
  true_from_ne_false (skip_byte b)
      (λ e. both_ways (opens_skip (b ∷ rest)) (opens_by b rest e) h),
)

pub skip_byte_cases : (b : ℕ) → skip_byte b ≡ true → ((b == 96) ≡ false) × ((b == 34) ≡ false) × ((b == 92) ≡ false)
unfolding skip_byte
skip_byte_cases b h = elim (or_cases (eqb b 47) (eqb b 40) h) [
  | inl e ↦ rw (eqb-true b 47 e) (refl, refl, refl)
  | inr e ↦ rw (eqb-true b 40 e) (refl, refl, refl)
]

at_skip_byte : (b : ℕ) (rest : List ℕ) → skip_byte b ≡ true → opens_skip (b ∷ rest) ≡ true
    → lexeme_at (b ∷ rest) ≡ reading.seen_skip (after_skip (b ∷ rest))
unfolding lexeme_at reading.skipped_lexeme skip_byte
at_skip_byte b rest k h = elim (or_cases (eqb b 47) (eqb b 40) k) [
  | inl e ↦ let is = eqb-true b 47 e in let opens : opens_skip (47 ∷ rest) ≡ true = rw is at h in rw (is, opens) refl
  | inr e ↦ let is = eqb-true b 40 e in let opens : opens_skip (40 ∷ rest) ≡ true = rw is at h in rw (is, opens) refl
]

at_skip : (text : List ℕ) → opens_skip text ≡ true → lexeme_at text ≡ reading.seen_skip (after_skip text)
at_skip text h =
    let f = skip_front text h in
    let opens = sym (ap opens_skip f.2) ∙ h in
    ap lexeme_at f.2 ∙ at_skip_byte f.0 f.1 f.3 opens ∙ ap (λ t. reading.seen_skip (after_skip t)) (sym f.2)

named_complete : (name rest : List ℕ) → IsName name → Ends is_name_byte rest
    → lexeme_at (name ++ rest) ≡ Ok (lexemes.Token (reading.name_kind (is_reserved name) name), rest)
unfolding reading.name_token
named_complete [] rest is ends = absurd is
named_complete (b ∷ more) rest is ends =
    let all = and_from (is_name_byte b) (list_all is_name_byte more) (first_in_name b is.0) is.1 in
    at_name b (more ++ rest) is.0
    ∙ rw (run_of is_name_byte (b ∷ more) rest all ends, after_run_of is_name_byte (b ∷ more) rest all ends) refl

at_number : (b : ℕ) (rest : List ℕ) → begins_number b ≡ true
    → lexeme_at (b ∷ rest) ≡ reading.seen_number (number_at (b ∷ rest))
unfolding lexeme_at other_lexeme reading.number_token
at_number b rest h = rw (number_no_blank b h, number_no_name b h, number_no_skip b rest h, h) refl

number_first : (text : List ℕ) → BeginsNumber text → lexeme_at text ≡ reading.seen_number (number_at text)
number_first [] h = absurd h
number_first (b ∷ rest) h = at_number b rest h

number_seen : (text : List ℕ) (r : Read) → IsNumber text r → lexeme_at text ≡ reading.seen_number r
number_seen text r is = number_first text (number_begins text r is) ∙ ap reading.seen_number (number_complete text r is)

at_quote : (rest : List ℕ) → lexeme_at (34 ∷ rest) ≡ reading.seen_string (inside_at false rest)
unfolding lexeme_at other_lexeme reading.string_token opens_skip
at_quote [] = refl
at_quote (b ∷ rest) = refl

at_backslash : (rest : List ℕ) → lexeme_at
    (92 ∷ rest) ≡ Ok (lexemes.Token (kinds.Name (run is_no_blank rest)), after_run is_no_blank rest)
unfolding lexeme_at other_lexeme reading.escaped_name opens_skip
at_backslash [] = refl
at_backslash (b ∷ rest) = refl

at_dollar : (rest : List ℕ) → lexeme_at (36 ∷ rest) ≡ reading.system_name (36 ∷ rest)
unfolding lexeme_at other_lexeme opens_skip
at_dollar [] = refl
at_dollar (b ∷ rest) = refl

at_grave : (rest : List ℕ) → lexeme_at (96 ∷ rest) ≡ Ok (lexemes.Directive, rest)
unfolding lexeme_at other_lexeme opens_skip
at_grave [] = refl
at_grave (b ∷ rest) = refl

record IsOther (b : ℕ) : Type 0 where
  blank_no : is_blank b ≡ false
  name_no : begins_name b ≡ false
  number_no : begins_number b ≡ false
  quote_no : (b == 34) ≡ false
  escape_no : (b == 92) ≡ false
  dollar_no : (b == 36) ≡ false
  grave_no : (b == 96) ≡ false

other_parts : (b : ℕ) → begins_other b ≡ true → IsOther b
other_parts b h =
    let all = not-true (is_blank b || begins_name b || begins_number b || b == 34 || b == 92 || b == 36 || b == 96) h in
    let p = or_parts (is_blank b || begins_name b || begins_number b || b == 34 || b == 92 || b == 36) (b == 96) all in
    let q = or_parts (is_blank b || begins_name b || begins_number b || b == 34 || b == 92) (b == 36) p.0 in
    let r = or_parts (is_blank b || begins_name b || begins_number b || b == 34) (b == 92) q.0 in
    let s = or_parts (is_blank b || begins_name b || begins_number b) (b == 34) r.0 in
    let t = or_parts (is_blank b || begins_name b) (begins_number b) s.0 in
    let u = or_parts (is_blank b) (begins_name b) t.0 in
    record { blank_no = u.0; name_no = u.1; number_no = t.1; quote_no = s.1; escape_no = r.1; dollar_no = q.1; grave_no = p.1 }

at_other : (b : ℕ) (rest : List ℕ) → begins_other b ≡ true → opens_skip (b ∷ rest) ≡ false
    → lexeme_at (b ∷ rest) ≡ reading.sign_token (b ∷ rest)
unfolding lexeme_at other_lexeme
at_other b rest h k =
    let o = other_parts b h in
    rw (o.blank_no, o.name_no, k, o.number_no, o.quote_no, o.escape_no, o.dollar_no, o.grave_no) refl

seen_sign : (text front rest : List ℕ) (n : ℕ) → sign_length text ≡ n → 0 < n → take n text ≡ front → drop n text ≡ rest
    → reading.sign_token text ≡ Ok (lexemes.Token (kinds.Sign front), rest)
unfolding reading.sign_token
seen_sign text front rest n e some f b =
    let zero_no : (sign_length text == 0) ≡ false = ne_eqb (sign_length text) 0 (λ x. absurd (omega arith)) in
    rw (zero_no, e, f, b) refl

no_sign_seen : (text : List ℕ) → sign_length text ≡ 0 → reading.sign_token text ≡ Err BadCharacter
unfolding reading.sign_token
no_sign_seen text e = rw e refl

sign_front : (text front rest : List ℕ) → IsSignAt text front rest → (b : ℕ) × (more : List ℕ) × (text ≡ b ∷ more)
    × (begins_other b ≡ true)
sign_front text [] rest s = absurd (no_sign s.listed)
sign_front text (b ∷ front) rest s = (b, front ++ rest, s.parts, sign_begins b front s.listed)

sign_seen : (text front rest : List ℕ) → IsSignAt text front rest → lexeme_at text ≡ Ok (lexemes.Token (kinds.Sign front), rest)
sign_seen text front rest s =
    let f = sign_front text front rest s in
    let m = sign_complete text front rest s in
    let none : opens_skip text ≡ false = false_from_ne_true (opens_skip text) (λ e. s.no_skip (opens_sound text e)) in
    ap lexeme_at f.2 ∙ at_other f.0 f.1 f.3 (sym (ap opens_skip f.2) ∙ none) ∙ ap reading.sign_token (sym f.2)
    ∙ seen_sign text front rest (sign_length text) refl m.some m.front m.after

-- a stray byte begins nothing
stray_is : (b : ℕ) → is_stray b ≡ true → (is_blank b ≡ false) × ((leb 32 b && leb b 126) ≡ false)
stray_is b h =
    let p = and_parts (not (is_blank b)) (not (leb 32 b && leb b 126)) h in
    (not-true (is_blank b) p.0, not-true (leb 32 b && leb b 126) p.1)

stray_other : (b : ℕ) → is_stray b ≡ true → begins_other b ≡ true
stray_other b h = elim (cases_lt b 128) [
  | inl small ↦
      let both = low (λ i. is_stray i && not (begins_other i)) b refl small in
      true_from_ne_false (begins_other b)
      (λ e. both_ways (is_stray b && not (begins_other b)) both
      (and_from (is_stray b) (not (begins_other b)) h (not_from_false (begins_other b) e)))
  | inr large ↦
      let s = stray_is b h in
      let name_no : begins_name b ≡ false =
      false_from_ne_true (begins_name b) (λ e. let l = letter_low b e in absurd (omega arith)) in
      let number_no : begins_number b ≡ false =
      false_from_ne_true (begins_number b) (λ e. let l = digit_low b e in absurd (omega arith)) in
      let q : (b == 34) ≡ false = ne_eqb b 34 (λ e. absurd (omega arith)) in
      let e : (b == 92) ≡ false = ne_eqb b 92 (λ e. absurd (omega arith)) in
      let d : (b == 36) ≡ false = ne_eqb b 36 (λ e. absurd (omega arith)) in
      let g : (b == 96) ≡ false = ne_eqb b 96 (λ e. absurd (omega arith)) in
      rw (s.0, name_no, number_no, q, e, d, g) refl
]

stray_no_skip : (b : ℕ) → is_stray b ≡ true → skip_byte b ≡ false
unfolding skip_byte
stray_no_skip b h =
    let s = stray_is b h in
    or_from (eqb b 47) (eqb b 40)
    (ne_eqb b 47 (λ e. let print : (leb 32 b && leb b 126) ≡ true = rw e refl in
    absurd (both_ways (leb 32 b && leb b 126) s.1 print)))
    (ne_eqb b 40 (λ e. let print : (leb 32 b && leb b 126) ≡ true = rw e refl in
    absurd (both_ways (leb 32 b && leb b 126) s.1 print)))

-- the first byte of a sign is printable
sign_no_stray : (front after_sign : List ℕ) (b : ℕ) (rest : List ℕ) → is_sign front ≡ true → b ∷ rest ≡ front ++ after_sign
    → is_stray b ≡ true → ⊥
sign_no_stray [] after_sign b rest listed e h = no_sign listed
sign_no_stray (c ∷ front) after_sign b rest listed e h =
    let first : c ≡ b = cc in
    let odd = (stray_is b h).1 in
    both_ways (leb 32 b && leb b 126) odd (ap (λ (x : ℕ). leb 32 x && leb x 126) (sym first) ∙ sign_printable c front listed)

no_length : (b : ℕ) (rest : List ℕ) (n : ℕ) → is_stray b ≡ true → sign_length (b ∷ rest) ≡ n → n ≡ 0
no_length b rest zero h e = refl
no_length b rest (suc n) h e =
    let s = sign_sound (b ∷ rest) (opens_not (b ∷ rest) (opens_by b rest (stray_no_skip b h))) (omega arith) in
    absurd (sign_no_stray (take (sign_length (b ∷ rest)) (b ∷ rest)) (drop (sign_length (b ∷ rest)) (b ∷ rest)) b rest s.listed
    s.parts h)

stray_no_sign : (b : ℕ) (rest : List ℕ) → is_stray b ≡ true → sign_length (b ∷ rest) ≡ 0
stray_no_sign b rest h = no_length b rest (sign_length (b ∷ rest)) h refl

stray_seen : (b : ℕ) (rest : List ℕ) → is_stray b ≡ true → lexeme_at (b ∷ rest) ≡ Err BadCharacter
stray_seen b rest h = at_other b rest (stray_other b h) (opens_by b rest (stray_no_skip b h))
    ∙ no_sign_seen (b ∷ rest) (stray_no_sign b rest h)

system_complete : (first : ℕ) (more rest : List ℕ) → is_name_byte first ≡ true → list_all is_name_byte more ≡ true
    → Ends is_name_byte rest
    → reading.system_name (36 ∷ first ∷ (more ++ rest)) ≡ Ok (lexemes.Token (kinds.System (36 ∷ first ∷ more)), rest)
system_complete first more rest h all ends =
    let whole = and_from (is_name_byte first) (list_all is_name_byte more) h all in
    system_some (first ∷ (more ++ rest)) first more (run_of is_name_byte (first ∷ more) rest whole ends)
    ∙ ap (λ (t : List ℕ). Ok (lexemes.Token (kinds.System (36 ∷ first ∷ more)), t))
    (after_run_of is_name_byte (first ∷ more) rest whole ends)

ends_run : (rest : List ℕ) → Ends is_name_byte rest → run is_name_byte rest ≡ []
unfolding run
ends_run [] ends = refl
ends_run (b ∷ rest) ends = rw ends refl

open_string_seen : (text : List ℕ) (o : Option (List ℕ × List ℕ)) → inside_at false text ≡ o
    → ((value rest : List ℕ) → IsQuoted text value rest → ⊥) → reading.seen_string o ≡ Err OpenString
open_string_seen text (Some p) e h = absurd (h (decoded 0 p.0) p.1 (string_sound text p.0 p.1 e))
open_string_seen text None e h = refl

pub lexeme_complete : (text : List ℕ) (seen : Seen) → Begins text seen → lexeme_at text ≡ seen
lexeme_complete text seen (blank b rest h e s) = ap lexeme_at e ∙ at_blank b rest h ∙ sym s
lexeme_complete text seen (skipped rest is s) =
    let p = skip_complete text rest is in
    at_skip text p.0 ∙ ap reading.seen_skip p.1 ∙ sym s
lexeme_complete text seen (open_comment is s) =
    let p = open_complete text is in
    at_skip text p.0 ∙ ap reading.seen_skip p.1 ∙ sym s
lexeme_complete text seen (name n rest is r ends e s) =
    ap lexeme_at e ∙ named_complete n rest is ends ∙ ap (λ (x : Bool). Ok (lexemes.Token (reading.name_kind x n), rest)) r ∙ sym s
lexeme_complete text seen (word n rest is r ends e s) =
    ap lexeme_at e ∙ named_complete n rest is ends ∙ ap (λ (x : Bool). Ok (lexemes.Token (reading.name_kind x n), rest)) r ∙ sym s
lexeme_complete text seen (escaped n rest all ends e s) =
    ap lexeme_at e ∙ at_backslash (n ++ rest)
    ∙ ap₂ (λ (x y : List ℕ). Ok (lexemes.Token (kinds.Name x), y)) (run_of is_no_blank n rest all ends)
    (after_run_of is_no_blank n rest all ends) ∙ sym s
lexeme_complete text seen (system first more rest h all ends e s) = ap lexeme_at e ∙ at_dollar (first ∷ (more ++ rest))
    ∙ system_complete first more rest h all ends ∙ sym s
lexeme_complete text seen (number v rest is s) = number_seen text (Ok (v, rest)) is ∙ sym s
lexeme_complete text seen (bad_number fault is s) = number_seen text (Err fault) is ∙ sym s
lexeme_complete text seen (quoted after_quote value rest q e s) =
    let p = string_complete after_quote value rest q in
    ap lexeme_at e ∙ at_quote after_quote ∙ ap reading.seen_string p.1
    ∙ ap (λ (v : List ℕ). Ok (lexemes.Token (kinds.Quoted v), rest)) p.2 ∙ sym s
lexeme_complete text seen (open_string after_quote h e s) =
    ap lexeme_at e ∙ at_quote after_quote ∙ open_string_seen after_quote (inside_at false after_quote) refl h ∙ sym s
lexeme_complete text seen (sign front rest is s) = sign_seen text front rest is ∙ sym s
lexeme_complete text seen (directive rest e s) = ap lexeme_at e ∙ at_grave rest ∙ sym s
lexeme_complete text seen (dollar rest ends e s) = ap lexeme_at e ∙ at_dollar rest ∙ system_none rest (ends_run rest ends) ∙ sym s
lexeme_complete text seen (stray b rest h e s) = ap lexeme_at e ∙ stray_seen b rest h ∙ sym s

pub begins_once : (text : List ℕ) (seen other : Seen) → Begins text seen → Begins text other → seen ≡ other
begins_once text seen other a b = sym (lexeme_complete text seen a) ∙ lexeme_complete text other b

-- ---- what the code answers

-- the number that stands at the front of a text is the one that is read there
pub number_shown : {A : Type 0} (view : A → FourState × List ℕ) (text : List ℕ) (r : Result A NumberFault)
    → IfOk r (λ x. IsNumber text (Ok (view x))) → IfErr r (λ e. IsNumber text (Err e)) → Shows view r (number_at text)
number_shown view text (Ok x) found refused = number_complete text (Ok (view x)) found
number_shown view text (Err e) found refused = number_complete text (Err e) refused

pub found_from : {A : Type 0} (view : A → Lexeme × List ℕ) (text : List ℕ) (r : Result A LexemeFault) → 0 < length text
    → Gives view r (lexeme_at text) → IfOk r (λ x. Begins text (Ok (view x)))
found_from view text (Ok x) some h = subst (λ s. Begins text s) h (lexeme_sound text some)
found_from view text (Err e) some h = tt

pub shorter_from : {A : Type 0} (view : A → Lexeme × List ℕ) (text : List ℕ) (r : Result A LexemeFault) → 0 < length text
    → Gives view r (lexeme_at text) → IfOk r (λ x. length (view x).1 < length text)
shorter_from view text (Ok x) some h =
    after_shorter text (view x).1 (begins_takes text (Ok (view x)) (subst (λ s. Begins text s) h (lexeme_sound text some)))
shorter_from view text (Err e) some h = tt

refused_by : (text : List ℕ) (e : LexemeFault) → 0 < length text → Fails e (lexeme_at text) → Refuses text e
refused_by text BadCharacter some h = subst (λ s. Begins text s) h (lexeme_sound text some)
refused_by text OpenComment some h = subst (λ s. Begins text s) h (lexeme_sound text some)
refused_by text OpenString some h = subst (λ s. Begins text s) h (lexeme_sound text some)
refused_by text BadNumber some h = subst (λ s. Begins text s) h (lexeme_sound text some)
refused_by text TooWide some h = subst (λ s. Begins text s) h (lexeme_sound text some)
refused_by text Memory some h = tt

pub refused_from : {A : Type 0} (view : A → Lexeme × List ℕ) (text : List ℕ) (r : Result A LexemeFault) → 0 < length text
    → Gives view r (lexeme_at text) → IfErr r (λ e. Refuses text e)
refused_from view text (Ok x) some h = tt
refused_from view text (Err e) some h = refused_by text e some h
