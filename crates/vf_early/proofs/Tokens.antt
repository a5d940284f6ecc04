-- The token at the front of a text is the one that `token_length` measures, and no other.
use Rattle.std.proofs.Common.{◌≡◌, ◌≢◌, ℕ, suc, suc-le-suc, ◌+◌, ◌<◌, ◌≤◌, Bool, true, false, not, eqb, ◌&&◌, ◌||◌, List, [], ◌∷◌, ◌++◌, length, get_or, take, drop, Option, Some, None, take_while, refl, ap, ◌∙◌, inl, inr, append_assoc, add-one, add-suc, one-add, arith}
use Rattle.std.specs.Option.{option_map}
use Rattle.std.specs.List.{list_all}
use Rattle.std.proofs.lemmas.Bool.{cases_Bool, and_parts, and_from, or_cases, or_left, not-true, eq-eqb, eqb-true, eqb-false, ne_eqb, both_ways}
use Rattle.std.proofs.lemmas.List.{take_more, length-append}
use Rattle.std.proofs.lemmas.List.Sums.{take_while-cons}
use Rattle.vf_early.specs.Tokens.{is_word_byte, EndsWord, EndsAssign, IsQuotable, nothing, plain, escape, IsToken, word, quoted, semicolon, open_paren, close_paren, minus, comma, equal, differs, assign}
use Rattle.vf_early.specs.Reading.{inside_from, with_quotes, is_sign, is_long_sign, sign_length, token_length}

-- ---- a token of the grammar is measured

run_of : (more rest : List ℕ) → list_all is_word_byte more ≡ true → EndsWord rest → take_while is_word_byte (more ++ rest) ≡ more
run_of [] [] h ends = refl
run_of [] (b ∷ rest) h ends = take_while-cons is_word_byte b rest ∙ rw ends refl
run_of (b ∷ more) rest h ends =
    let p = and_parts (is_word_byte b) (list_all is_word_byte more) h in
    take_while-cons is_word_byte b (more ++ rest) ∙ rw p.0 (ap (λ (t : List ℕ). b ∷ t) (run_of more rest p.1 ends))

inside_of : (inside rest : List ℕ) → IsQuotable inside → inside_from false (inside ++ (34 ∷ rest)) ≡ Some (length inside)
unfolding inside_from
inside_of _ rest nothing = refl
inside_of _ rest (plain {byte} {rest = more} a b c q) = rw (ne_eqb byte 10 c, ne_eqb byte 34 a, ne_eqb byte 92 b, inside_of more rest q) (ap Some (omega arith))
inside_of _ rest (escape {byte} {rest = more} a q e) = rw (e, ne_eqb byte 10 a, inside_of more rest q) (ap Some (omega arith))

-- a sign that no longer one begins with
single : (b : ℕ) (rest : List ℕ) → is_word_byte b ≡ false → eqb b 34 ≡ false → (eqb b 61 || eqb b 33) ≡ false → is_sign b ≡ true → token_length (b ∷ rest) ≡ 1
unfolding token_length sign_length
single b [] w q l s = rw (w, q, s) refl
single b (c ∷ rest) w q l s = rw (w, q, l, s) refl

pub measured : (token rest : List ℕ) → IsToken token rest → token_length (token ++ rest) ≡ length token
unfolding token_length sign_length
measured token rest (word first more a b ends e) = rw (e, a, run_of more rest b ends) (omega arith)
measured token rest (quoted inside q e) = rw (e, append_assoc inside (34 ∷ []) rest, inside_of inside rest q, length-append inside (34 ∷ [])) (omega arith)
measured token rest (semicolon e) = rw e (single 59 rest refl refl refl refl)
measured token rest (open_paren e) = rw e (single 40 rest refl refl refl refl)
measured token rest (close_paren e) = rw e (single 41 rest refl refl refl refl)
measured token rest (minus e) = rw e (single 45 rest refl refl refl refl)
measured token rest (comma e) = rw e (single 44 rest refl refl refl refl)
measured token rest (equal e) = rw e refl
measured token rest (differs e) = rw e refl
measured token [] (assign ends e) = rw e refl
measured token (b ∷ rest) (assign ends e) = rw (e, ne_eqb b 61 ends) refl

-- ---- what is measured is a token of the grammar

-- the front that is a run, and the rest after it
record IsRun (bytes : List ℕ) (n : ℕ) : Type 0 where
  within : n ≤ length bytes
  run : list_all is_word_byte (take n bytes) ≡ true
  ends : EndsWord (drop n bytes)

run_at : (bytes : List ℕ) → IsRun bytes (length (take_while is_word_byte bytes))
run_at [] = record { within = omega arith; run = refl; ends = tt }
run_at (b ∷ bytes) =
    let more = run_at bytes in
    elim (cases_Bool (is_word_byte b)) [
      | inl in_word ↦
          let step : take_while is_word_byte (b ∷ bytes) ≡ b ∷ take_while is_word_byte bytes = take_while-cons is_word_byte b bytes ∙ rw in_word refl in
          rw step (record { within = suc-le-suc more.within; run = rw in_word more.run; ends = more.ends })
      | inr other ↦
          let step : take_while is_word_byte (b ∷ bytes) ≡ [] = take_while-cons is_word_byte b bytes ∙ rw other refl in
          rw step (record { within = omega arith; run = refl; ends = other })
    ]

-- a string up to its quote; after a `\` its first byte is taken along
abbrev IsInside : Bool → List ℕ → Type 0
IsInside false text = IsQuotable text
IsInside true [] = ⊥
IsInside true (b ∷ text) = (b ≢ 10) × IsQuotable text

record IsQuotedAt (escaped : Bool) (bytes : List ℕ) (n : ℕ) : Type 0 where
  within : n < length bytes
  inside : IsInside escaped (take n bytes)
  closed : get_or bytes n 0 ≡ 34

-- a step of reading a string
data IsStep (escaped : Bool) (b : ℕ) (rest : List ℕ) (n : ℕ) : Type 0 where
  closes : escaped ≡ false → b ≡ 34 → n ≡ 0 → IsStep escaped b rest n
  goes : (m : ℕ) → (now : Bool) → b ≢ 10 → (not escaped && eqb b 34) ≡ false → (not escaped && eqb b 92) ≡ now → inside_from now rest ≡ Some m → n ≡ m + 1 → IsStep escaped b rest n

option_step : (o : Option ℕ) (n : ℕ) → option_map (λ n. n + 1) o ≡ Some n → (m : ℕ) × (o ≡ Some m) × (n ≡ m + 1)
option_step None n e = absurd cc
option_step (Some m) n e = (m, refl, cc)

step_of : (escaped : Bool) (b : ℕ) (rest : List ℕ) (n : ℕ) → inside_from escaped (b ∷ rest) ≡ Some n → IsStep escaped b rest n
unfolding inside_from
step_of escaped b rest n e =
    elim (cases_Bool (eqb b 10)) [
      | inl broken ↦ let no_more : None ≡ Some n = rw broken at e in absurd cc
      | inr other ↦ elim (cases_Bool (not escaped && eqb b 34)) [
        | inl closed ↦
            let p = and_parts (not escaped) (eqb b 34) closed in
            let zero_is : Some 0 ≡ Some n = rw (other, closed) at e in
            closes (not-true escaped p.0) (eqb-true b 34 p.1) cc
        | inr still ↦
            let m = option_step (inside_from (not escaped && eqb b 92) rest) n (rw (other, still) at e) in
            goes m.0 (not escaped && eqb b 92) (eqb-false b 10 other) still refl m.1 m.2
      ]
    ]

joined : (escaped now : Bool) (b : ℕ) (text : List ℕ) → b ≢ 10 → (not escaped && eqb b 34) ≡ false → (not escaped && eqb b 92) ≡ now → IsInside now text → IsInside escaped (b ∷ text)
joined true false b text other still e q = (other, q)
joined true true b text other still e q = absurd cc
joined false false b text other still e q = plain (eqb-false b 34 still) (eqb-false b 92 e) other q
joined false true b [] other still e q = absurd q
joined false true b (c ∷ text) other still e q = escape q.0 q.1 (ap (λ (x : ℕ). x ∷ c ∷ text) (eqb-true b 92 e))

closed_first : (escaped : Bool) → escaped ≡ false → IsInside escaped []
closed_first true e = absurd cc
closed_first false e = nothing

quoted_at : (bytes : List ℕ) (escaped : Bool) (n : ℕ) → inside_from escaped bytes ≡ Some n → IsQuotedAt escaped bytes n
unfolding inside_from
quoted_at [] escaped n e = absurd cc
quoted_at (b ∷ rest) escaped n e =
    elim (step_of escaped b rest n e) [
      | closes plain_here quote first ↦ rw first (record { within = omega arith; inside = closed_first escaped plain_here; closed = quote })
      | goes m now other still e2 more next ↦
          let q = quoted_at rest now m more in
          let n_is : n ≡ suc m = omega arith in
          rw n_is (record { within = omega (arith, q.within); inside = joined escaped now b (take m rest) other still e2 q.inside; closed = q.closed })
    ]

pub record IsFront (bytes : List ℕ) (n : ℕ) : Type 0 where
  pub within : n ≤ length bytes
  pub token : IsToken (take n bytes) (drop n bytes)

quoted_front : (rest : List ℕ) (m : ℕ) → IsQuotedAt false rest m → IsFront (34 ∷ rest) (suc (suc m))
quoted_front rest m q =
    let whole : take (suc m) rest ≡ take m rest ++ 34 ∷ [] = rw (← add-one m) (take_more rest m 0 q.within ∙ ap (λ (b : ℕ). take m rest ++ b ∷ []) q.closed) in
    record { within = omega (arith, q.within); token = quoted (take m rest) q.inside (ap (λ (text : List ℕ). 34 ∷ text) whole) }

sign_front : (b : ℕ) (rest : List ℕ) → is_sign b ≡ true → (b ≡ 61 → EndsAssign rest) → IsToken (b ∷ []) rest
sign_front b rest h ends =
    let a = λ (n : ℕ) (e : eqb b n ≡ true). let same : b ∷ [] ≡ n ∷ [] = ap (λ (x : ℕ). x ∷ []) (eqb-true b n e) in same in
    elim (or_cases (eqb b 59 || eqb b 61 || eqb b 40 || eqb b 41 || eqb b 45) (eqb b 44) h) [
      | inr at ↦ comma (a 44 at)
      | inl h ↦ elim (or_cases (eqb b 59 || eqb b 61 || eqb b 40 || eqb b 41) (eqb b 45) h) [
        | inr at ↦ minus (a 45 at)
        | inl h ↦ elim (or_cases (eqb b 59 || eqb b 61 || eqb b 40) (eqb b 41) h) [
          | inr at ↦ close_paren (a 41 at)
          | inl h ↦ elim (or_cases (eqb b 59 || eqb b 61) (eqb b 40) h) [
            | inr at ↦ open_paren (a 40 at)
            | inl h ↦ elim (or_cases (eqb b 59) (eqb b 61) h) [
              | inr at ↦ assign (ends (eqb-true b 61 at)) (a 61 at)
              | inl at ↦ semicolon (a 59 at)
            ]
          ]
        ]
      ]
    ]

long_front : (b c : ℕ) (rest : List ℕ) → is_long_sign b c ≡ true → IsToken (b ∷ c ∷ []) rest
long_front b c rest h =
    let p = and_parts (eqb b 61 || eqb b 33) (eqb c 61) h in
    let second : c ≡ 61 = eqb-true c 61 p.1 in
    elim (or_cases (eqb b 61) (eqb b 33) p.0) [
      | inl at ↦ equal (cc (second, eqb-true b 61 at))
      | inr at ↦ differs (cc (second, eqb-true b 33 at))
    ]

sign_found : (b : ℕ) (rest : List ℕ) → 0 < sign_length b rest → IsFront (b ∷ rest) (sign_length b rest)
unfolding sign_length
sign_found b [] h =
    elim (cases_Bool (is_sign b)) [
      | inl sign ↦ rw sign (record { within = omega arith; token = sign_front b [] sign (λ _. tt) })
      | inr other ↦ let no_sign : 0 < 0 = rw other at h in absurd (omega arith)
    ]
sign_found b (c ∷ rest) h =
    elim (cases_Bool (is_long_sign b c)) [
      | inl long ↦ rw long (record { within = omega arith; token = long_front b c rest long })
      | inr short ↦ elim (cases_Bool (is_sign b)) [
        | inl sign ↦ rw (short, sign) (record { within = omega arith; token = sign_front b (c ∷ rest) sign (λ first second. both_ways (is_long_sign b c) short (and_from (eqb b 61 || eqb b 33) (eqb c 61) (or_left (eqb b 61) (eqb b 33) (eq-eqb b 61 first)) (eq-eqb c 61 second))) })
        | inr other ↦ let no_sign : 0 < 0 = rw (short, other) at h in absurd (omega arith)
      ]
    ]

quoted_found : (rest : List ℕ) (o : Option ℕ) → inside_from false rest ≡ o → 0 < with_quotes o → IsFront (34 ∷ rest) (with_quotes o)
quoted_found rest None e h = absurd (omega arith)
quoted_found rest (Some m) e h = rw (add-suc m 1, add-one m) (quoted_front rest m (quoted_at rest false m e))

pub token_found : (bytes : List ℕ) → 0 < token_length bytes → IsFront bytes (token_length bytes)
unfolding token_length
token_found [] h = absurd (omega arith)
token_found (b ∷ rest) h =
    let k = length (take_while is_word_byte rest) in
    elim (cases_Bool (is_word_byte b)) [
      | inl in_word ↦
          let r = run_at rest in
          let front : IsFront (b ∷ rest) (suc k) = record { within = suc-le-suc r.within; token = word b (take k rest) in_word r.run r.ends refl } in
          rw (in_word, one-add k) front
      | inr other ↦ elim (cases_Bool (eqb b 34)) [
        | inl quote ↦ rw (other, eqb-true b 34 quote) (quoted_found rest (inside_from false rest) refl (rw (other, eqb-true b 34 quote) at h))
        | inr sign ↦ rw (other, sign) (sign_found b rest (rw (other, sign) at h))
      ]
    ]
