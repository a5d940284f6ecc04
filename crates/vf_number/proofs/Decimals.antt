-- Decimal digits, with `_` among them.
use Rattle.std.proofs.Common.{◌≡◌, ◌≢◌, ℕ, ◌+◌, ◌*◌, ◌^◌, ◌<◌, ◌≤◌, true, false, not, eqb, leb, List, [], ◌∷◌, Some, None, refl, ap, sym, ◌∙◌, inl, inr, filter, arith}
use Rattle.std.specs.Char.{digit_value}
use Rattle.std.specs.Str.Parse.{digits_value_after}
use Rattle.std.proofs.lemmas.Str.{digit_value_digit}
use Rattle.std.proofs.lemmas.Bool.{cases_lt, cases_Bool, and_parts, or_cases, leb-true, le-ltb, lt-ltb, eqb-true}
use Rattle.vf_number.specs.Bytes.{is_digit}
use Rattle.vf_number.specs.Numbers.{is_underscore, is_decimal_byte}
use Rattle.vf_number.specs.Reading.{appended, below}

-- the number that digits write after the number n
abbrev pub decimal_after : ℕ → List ℕ → ℕ
decimal_after n digits = digits_value_after 10 n (filter (λ byte. not (is_underscore byte)) digits)

pub digit_range : (byte : ℕ) → is_digit byte ≡ true → (48 ≤ byte) × (byte ≤ 57)
digit_range byte h =
    let p = and_parts (leb 48 byte) (leb byte 57) h in
    (leb-true 48 byte p.0, leb-true byte 57 p.1)

pub digit_is : (byte : ℕ) → is_decimal_byte byte ≡ true → byte ≢ 95 → (48 ≤ byte) × (byte ≤ 57) × (digit_value byte + 48 ≡ byte)
digit_is byte h other = elim (or_cases (is_digit byte) (is_underscore byte) h) [
  | inl digit ↦
      let r = digit_range byte digit in
      let v = digit_value_digit byte r in
      (r.0, r.1, omega arith)
  | inr under ↦ absurd (other (eqb-true byte 95 under))
]

pub below_under : (limit n : ℕ) → n < limit → below limit n ≡ Some n
below_under limit n h = rw (lt-ltb n limit h) refl

pub below_over : (limit n : ℕ) → limit ≤ n → below limit n ≡ None
below_over limit n h = rw (le-ltb n limit h) refl

-- further digits only make a number larger
grown : (n : ℕ) (digits : List ℕ) → n ≤ digits_value_after 10 n digits
grown n [] = omega arith
grown n (b ∷ rest) = omega (arith, grown (n * 10 + digit_value b) rest)

after_underscore : (n byte : ℕ) (rest : List ℕ) → eqb byte 95 ≡ true → decimal_after n (byte ∷ rest) ≡ decimal_after n rest
after_underscore n byte rest under = rw under refl

after_digit : (n byte : ℕ) (rest : List ℕ) → eqb byte 95 ≡ false
    → decimal_after n (byte ∷ rest) ≡ decimal_after (n * 10 + digit_value byte) rest
after_digit n byte rest other = rw other refl

pub below_cases : (limit n m : ℕ) → below limit n ≡ Some m → (m ≡ n) × (n < limit)
below_cases limit n m e = elim (cases_lt n limit) [
  | inl small ↦ let same : Some n ≡ Some m = sym (below_under limit n small) ∙ e in (cc, small)
  | inr large ↦ let none : None ≡ Some m = sym (below_over limit n large) ∙ e in absurd cc
]

pub below_none : (limit n : ℕ) → below limit n ≡ None → limit ≤ n
below_none limit n e = elim (cases_lt n limit) [
  | inl small ↦ let none : Some n ≡ None = sym (below_under limit n small) ∙ e in absurd cc
  | inr large ↦ large
]

pub append_some : (n byte next : ℕ) (rest : List ℕ) → n < 2 ^ 128 → appended n byte ≡ Some next → (next < 2 ^ 128)
    × (decimal_after n (byte ∷ rest) ≡ decimal_after next rest)
unfolding appended
append_some n byte next rest h e = elim (cases_Bool (eqb byte 95)) [
  | inl under ↦
      let same : Some n ≡ Some next = rw under at e in
      let is : n ≡ next = cc in
      (omega arith, after_underscore n byte rest under ∙ ap (λ m. decimal_after m rest) is)
  | inr other ↦
      let whole : below (2 ^ 128) (n * 10 + digit_value byte) ≡ Some next = rw other at e in
      let p = below_cases (2 ^ 128) (n * 10 + digit_value byte) next whole in
      (omega arith, after_digit n byte rest other ∙ ap (λ m. decimal_after m rest) (sym p.0))
]

pub append_none : (n byte : ℕ) (rest : List ℕ) → appended n byte ≡ None → 2 ^ 128 ≤ decimal_after n (byte ∷ rest)
unfolding appended
append_none n byte rest e = elim (cases_Bool (eqb byte 95)) [
  | inl under ↦ let same : Some n ≡ None = rw under at e in absurd cc
  | inr other ↦
      let whole : below (2 ^ 128) (n * 10 + digit_value byte) ≡ None = rw other at e in
      let large = below_none (2 ^ 128) (n * 10 + digit_value byte) whole in
      let more = grown (n * 10 + digit_value byte) (filter (λ byte. not (is_underscore byte)) rest) in
      let same = after_digit n byte rest other in
      omega arith
]
