-- The digits of a number's word.
use Rattle.std.proofs.Common.{◌≡◌, ℕ, ◌^◌, ◌<◌, ◌≤◌, true, not, eqb, leb, List, [], ◌∷◌, None, refl, inl, inr, arith}
use Rattle.std.specs.List.{list_all}
use Rattle.std.specs.Str.Parse.{AllDigits, digits_value}
use Rattle.std.specs.Char.{digit_value}
use Rattle.std.proofs.lemmas.Bool.{cases_lt, cases_Bool, and_parts, or_cases, leb-true, le-ltb, eqb-true, both_ways, cond-false, and_right}
use Rattle.std.proofs.lemmas.Str.{digit_value_digit}
use Rattle.vf_base.specs.Decimal.{IsDecimal}
use Rattle.vf_early.specs.Tokens.{is_digit}
use Rattle.vf_early.specs.Words.{is_number, is_number_byte, digits_of, number_of}

digit_below : (b : ℕ) → is_digit b ≡ true → digit_value b < 10
digit_below b h =
    let p = and_parts (leb 48 b) (leb b 57) h in
    let low : 48 ≤ b = leb-true 48 b p.0 in
    let high : b ≤ 57 = leb-true b 57 p.1 in
    omega (arith, digit_value_digit b (low, high))

digit_not_underscore : (b : ℕ) → is_digit b ≡ true → not (eqb b 95) ≡ true
digit_not_underscore b h =
    let p = and_parts (leb 48 b) (leb b 57) h in
    let low : b ≤ 57 = leb-true b 57 p.1 in
    elim (cases_Bool (eqb b 95)) [
      | inl under ↦ let at : b ≡ 95 = eqb-true b 95 under in absurd (omega arith)
      | inr other ↦ rw other refl
    ]

digits_all : (bs : List ℕ) → list_all is_number_byte bs ≡ true → AllDigits 10 (digits_of bs)
digits_all [] h = tt
digits_all (b ∷ bs) h =
    let p = and_parts (is_number_byte b) (list_all is_number_byte bs) h in
    let more = digits_all bs p.1 in
    elim (cases_Bool (eqb b 95)) [
      | inl under ↦ rw under more
      | inr other ↦ rw other (elim (or_cases (is_digit b) (eqb b 95) p.0) [ inl digit ↦ (digit_below b digit, more) | inr under ↦ absurd (both_ways (eqb b 95) other under) ])
    ]

pub not_decimal : (word : List ℕ) → is_number word ≡ true → ¬ IsDecimal (digits_of word) → number_of word ≡ None
unfolding is_number number_of
not_decimal [] h other = refl
not_decimal (b ∷ bs) h other =
    let p = and_parts (is_digit b) (list_all is_number_byte bs) h in
    let kept : digits_of (b ∷ bs) ≡ b ∷ digits_of bs = rw (digit_not_underscore b p.0) refl in
    elim (cases_lt (digits_value 10 (digits_of (b ∷ bs))) (2 ^ 64)) [
      | inl fits ↦ absurd (other (record { some = rw kept (omega arith); digits = rw kept (digit_below b p.0, digits_all bs p.1); fits = fits }))
      | inr large ↦ cond-false _ _ _ (and_right _ _ (le-ltb (digits_value 10 (digits_of (b ∷ bs))) (2 ^ 31) (omega arith)))
    ]
