-- The numbers of options, as `read_decimal` reads them.
use Rattle.std.proofs.Common.{◌≡◌, ◌∙◌, ℕ, ◌^◌, ◌<◌, ◌&&◌, true, false, List, length, Some, None, nat_lt, nat_le, ap, sym, inl, inr, arith}
use Rattle.std.specs.Str.{all_ascii_digits}
use Rattle.std.specs.Str.Parse.{digits_value}
use Rattle.std.proofs.lemmas.Bool.{cases_lt, cases_Bool, and_parts, and_from, and_right, ltb-true, lt-ltb, lt-leb, cond-true, cond-false}
use Rattle.std.proofs.lemmas.Str.Parse.{IsNumeralModel, numerals_by_value, tells_all_ascii_digits}
use Rattle.vf_base.specs.Decimal.{IsDecimal}
use Rattle.vf_words.specs.declared.limits.Numbers.{Numbers}
use Rattle.vf_words.specs.Words.{is_digits, within, decimal_in}

numerals : IsNumeralModel (λ ds. all_ascii_digits ds ≡ true) (digits_value 10)
numerals = numerals_by_value (λ ds. all_ascii_digits ds ≡ true) tells_all_ascii_digits

digits_are : (text : List ℕ) → IsDecimal text → is_digits text ≡ true
digits_are text d = and_from (nat_lt 0 (length text)) (all_ascii_digits text) (lt-ltb 0 (length text) d.some) (numerals.from text d.digits)

number_of_digits : (numbers : Numbers) (text : List ℕ) → is_digits text ≡ true → decimal_in numbers text ≡ within numbers (digits_value 10 text)
unfolding decimal_in
number_of_digits numbers text digits = cond-true (is_digits text) (within numbers (digits_value 10 text)) None digits

no_digits : (numbers : Numbers) (text : List ℕ) → is_digits text ≡ false → decimal_in numbers text ≡ None
unfolding decimal_in
no_digits numbers text other = cond-false (is_digits text) (within numbers (digits_value 10 text)) None other

above : (numbers : Numbers) (n : ℕ) → numbers.most < n → within numbers n ≡ None
above numbers n high = cond-false (nat_le numbers.least n && nat_le n numbers.most) (Some n) None
    (and_right (nat_le numbers.least n) (nat_le n numbers.most) (lt-leb n numbers.most high))

-- what `read_decimal` gives is the number of the text
pub read_number : (numbers : Numbers) (bytes text : List ℕ) (n : ℕ) → bytes ≡ text → IsDecimal bytes → n ≡ digits_value 10 bytes
    → within numbers n ≡ decimal_in numbers text
read_number numbers bytes text n e decimal is =
    ap (within numbers) is ∙ sym (number_of_digits numbers bytes (digits_are bytes decimal)) ∙ ap (decimal_in numbers) e

unread : (numbers : Numbers) (text : List ℕ) → numbers.most < 2 ^ 64 → ¬ IsDecimal text → decimal_in numbers text ≡ None
unread numbers text fits other =
    elim (cases_Bool (is_digits text)) [
      | inl digits ↦
          let p = and_parts (nat_lt 0 (length text)) (all_ascii_digits text) digits in
          elim (cases_lt (digits_value 10 text) (2 ^ 64)) [
            | inl small ↦ absurd (other (record { some = ltb-true 0 (length text) p.0; digits = numerals.to text p.1; fits = small }))
            | inr large ↦ number_of_digits numbers text digits ∙ above numbers (digits_value 10 text) (omega arith)
          ]
      | inr another ↦ no_digits numbers text another
    ]

-- and where it gives none, the text is no number, or one that is above each range
pub no_number : (numbers : Numbers) (bytes text : List ℕ) → numbers.most < 2 ^ 64 → bytes ≡ text → ¬ IsDecimal bytes → None ≡ decimal_in numbers text
no_number numbers bytes text fits e other = sym (unread numbers bytes fits other) ∙ ap (decimal_in numbers) e
