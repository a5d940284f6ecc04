-- Known values in decimal, and the field of a text.
use Rattle.std.proofs.Common.{◌≡◌, ℕ, zero, suc, ◌+◌, ◌-◌, ◌*◌, ◌/◌, ◌^◌, ◌<◌, ◌≤◌, Bool, true, false, ◌&&◌, cond, List, [], ◌∷◌, ◌++◌, length, replicate, slice_get, Option, Some, None, refl, sym, ap, ◌∙◌, arith, append_assoc, length-append}
use Rattle.std.specs.Prelude.{pos, negsuc, decimal}
use Rattle.std.specs.List.{list_any, list_all}
use Rattle.std.specs.Fmt.{signed_decimal}
use Rattle.std.proofs.Math.Nat.{pow-suc}
use Rattle.std.proofs.lemmas.Int.{ints}
use Rattle.std.proofs.lemmas.Bool.{cond-true, cond-false}
use Rattle.std.proofs.lemmas.Nat.Bits.{ones_shr}
use Rattle.std.proofs.lemmas.Option.{get_or_from_slice_get}
use Rattle.vf_fours.specs.declared.Bit.{Bit}
use Rattle.vf_fours.specs.declared.Bit.TheVariants.{Zero, One, X, Z}
use Rattle.vf_fours.specs.Bits.{FourState, is_one, is_z, bit_in, top}
use Rattle.vf_fours.specs.Numbers.{weight_of, number, integer}
use Rattle.vf_fours.specs.Planes.{ones_of}
use Rattle.vf_format.specs.Printed.{is_x, letter_of, number_or_letter, decimal_of, field_of, padded}
use Rattle.vf_format.proofs.DigitLemmas.{one_below}

-- ---- known bits

no_letter : (x z : Bool) (a b : Option ℕ) (c d : ℕ) → cond x (Some c) (cond z (Some d) None) ≡ None → x ≡ false
no_letter false z a b c d e = refl
no_letter true z a b c d e = absurd (cc e)

pub no_x : (bits : List Bit) → letter_of bits ≡ None → list_any is_x bits ≡ false
unfolding letter_of
no_x bits e = no_letter (list_any is_x bits) (list_any is_z bits) None None (cond (list_all is_x bits) 120 88) (cond (list_all is_z bits) 122 90) e

ones_number_from : (bits : List Bit) → list_any is_x bits ≡ false → ones_of bits ≡ number bits
unfolding weight_of
ones_number_from [] h = refl
ones_number_from (Zero ∷ bits) h = ap (λ n. 0 + 2 * n) (ones_number_from bits h)
ones_number_from (One ∷ bits) h = ap (λ n. 1 + 2 * n) (ones_number_from bits h)
ones_number_from (X ∷ bits) h = absurd (cc h)
ones_number_from (Z ∷ bits) h = ap (λ n. 0 + 2 * n) (ones_number_from bits h)

-- without an x the plane of ones is the number
pub ones_number : (bits : List Bit) → letter_of bits ≡ None → ones_of bits ≡ number bits
ones_number bits e = ones_number_from bits (no_x bits e)

pub number_below : (bits : List Bit) → number bits < 2 ^ length bits
unfolding weight_of
number_below [] = omega arith
number_below (b ∷ bits) =
    let double = pow-suc 2 (length bits) in
    let rest = number_below bits in
    let small = one_below b in
    omega arith

number_some : (bits : List Bit) (i : ℕ) → is_one (bit_in bits i) ≡ true → 0 < number bits
unfolding weight_of
number_some [] i h = absurd (cc h)
number_some (One ∷ bits) zero h = omega arith
number_some (Zero ∷ bits) zero h = absurd (cc h)
number_some (X ∷ bits) zero h = absurd (cc h)
number_some (Z ∷ bits) zero h = absurd (cc h)
number_some (b ∷ bits) (suc i) h = let rest = number_some bits i h in omega arith

second : (a b : Bool) → (a && b) ≡ true → b ≡ true
second true b h = h
second false b h = absurd (cc h)

-- with its top bit 1 the number is not 0
pub number_positive : (s : Bool) (bits : List Bit) → (s && is_one (top bits)) ≡ true → 0 < number bits
number_positive s bits h = number_some bits (length bits - 1) (second s (is_one (top bits)) h)

pub top_is : (bits : List Bit) (w : ℕ) (b : Bit) → w ≡ length bits → slice_get bits (w - 1) ≡ Some b → b ≡ top bits
top_is bits w b e got = sym (get_or_from_slice_get bits (w - 1) b X got) ∙ ap (λ n. bit_in bits (n - 1)) e

pub greatest_is : (w : ℕ) → w ≤ 128 → (2 ^ 128 - 1) / 2 ^ (128 - w) ≡ 2 ^ w - 1
greatest_is w h = ones_shr 128 (128 - w) (omega arith) ∙ ap (λ k. 2 ^ k - 1) (omega arith)

-- ---- texts

pub letter_text : (a : FourState) (c : ℕ) → letter_of a.bits ≡ Some c → c ∷ [] ≡ decimal_of a
unfolding decimal_of
letter_text a c e = sym (ap (λ o. number_or_letter o (signed_decimal (integer a.signed a.bits))) e)

number_text : (a : FourState) → letter_of a.bits ≡ None → signed_decimal (integer a.signed a.bits) ≡ decimal_of a
unfolding decimal_of
number_text a e = sym (ap (λ o. number_or_letter o (signed_decimal (integer a.signed a.bits))) e)

integer_negative : (s : Bool) (bits : List Bit) (m : ℕ) → (s && is_one (top bits)) ≡ true → suc m + number bits ≡ 2 ^ length bits → integer s bits ≡ negsuc m
unfolding integer
integer_negative s bits m h e = cond-true _ _ _ h ∙ omega (arith, ints)

integer_natural : (s : Bool) (bits : List Bit) → (s && is_one (top bits)) ≡ false → integer s bits ≡ pos (number bits)
unfolding integer
integer_natural s bits h = cond-false _ _ _ h

pub negative_text : (a : FourState) (m : ℕ) → letter_of a.bits ≡ None → (a.signed && is_one (top a.bits)) ≡ true → m + number a.bits ≡ 2 ^ length a.bits
    → 45 ∷ decimal m ≡ decimal_of a
negative_text a m known negative e =
    let small = number_below a.bits in
    let k : suc (m - 1) ≡ m = omega arith in
    let sum : suc (m - 1) + number a.bits ≡ 2 ^ length a.bits = omega arith in
    ap (λ n. 45 ∷ decimal n) (sym k)
    ∙ sym (ap signed_decimal (integer_negative a.signed a.bits (m - 1) negative sum))
    ∙ number_text a known

pub natural_text : (a : FourState) → letter_of a.bits ≡ None → (a.signed && is_one (top a.bits)) ≡ false → decimal (ones_of a.bits) ≡ decimal_of a
natural_text a known natural =
    ap decimal (ones_number a.bits known) ∙ sym (ap signed_decimal (integer_natural a.signed a.bits natural)) ∙ number_text a known

-- ---- fields

pub field_none : (least : Bool) (a : FourState) → least ≡ true → 0 ≡ field_of least a
unfolding field_of
field_none least a e = sym (cond-true _ _ _ e)

pub field_signed : (least : Bool) (a : FourState) (n : ℕ) → least ≡ false → a.signed ≡ true → n ≡ length (decimal (2 ^ length a.bits - 1)) → n + 1 ≡ field_of least a
unfolding field_of
field_signed least a n e s is = sym (cond-false _ _ _ e ∙ ap (λ k. length (decimal (2 ^ length a.bits - 1)) + k) (cond-true _ _ _ s) ∙ ap (λ k. k + 1) (sym is))

pub field_unsigned : (least : Bool) (a : FourState) (n : ℕ) → least ≡ false → a.signed ≡ false → n ≡ length (decimal (2 ^ length a.bits - 1)) → n ≡ field_of least a
unfolding field_of
field_unsigned least a n e s is =
    sym (cond-false _ _ _ e ∙ ap (λ k. length (decimal (2 ^ length a.bits - 1)) + k) (cond-false _ _ _ s) ∙ ap (λ k. k + 0) (sym is) ∙ omega arith)

pub filled : (old sign digits : List ℕ) (field n : ℕ) → n ≡ field - (length sign + length digits)
    → ((old ++ replicate n 32) ++ sign) ++ digits ≡ old ++ padded field (sign ++ digits)
filled old sign digits field n e =
    let long = length-append sign digits in
    let same : n ≡ field - length (sign ++ digits) = omega arith in
    append_assoc (old ++ replicate n 32) sign digits ∙ append_assoc old (replicate n 32) (sign ++ digits) ∙ ap (λ k. old ++ (replicate k 32 ++ (sign ++ digits))) same
