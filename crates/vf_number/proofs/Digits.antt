-- The bits that digits have.
use Rattle.std.proofs.Common.{◌≡◌, ◌≢◌, ℕ, zero, suc, ◌+◌, ◌-◌, ◌^◌, ◌<◌, ◌≤◌, true, false, if◌then◌else◌, List, [], ◌∷◌, ◌++◌, length, take, replicate, Ok, Err, refl, ap, sym, ◌∙◌, inl, inr, append_assoc, arith}
use Rattle.std.specs.Char.{digit_value}
use Rattle.std.proofs.lemmas.Bool.{cases_Bool, le-leb, lt-leb, eq-eqb, ne_eqb}
use Rattle.std.proofs.lemmas.List.{take_all, take-take, take-replicate, length-replicate}
use Rattle.std.proofs.Math.Seq.{take-append-add}
use Rattle.vf_fours.specs.declared.Bit.{Bit}
use Rattle.vf_fours.specs.declared.Bit.TheVariants.{X, Z}
use Rattle.vf_fours.specs.Numbers.{digits_of, digit, bit_is}
use Rattle.vf_fours.specs.Shapes.{length-tabulate}
use Rattle.vf_number.proofs.BitLists.{tabulate_cut}
use Rattle.vf_number.specs.declared.bases.Base.{Base}
use Rattle.vf_number.specs.declared.bases.Base.TheVariants.{Binary, Octal, Decimal, Hex}
use Rattle.vf_number.specs.declared.fault.NumberFault.TheVariants.{BadNumber}
use Rattle.vf_number.specs.Numbers.{is_x, is_z, is_underscore, is_byte_of, is_unknown_at, decimal_value, fill_of, digit_width, digit_bits, spelled_bits, bits_at, is_too_large}
use Rattle.vf_number.specs.Runs.{run}
use Rattle.vf_number.specs.Reading.{AreDigits, is_decimal, with_digit, with_digits, value_at}
use Rattle.vf_number.proofs.RunLemmas.{run_all}

pub digit_bits_length : (base : Base) (byte : ℕ) → length (digit_bits base byte) ≡ digit_width base
unfolding digits_of
digit_bits_length base byte = elim (cases_Bool (is_x byte)) [
  | inl x ↦ rw x (length-replicate (digit_width base) X)
  | inr other ↦ elim (cases_Bool (is_z byte)) [
    | inl z ↦ rw (other, z) (length-replicate (digit_width base) Z)
    | inr known ↦ rw (other, known) (length-tabulate (λ i. digit (bit_is (digit_value byte) i)) (digit_width base))
  ]
]

pub width_fits : (base : Base) → digit_width base ≤ 4
width_fits Binary = omega arith
width_fits Octal = omega arith
width_fits Decimal = omega arith
width_fits Hex = omega arith

-- the bits that a byte adds below
abbrev pub byte_bits : Base → ℕ → List Bit
byte_bits base byte = if is_underscore byte then [] else digit_bits base byte

one_digit : (base : Base) (byte : ℕ) (more : List Bit)
    → with_digit base byte (take 128 more) ≡ take 128 (byte_bits base byte ++ more)
unfolding with_digit
one_digit base byte more = elim (cases_Bool (is_underscore byte)) [
  | inl under ↦ rw under refl
  | inr other ↦
      let bits = digit_bits base byte in
      let n = 128 - digit_width base in
      let small = width_fits base in
      let size = digit_bits_length base byte in
      let whole : length bits + n ≡ 128 = omega arith in
      rw (other, take-take n 128 more (omega arith)) (sym (take-append-add bits more n) ∙ ap (λ k. take k (bits ++ more)) whole)
]

all_digits : (base : Base) (digits : List ℕ) (more : List Bit)
    → with_digits base digits (take 128 more) ≡ take 128 (spelled_bits base digits ++ more)
unfolding with_digits spelled_bits
all_digits base [] more = refl
all_digits base (b ∷ rest) more =
    ap (with_digits base rest) (one_digit base b more) ∙ all_digits base rest (byte_bits base b ++ more)
    ∙ ap (take 128) (sym (append_assoc (spelled_bits base rest) (byte_bits base b) more))

take_filled : (front : List Bit) (fill : Bit) (w m n : ℕ) → w ≤ m → w ≤ n
    → take w (front ++ replicate m fill) ≡ take w (front ++ replicate n fill)
take_filled [] fill w m n h k = take-replicate w m fill h ∙ sym (take-replicate w n fill k)
take_filled (b ∷ front) fill zero m n h k = refl
take_filled (b ∷ front) fill (suc w) m n h k =
    ap (λ (bits : List Bit). b ∷ bits) (take_filled front fill w m n (omega arith) (omega arith))

filled_digits : (base : Base) (digits : List ℕ) (fill : Bit) (w : ℕ) → w ≤ 128
    → take w (with_digits base digits (replicate 128 fill)) ≡ take w (spelled_bits base digits ++ replicate w fill)
filled_digits base digits fill w h =
    let start : replicate 128 fill ≡ take 128 (replicate 128 fill) =
    sym (take_all 128 (replicate 128 fill) (omega (arith, length-replicate 128 fill))) in
    ap (λ bits. take w (with_digits base digits bits)) start ∙ ap (take w) (all_digits base digits (replicate 128 fill))
    ∙ take-take w 128 (spelled_bits base digits ++ replicate 128 fill) h
    ∙ take_filled (spelled_bits base digits) fill w 128 w h (omega arith)

pub bits_are : (base : Base) (digits : List ℕ) → is_decimal base ≡ false
    → take 128 (with_digits base digits (replicate 128 (fill_of digits))) ≡ bits_at base 128 digits
unfolding bits_at
bits_are Binary digits h = filled_digits Binary digits (fill_of digits) 128 (omega arith)
bits_are Octal digits h = filled_digits Octal digits (fill_of digits) 128 (omega arith)
bits_are Decimal digits h = absurd cc
bits_are Hex digits h = filled_digits Hex digits (fill_of digits) 128 (omega arith)

cut_spelled : (base : Base) (digits : List ℕ) (fill : Bit) (w : ℕ) → w ≤ 128
    → take w (take 128 (spelled_bits base digits ++ replicate 128 fill)) ≡ take w (spelled_bits base digits ++ replicate w fill)
cut_spelled base digits fill w h =
    take-take w 128 (spelled_bits base digits ++ replicate 128 fill) h
    ∙ take_filled (spelled_bits base digits) fill w 128 w h (omega arith)

-- the bits at a width are the low ones of those at the widest
pub bits_cut : (base : Base) (digits : List ℕ) (w : ℕ) → w ≤ 128 → take w (bits_at base 128 digits) ≡ bits_at base w digits
unfolding bits_at digits_of
bits_cut Binary digits w h = cut_spelled Binary digits (fill_of digits) w h
bits_cut Octal digits w h = cut_spelled Octal digits (fill_of digits) w h
bits_cut Decimal digits w h = elim (cases_Bool (is_unknown_at digits)) [
  | inl unknown ↦ rw unknown (take-replicate w 128 (fill_of digits) h)
  | inr known ↦ rw known (tabulate_cut (λ i. digit (bit_is (decimal_value digits) i)) w 128 h)
]
bits_cut Hex digits w h = cut_spelled Hex digits (fill_of digits) w h

pub next_digits : (base : Base) (byte : ℕ) (rest text : List ℕ) (bits next : List Bit) → text ≡ byte ∷ rest
    → next ≡ with_digit base byte bits → with_digits base text bits ≡ with_digits base rest next
unfolding with_digits
next_digits base byte rest text bits next e n = rw (e, n) refl

pub no_digits : (base : Base) (text : List ℕ) (bits : List Bit) → text ≡ [] → with_digits base text bits ≡ bits
unfolding with_digits
no_digits base text bits e = rw e refl

-- ---- values

pub value_spelled : (base : Base) (digits : List ℕ) → is_decimal base ≡ false → value_at base digits ≡ Ok (bits_at base 128 digits)
unfolding value_at is_too_large
value_spelled Binary digits h = refl
value_spelled Octal digits h = refl
value_spelled Decimal digits h = absurd cc
value_spelled Hex digits h = refl

pub value_unknown : (digits : List ℕ) → is_unknown_at digits ≡ true
    → value_at Decimal digits ≡ Ok (replicate 128 (fill_of digits))
unfolding value_at is_too_large bits_at
value_unknown digits h = rw h refl

pub value_large : (digits : List ℕ) → is_unknown_at digits ≡ false → 2 ^ 128 ≤ decimal_value digits
    → value_at Decimal digits ≡ Err BadNumber
unfolding value_at is_too_large
value_large digits h k = rw (h, le-leb (2 ^ 128) (decimal_value digits) k) refl

pub value_known : (digits : List ℕ) → is_unknown_at digits ≡ false → decimal_value digits < 2 ^ 128
    → value_at Decimal digits ≡ Ok (digits_of 128 (decimal_value digits))
unfolding value_at is_too_large bits_at
value_known digits h k = rw (h, lt-leb (2 ^ 128) (decimal_value digits) k) refl

pub are_digits : (base : Base) (text : List ℕ) → AreDigits base (run (is_byte_of base) text)
are_digits Binary text = run_all (is_byte_of Binary) text
are_digits Octal text = run_all (is_byte_of Octal) text
are_digits Decimal text = λ h. run_all (is_byte_of Decimal) text
are_digits Hex text = run_all (is_byte_of Hex) text

pub is_decimal_base : (base : Base) → is_decimal base ≡ true → base ≡ Decimal
is_decimal_base Binary h = absurd cc
is_decimal_base Octal h = absurd cc
is_decimal_base Decimal h = refl
is_decimal_base Hex h = absurd cc

-- ---- one more digit

pub same_digit : (base : Base) (byte : ℕ) (bits : List Bit) → byte ≡ 95 → bits ≡ with_digit base byte bits
unfolding with_digit
same_digit base byte bits h = sym (rw (eq-eqb byte 95 h) refl)

pub more_digit : (base : Base) (byte : ℕ) (bits : List Bit) → byte ≢ 95
    → with_digit base byte bits ≡ digit_bits base byte ++ take (128 - digit_width base) bits
unfolding with_digit
more_digit base byte bits h = rw (ne_eqb byte 95 h) refl
