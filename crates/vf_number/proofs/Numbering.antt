-- Numbers: what is read is what the definition says, and no other.
use Rattle.std.proofs.Common.{◌≡◌, ℕ, ◌<◌, ◌≤◌, ◌^◌, ◌==◌, ◌&&◌, ◌||◌, Bool, true, false, not, eqb, List, [], ◌∷◌, ◌++◌, length, take, Option, Some, None, Result, Ok, Err, refl, sym, ap, ◌∙◌, inl, inr, subst, arith}
use Rattle.std.specs.List.{list_all}
use Rattle.std.specs.Result.{IfOk, IfErr}
use Rattle.std.proofs.lemmas.Bool.{cases_Bool, cases_lt, and_parts, and_from, or_cases, or_left, eqb-true, eqb-false, both_ways, lt-ltb, le-ltb, or_parts, not-true}
use Rattle.vf_fours.specs.declared.Bit.{Bit}
use Rattle.vf_fours.specs.Bits.{FourState}
use Rattle.vf_fours.specs.Numbers.{digits_of}
use Rattle.vf_number.specs.declared.bases.Base.{Base}
use Rattle.vf_number.specs.declared.bases.Base.TheVariants.{Binary, Octal, Decimal, Hex}
use Rattle.vf_number.specs.declared.fault.NumberFault.{NumberFault}
use Rattle.vf_number.specs.declared.fault.NumberFault.TheVariants.{BadNumber, TooWide}
use Rattle.vf_number.specs.Bytes.{is_digit, is_blank, Ends}
use Rattle.vf_number.specs.Numbers.{is_underscore, is_decimal_byte, IsUnsigned, decimal_value, is_x, is_z, is_unknown, base_of, is_digit_of, is_byte_of, IsDigits, known, unknown, bits_at, is_too_large, IsSized, unsized, sized, IsBased, unmarked, marked, width_of, IsTicked, Read, IsNumber, BeginsNumber, plain, plain_too_large, based, no_digits, no_bits, too_wide, too_large}
use Rattle.vf_number.specs.Runs.{run, after_run}
use Rattle.vf_number.specs.Reading.{Shows, is_decimal, mark_at, seen_base, base_at, digits_at, width_at, value_at, based_at, plain_at, plain_or_based, number_at}
use Rattle.vf_number.proofs.RunLemmas.{run_parts, run_all, after_run_ends, run_of, after_run_of}
use Rattle.vf_number.proofs.Digits.{is_decimal_base, bits_cut}
use Rattle.vf_number.proofs.Taking.{after_shorter, number_takes}

-- ---- classes

-- a blank is none of the other bytes that count here
data IsBlankByte (b : ℕ) : Type 0 where
  space : b ≡ 32 → IsBlankByte b
  tab : b ≡ 9 → IsBlankByte b
  line : b ≡ 10 → IsBlankByte b
  feed : b ≡ 12 → IsBlankByte b
  return : b ≡ 13 → IsBlankByte b

blank_byte : (b : ℕ) → is_blank b ≡ true → IsBlankByte b
blank_byte b h = elim (or_cases (eqb b 32 || eqb b 9 || eqb b 10 || eqb b 12) (eqb b 13) h) [
  | inr e ↦ return (eqb-true b 13 e)
  | inl h ↦ elim (or_cases (eqb b 32 || eqb b 9 || eqb b 10) (eqb b 12) h) [
    | inr e ↦ feed (eqb-true b 12 e)
    | inl h ↦ elim (or_cases (eqb b 32 || eqb b 9) (eqb b 10) h) [
      | inr e ↦ line (eqb-true b 10 e)
      | inl h ↦ elim (or_cases (eqb b 32) (eqb b 9) h) [
        | inr e ↦ tab (eqb-true b 9 e)
        | inl e ↦ space (eqb-true b 32 e)
      ]
    ]
  ]
]

pub blank_no_decimal : (b : ℕ) → is_blank b ≡ true → is_decimal_byte b ≡ false
blank_no_decimal b h = elim (blank_byte b h) [
  | space e ↦ rw e refl
  | tab e ↦ rw e refl
  | line e ↦ rw e refl
  | feed e ↦ rw e refl
  | return e ↦ rw e refl
]

digit_decimal : (b : ℕ) → is_digit b ≡ true → is_decimal_byte b ≡ true
digit_decimal b h = or_left (is_digit b) (is_underscore b) h

-- ---- the size

-- the size that a run of digits gives, which may be empty
abbrev pub size_of : List ℕ → Option ℕ
size_of [] = None
size_of (b ∷ digits) = Some (decimal_value (b ∷ digits))

data IsWidth (size : Option ℕ) (width : Result ℕ NumberFault) : Type 0 where
  fits : 1 ≤ width_of size → width_of size ≤ 128 → width ≡ Ok (width_of size) → IsWidth size width
  no_width : width_of size ≡ 0 → width ≡ Err BadNumber → IsWidth size width
  wide : 128 < width_of size → width ≡ Err TooWide → IsWidth size width

width_is : (digits : List ℕ) → IsWidth (size_of digits) (width_at digits)
unfolding width_at
width_is [] = fits (omega arith) (omega arith) refl
width_is (b ∷ digits) =
    let n = decimal_value (b ∷ digits) in
    elim (cases_Bool (eqb n 0)) [
      | inl z ↦ no_width (eqb-true n 0 z) (rw z refl)
      | inr some ↦
          let other = eqb-false n 0 some in
          elim (cases_lt 128 n) [
            | inl large ↦ wide large (rw (some, lt-ltb 128 n large) refl)
            | inr small ↦ fits (omega arith) small (rw (some, le-ltb 128 n small) refl)
          ]
    ]

-- ---- what follows the `'`

data IsBaseAt (text : List ℕ) (seen : Result (Base × List ℕ) NumberFault) : Type 0 where
  base_found : (letter : ℕ) (rest : List ℕ) (b : Base) → text ≡ letter ∷ rest → base_of letter ≡ Some b → seen ≡ Ok (b, rest)
      → IsBaseAt text seen
  no_base : ((letter : ℕ) (rest : List ℕ) (b : Base) → text ≡ letter ∷ rest → base_of letter ≡ Some b → ⊥) → seen ≡ Err BadNumber
      → IsBaseAt text seen

base_seen : (letter : ℕ) (rest : List ℕ) (o : Option Base) → base_of letter ≡ o → IsBaseAt (letter ∷ rest) (seen_base o rest)
base_seen letter rest (Some b) e = base_found letter rest b refl e refl
base_seen letter rest None e =
    no_base (λ other more b is found. let first : letter ≡ other = cc in let clash : Some b ≡ None = sym found
    ∙ ap base_of (sym first) ∙ e in absurd cc) refl

base_is : (text : List ℕ) → IsBaseAt text (base_at text)
unfolding base_at
base_is [] = no_base (λ other more b is found. absurd cc) refl
base_is (letter ∷ rest) = base_seen letter rest (base_of letter) refl

base_complete : (letter : ℕ) (rest : List ℕ) (b : Base) → base_of letter ≡ Some b → base_at (letter ∷ rest) ≡ Ok (b, rest)
unfolding base_at
base_complete letter rest b h = ap (λ o. seen_base o rest) h

data IsDigitsAt (b : Base) (text : List ℕ) (seen : Result (List ℕ × List ℕ) NumberFault) : Type 0 where
  found : (digits rest : List ℕ) → text ≡ digits ++ rest → IsDigits b digits rest → seen ≡ Ok (digits, rest)
      → IsDigitsAt b text seen
  absent : seen ≡ Err BadNumber → IsDigitsAt b text seen

digits_is : (b : Base) (text : List ℕ) → IsDigitsAt b text (digits_at b text)
unfolding digits_at run after_run
digits_is b [] = absent refl
digits_is b (first ∷ rest) = elim (cases_Bool (is_digit_of b first)) [
  | inl digit ↦
      let class = is_byte_of b in
      found (first ∷ run class rest) (after_run class rest) (ap (λ (t : List ℕ). first ∷ t) (run_parts class rest))
      (known first (run class rest) digit (run_all class rest) (after_run_ends class rest) refl) (rw digit refl)
  | inr other ↦ elim (cases_Bool (is_decimal b && is_unknown first)) [
    | inl both ↦
        let p = and_parts (is_decimal b) (is_unknown first) both in
        found (first ∷ run is_underscore rest) (after_run is_underscore rest)
        (ap (λ (t : List ℕ). first ∷ t) (run_parts is_underscore rest))
        (unknown first (run is_underscore rest) (is_decimal_base b p.0) p.1 (run_all is_underscore rest)
        (after_run_ends is_underscore rest) refl) (rw (other, both) refl)
    | inr none ↦ absent (rw (other, none) refl)
  ]
]

unknown_no_digit : (b : ℕ) → is_unknown b ≡ true → is_digit b ≡ false
unknown_no_digit b h = elim (or_cases (is_x b) (is_z b) h) [
  | inl x ↦ elim (or_cases (eqb b 120) (eqb b 88) x) [
    | inl e ↦ rw (eqb-true b 120 e) refl
    | inr e ↦ rw (eqb-true b 88 e) refl
  ]
  | inr z ↦ elim (or_cases (eqb b 122 || eqb b 90) (eqb b 63) z) [
    | inr e ↦ rw (eqb-true b 63 e) refl
    | inl z ↦ elim (or_cases (eqb b 122) (eqb b 90) z) [
      | inl e ↦ rw (eqb-true b 122 e) refl
      | inr e ↦ rw (eqb-true b 90 e) refl
    ]
  ]
]

known_complete : (b : Base) (first : ℕ) (more rest : List ℕ) → is_digit_of b first ≡ true → list_all (is_byte_of b) more ≡ true
    → Ends (is_byte_of b) rest
    → digits_at b (first ∷ (more ++ rest)) ≡ Ok (first ∷ more, rest)
unfolding digits_at run after_run
known_complete b first more rest digit all ends =
    rw (digit, run_of (is_byte_of b) more rest all ends, after_run_of (is_byte_of b) more rest all ends) refl

unknown_complete : (first : ℕ) (more rest : List ℕ) → is_unknown first ≡ true → list_all is_underscore more ≡ true
    → Ends is_underscore rest
    → digits_at Decimal (first ∷ (more ++ rest)) ≡ Ok (first ∷ more, rest)
unfolding digits_at
unknown_complete first more rest h all ends =
    rw (unknown_no_digit first h, h, run_of is_underscore more rest all ends, after_run_of is_underscore more rest all ends) refl

digits_complete : (b : Base) (digits rest : List ℕ) → IsDigits b digits rest → digits_at b (digits ++ rest) ≡ Ok (digits, rest)
digits_complete b digits rest (known first more digit all ends e) = rw e (known_complete b first more rest digit all ends)
digits_complete b digits rest (unknown first more is h all ends e) = rw (is, e) (unknown_complete first more rest h all ends)

-- digits begin with no blank
unknown_no_blank : (b : ℕ) → is_blank b ≡ true → is_unknown b ≡ false
unknown_no_blank b h = elim (blank_byte b h) [
  | space e ↦ rw e refl
  | tab e ↦ rw e refl
  | line e ↦ rw e refl
  | feed e ↦ rw e refl
  | return e ↦ rw e refl
]

-- no digit of any base
abbrev is_no_digit : ℕ → Bool
is_no_digit b = not (is_digit_of Binary b || is_digit_of Octal b || is_digit_of Decimal b || is_digit_of Hex b)

by_base : (base : Base) (b : ℕ) → is_no_digit b ≡ true → is_digit_of base b ≡ false
by_base Binary b h = (or_parts (is_digit_of Binary b) (is_digit_of Octal b)
    (or_parts (is_digit_of Binary b || is_digit_of Octal b) (is_digit_of Decimal b)
    (or_parts (is_digit_of Binary b || is_digit_of Octal b || is_digit_of Decimal b) (is_digit_of Hex b) (not-true _ h)).0).0).0
by_base Octal b h = (or_parts (is_digit_of Binary b) (is_digit_of Octal b)
    (or_parts (is_digit_of Binary b || is_digit_of Octal b) (is_digit_of Decimal b)
    (or_parts (is_digit_of Binary b || is_digit_of Octal b || is_digit_of Decimal b) (is_digit_of Hex b) (not-true _ h)).0).0).1
by_base Decimal b h = (or_parts (is_digit_of Binary b || is_digit_of Octal b) (is_digit_of Decimal b)
    (or_parts (is_digit_of Binary b || is_digit_of Octal b || is_digit_of Decimal b) (is_digit_of Hex b) (not-true _ h)).0).1
by_base Hex b h = (or_parts (is_digit_of Binary b || is_digit_of Octal b || is_digit_of Decimal b) (is_digit_of Hex b)
    (not-true _ h)).1

digit_no_blank : (base : Base) (b : ℕ) → is_blank b ≡ true → is_digit_of base b ≡ false
digit_no_blank base b h = elim (blank_byte b h) [
  | space e ↦ rw e (by_base base 32 refl)
  | tab e ↦ rw e (by_base base 9 refl)
  | line e ↦ rw e (by_base base 10 refl)
  | feed e ↦ rw e (by_base base 12 refl)
  | return e ↦ rw e (by_base base 13 refl)
]

digits_end : (base : Base) (digits rest : List ℕ) → IsDigits base digits rest → Ends is_blank (digits ++ rest)
digits_end base digits rest (known first more digit all ends e) =
    rw e (elim (cases_Bool (is_blank first)) [
      | inl blank ↦ absurd (both_ways (is_digit_of base first) (digit_no_blank base first blank) digit)
      | inr other ↦ other
    ])
digits_end base digits rest (unknown first more is h all ends e) =
    rw e (elim (cases_Bool (is_blank first)) [
      | inl blank ↦ absurd (both_ways (is_unknown first) (unknown_no_blank first blank) h)
      | inr other ↦ other
    ])

-- the three parts of it
pub record IsShape (text : List ℕ) (signed : Bool) (base : Base) (digits rest : List ℕ) : Type 0 where
  pub after_base : List ℕ
  pub mark : (mark_at text).0 ≡ signed
  pub base_read : base_at (mark_at text).1 ≡ Ok (base, after_base)
  pub digits_read : digits_at base (after_run is_blank after_base) ≡ Ok (digits, rest)

base_no_mark : (letter : ℕ) (b : Base) → base_of letter ≡ Some b → (letter == 115 || letter == 83) ≡ false
base_no_mark letter b h = elim (cases_Bool (letter == 115 || letter == 83)) [
  | inr other ↦ other
  | inl mark ↦ elim (or_cases (letter == 115) (letter == 83) mark) [
    | inl e ↦ let none : None ≡ Some b = ap base_of (sym (eqb-true letter 115 e)) ∙ h in absurd cc
    | inr e ↦ let none : None ≡ Some b = ap base_of (sym (eqb-true letter 83 e)) ∙ h in absurd cc
  ]
]

mark_other : (letter : ℕ) (rest : List ℕ) → (letter == 115 || letter == 83) ≡ false
    → mark_at (letter ∷ rest) ≡ (false, letter ∷ rest)
unfolding mark_at
mark_other letter rest h = rw h refl

mark_here : (mark : ℕ) (rest : List ℕ) → (mark == 115 || mark == 83) ≡ true → mark_at (mark ∷ rest) ≡ (true, rest)
unfolding mark_at
mark_here mark rest h = rw h refl

shaped : (text : List ℕ) (letter : ℕ) (blanks : List ℕ) (signed : Bool) (base : Base) (digits rest : List ℕ)
    → mark_at text ≡ (signed, letter ∷ (blanks ++ (digits ++ rest)))
    → base_of letter ≡ Some base → list_all is_blank blanks ≡ true → IsDigits base digits rest
    → IsShape text signed base digits rest
shaped text letter blanks signed base digits rest m h all d = record {
  after_base = blanks ++ (digits ++ rest);
  mark = ap (λ p. p.0) m;
  base_read = ap (λ p. base_at p.1) m ∙ base_complete letter (blanks ++ (digits ++ rest)) base h;
  digits_read = ap (digits_at base) (after_run_of is_blank blanks (digits ++ rest) all (digits_end base digits rest d))
      ∙ digits_complete base digits rest d;
}

shape_complete : (text : List ℕ) (signed : Bool) (base : Base) (digits rest : List ℕ) → IsBased text signed base digits rest
    → IsShape text signed base digits rest
shape_complete text signed base digits rest (unmarked letter blanks h all d e s) =
    shaped text letter blanks signed base digits rest
    (ap mark_at e ∙ mark_other letter (blanks ++ (digits ++ rest)) (base_no_mark letter base h)
    ∙ ap (λ (x : Bool). (x, letter ∷ (blanks ++ (digits ++ rest)))) (sym s)) h all d
shape_complete text signed base digits rest (marked mark letter blanks m h all d e s) =
    shaped text letter blanks signed base digits rest
    (ap mark_at e ∙ mark_here mark (letter ∷ (blanks ++ (digits ++ rest))) m
    ∙ ap (λ (x : Bool). (x, letter ∷ (blanks ++ (digits ++ rest)))) (sym s)) h all d

-- a mark in front, or none
data IsMark (text : List ℕ) (seen : Bool × List ℕ) : Type 0 where
  mark_found : (m : ℕ) → (m == 115 || m == 83) ≡ true → text ≡ m ∷ seen.1 → seen.0 ≡ true → IsMark text seen
  no_mark : seen ≡ (false, text) → IsMark text seen

mark_is : (text : List ℕ) → IsMark text (mark_at text)
unfolding mark_at
mark_is [] = no_mark refl
mark_is (b ∷ rest) = elim (cases_Bool (b == 115 || b == 83)) [
  | inl m ↦ rw m (mark_found b m refl refl)
  | inr other ↦ rw other (no_mark refl)
]

based_from : (text : List ℕ) (seen : Bool × List ℕ) (letter : ℕ) (blanks : List ℕ) (b : Base) (digits rest : List ℕ)
    → IsMark text seen → seen.1 ≡ letter ∷ (blanks ++ (digits ++ rest))
    → base_of letter ≡ Some b → list_all is_blank blanks ≡ true → IsDigits b digits rest → IsBased text seen.0 b digits rest
based_from text seen letter blanks b digits rest (mark_found m is e s) more h all d =
    marked m letter blanks is h all d (e ∙ ap (λ (t : List ℕ). m ∷ t) more) s
based_from text seen letter blanks b digits rest (no_mark e) more h all d =
    unmarked letter blanks h all d (sym (ap (λ p. p.1) e) ∙ more) (ap (λ p. p.0) e)

-- ---- a based number

value_fits : (b : Base) (digits : List ℕ) → is_too_large b digits ≡ false → value_at b digits ≡ Ok (bits_at b 128 digits)
unfolding value_at
value_fits b digits h = rw h refl

value_too_large : (b : Base) (digits : List ℕ) → is_too_large b digits ≡ true → value_at b digits ≡ Err BadNumber
unfolding value_at
value_too_large b digits h = rw h refl

seen_value : (size more digits rest after_base : List ℕ) (b : Base) (n : ℕ) (bits : List Bit)
    → base_at (mark_at more).1 ≡ Ok (b, after_base)
    → digits_at b (after_run is_blank after_base) ≡ Ok (digits, rest) → value_at b digits ≡ Ok bits → width_at size ≡ Ok n
    → based_at size more ≡ Ok (record { bits = take n bits; signed = (mark_at more).0 }, rest)
unfolding based_at
seen_value size more digits rest after_base b n bits e d v w = rw (e, d, v, w) refl

seen_no_width : (size more digits rest after_base : List ℕ) (b : Base) (bits : List Bit) (fault : NumberFault)
    → base_at (mark_at more).1 ≡ Ok (b, after_base)
    → digits_at b (after_run is_blank after_base) ≡ Ok (digits, rest) → value_at b digits ≡ Ok bits → width_at size ≡ Err fault
    → based_at size more ≡ Err fault
unfolding based_at
seen_no_width size more digits rest after_base b bits fault e d v w = rw (e, d, v, w) refl

seen_no_value : (size more digits rest after_base : List ℕ) (b : Base) (fault : NumberFault)
    → base_at (mark_at more).1 ≡ Ok (b, after_base)
    → digits_at b (after_run is_blank after_base) ≡ Ok (digits, rest) → value_at b digits ≡ Err fault
    → based_at size more ≡ Err fault
unfolding based_at
seen_no_value size more digits rest after_base b fault e d v = rw (e, d, v) refl

-- a size of 0 is wrong whatever the digits are
seen_no_bits : (size more digits rest after_base : List ℕ) (b : Base) → base_at (mark_at more).1 ≡ Ok (b, after_base)
    → digits_at b (after_run is_blank after_base) ≡ Ok (digits, rest) → width_at size ≡ Err BadNumber
    → based_at size more ≡ Err BadNumber
seen_no_bits size more digits rest after_base b e d w = elim (cases_Bool (is_too_large b digits)) [
  | inl large ↦ seen_no_value size more digits rest after_base b BadNumber e d (value_too_large b digits large)
  | inr small ↦ seen_no_width size more digits rest after_base b (bits_at b 128 digits) BadNumber e d (value_fits b digits small) w
]

-- what the fitting size and value of a number give
seen_number : (size more digits rest after_base : List ℕ) (b : Base) (n : ℕ)
    → base_at (mark_at more).1 ≡ Ok (b, after_base)
    → digits_at b (after_run is_blank after_base) ≡ Ok (digits, rest) → is_too_large b digits ≡ false → width_at size ≡ Ok n
    → n ≤ 128 → based_at size more ≡ Ok (record { bits = bits_at b n digits; signed = (mark_at more).0 }, rest)
seen_number size more digits rest after_base b n e d small w most =
    seen_value size more digits rest after_base b n (bits_at b 128 digits) e d (value_fits b digits small) w
    ∙ ap (λ (bits : List Bit). Ok (record { bits = bits; signed = (mark_at more).0 }, rest)) (bits_cut b digits n most)

seen_no_digits : (size more after_base : List ℕ) (b : Base) (fault : NumberFault) → base_at (mark_at more).1 ≡ Ok (b, after_base)
    → digits_at b (after_run is_blank after_base) ≡ Err fault → based_at size more ≡ Err fault
unfolding based_at
seen_no_digits size more after_base b fault e d = rw (e, d) refl

seen_no_base : (size more : List ℕ) (fault : NumberFault) → base_at (mark_at more).1 ≡ Err fault → based_at size more ≡ Err fault
unfolding based_at
seen_no_base size more fault e = rw e refl

ok_err : {A : Type 0} (r : Result A NumberFault) (x : A) (fault : NumberFault) → r ≡ Ok x → r ≡ Err fault → ⊥
ok_err (Ok y) x fault e f = absurd cc
ok_err (Err y) x fault e f = absurd cc

ok_ok : {A : Type 0} (r : Result A NumberFault) (x y : A) → r ≡ Ok x → r ≡ Ok y → x ≡ y
ok_ok (Ok z) x y e f = cc
ok_ok (Err z) x y e f = absurd cc

shape_no_base : (more : List ℕ) → base_at (mark_at more).1 ≡ Err BadNumber → (s : Bool) (b : Base) (digits rest : List ℕ)
    → IsBased more s b digits rest → ⊥
shape_no_base more e s b digits rest is =
    let shape = shape_complete more s b digits rest is in
    ok_err (base_at (mark_at more).1) _ BadNumber shape.base_read e

shape_no_digits : (more after_base : List ℕ) (b : Base) → base_at (mark_at more).1 ≡ Ok (b, after_base)
    → digits_at b (after_run is_blank after_base) ≡ Err BadNumber
    → (s : Bool) (other : Base) (digits rest : List ℕ) → IsBased more s other digits rest → ⊥
shape_no_digits more after_base b e d s other digits rest is =
    let shape = shape_complete more s other digits rest is in
    let pair_is = ok_ok (base_at (mark_at more).1) (other, shape.after_base) (b, after_base) shape.base_read e in
    ok_err (digits_at b (after_run is_blank after_base)) _ BadNumber
    (sym (ap (λ p. digits_at p.0 (after_run is_blank p.1)) pair_is) ∙ shape.digits_read) d

based_value : (text size more digits rest after_base : List ℕ) (b : Base) → IsSized text (size_of size) more
    → IsBased more (mark_at more).0 b digits rest
    → base_at (mark_at more).1 ≡ Ok (b, after_base) → digits_at b (after_run is_blank after_base) ≡ Ok (digits, rest)
    → IsNumber text (based_at size more)
based_value text size more digits rest after_base b sized_is is e d =
    let s = (mark_at more).0 in
    elim (cases_Bool (is_too_large b digits)) [
      | inl large ↦ too_large (size_of size) s b more digits rest sized_is is large
          (seen_no_value size more digits rest after_base b BadNumber e d (value_too_large b digits large))
      | inr small ↦ elim (width_is size) [
        | no_width z w ↦ no_bits (size_of size) s b more digits rest sized_is is z
            (seen_no_width size more digits rest after_base b (bits_at b 128 digits) BadNumber e d (value_fits b digits small) w)
        | wide large w ↦ too_wide (size_of size) s b more digits rest sized_is is small large
            (seen_no_width size more digits rest after_base b (bits_at b 128 digits) TooWide e d (value_fits b digits small) w)
        | fits some most w ↦ based (size_of size) s b more digits rest sized_is is some most small
            (seen_number size more digits rest after_base b (width_of (size_of size)) e d small w most)
      ]
    ]

based_sound : (text size more : List ℕ) → IsSized text (size_of size) more → IsNumber text (based_at size more)
based_sound text size more sized_is = elim (base_is (mark_at more).1) [
  | no_base wrong e ↦ no_digits (size_of size) more sized_is (shape_no_base more e) (seen_no_base size more BadNumber e)
  | base_found letter rest b t l e ↦ elim (digits_is b (after_run is_blank rest)) [
    | absent d ↦ no_digits (size_of size) more sized_is (shape_no_digits more rest b e d)
        (seen_no_digits size more rest b BadNumber e d)
    | found digits last parts is d ↦
        let whole : (mark_at more).1 ≡ letter ∷ (run is_blank rest ++ (digits ++ last))
        = t ∙ ap (λ (r : List ℕ). letter ∷ r) (run_parts is_blank rest ∙ ap (λ (r : List ℕ). run is_blank rest ++ r) parts) in
        based_value text size more digits last rest b sized_is
        (based_from more (mark_at more) letter (run is_blank rest) b digits last (mark_is more) whole l (run_all is_blank rest)
        is) e d
  ]
]

-- ---- a number

tick_end : (blanks rest : List ℕ) → list_all is_blank blanks ≡ true → after_run is_blank (blanks ++ 39 ∷ rest) ≡ 39 ∷ rest
tick_end blanks rest all = after_run_of is_blank blanks (39 ∷ rest) all refl

not_ticked : (rest other : List ℕ) → after_run is_blank rest ≡ other → ((more : List ℕ) → other ≡ 39 ∷ more → ⊥) → IsTicked rest → ⊥
not_ticked rest other e h t = h t.rest (sym e ∙ ap (after_run is_blank) t.ticked ∙ tick_end t.blanks t.rest t.blank)

plain_fits : (digits rest : List ℕ) → decimal_value digits < 2 ^ 32
    → plain_at digits rest ≡ Ok (record { bits = digits_of 32 (decimal_value digits); signed = true }, rest)
unfolding plain_at
plain_fits digits rest h = rw (lt-ltb (decimal_value digits) (2 ^ 32) h) refl

plain_large : (digits rest : List ℕ) → 2 ^ 32 ≤ decimal_value digits → plain_at digits rest ≡ Err BadNumber
unfolding plain_at
plain_large digits rest h = rw (le-ltb (decimal_value digits) (2 ^ 32) h) refl

plain_sound : (text digits rest : List ℕ) → IsUnsigned digits → Ends is_decimal_byte rest → (IsTicked rest → ⊥)
    → text ≡ digits ++ rest → IsNumber text (plain_at digits rest)
plain_sound text digits rest is ends other e = elim (cases_lt (decimal_value digits) (2 ^ 32)) [
  | inl small ↦ plain digits rest is ends other e small (plain_fits digits rest small)
  | inr large ↦ plain_too_large digits rest is ends other e large (plain_large digits rest large)
]

sized_at : (text digits blanks more : List ℕ) → IsUnsigned digits → list_all is_blank blanks ≡ true
    → text ≡ digits ++ (blanks ++ 39 ∷ more) → IsSized text (size_of digits) more
sized_at text [] blanks more is all e = absurd is
sized_at text (b ∷ digits) blanks more is all e = sized (b ∷ digits) blanks is all e refl

number_from : (text digits rest other : List ℕ) → IsUnsigned digits → Ends is_decimal_byte rest → text ≡ digits ++ rest
    → after_run is_blank rest ≡ other → IsNumber text (plain_or_based digits rest other)
unfolding plain_or_based
number_from text digits rest [] is ends e b = plain_sound text digits rest is ends (not_ticked rest [] b (λ more x. absurd cc)) e
number_from text digits rest (first ∷ more) is ends e b = elim (cases_Bool (eqb first 39)) [
  | inl tick ↦
      let blanks = run is_blank rest in
      let whole : rest ≡ blanks ++ 39 ∷ more = run_parts is_blank rest
      ∙ ap (λ (t : List ℕ). blanks ++ t) (b ∙ ap (λ (x : ℕ). x ∷ more) (eqb-true first 39 tick)) in
      rw tick (based_sound text digits more
      (sized_at text digits blanks more is (run_all is_blank rest) (e ∙ ap (λ (t : List ℕ). digits ++ t) whole)))
  | inr other ↦
      rw other (plain_sound text digits rest is ends
      (not_ticked rest (first ∷ more) b (λ last x. let same : first ≡ 39 = cc in eqb-false first 39 other same)) e)
]

front_run : (first : ℕ) (rest : List ℕ) → is_decimal_byte first ≡ true
    → run is_decimal_byte (first ∷ rest) ≡ first ∷ run is_decimal_byte rest
unfolding run
front_run first rest h = rw h refl

digit_front : (first : ℕ) (rest : List ℕ) → is_digit first ≡ true → IsNumber (first ∷ rest) (number_at (first ∷ rest))
unfolding number_at
digit_front first rest h =
    let text = first ∷ rest in
    let front : run is_decimal_byte text ≡ first ∷ run is_decimal_byte rest = front_run first rest (digit_decimal first h) in
    number_from text (run is_decimal_byte text) (after_run is_decimal_byte text) (after_run is_blank (after_run is_decimal_byte text))
    (subst IsUnsigned (sym front) (h, run_all is_decimal_byte rest)) (after_run_ends is_decimal_byte text)
    (run_parts is_decimal_byte text) refl

at_tick : (rest : List ℕ) → number_at (39 ∷ rest) ≡ based_at [] rest
unfolding number_at plain_or_based run after_run
at_tick rest = refl

pub number_sound : (text : List ℕ) → BeginsNumber text → IsNumber text (number_at text)
number_sound [] h = absurd h
number_sound (first ∷ rest) h = elim (or_cases (is_digit first) (first == 39) h) [
  | inl digit ↦ digit_front first rest digit
  | inr tick ↦
      let at : first ≡ 39 = eqb-true first 39 tick in
      rw (at, at_tick rest) (based_sound (39 ∷ rest) [] rest (unsized refl refl))
]

-- ---- and back

unsigned_all : (digits : List ℕ) → IsUnsigned digits → list_all is_decimal_byte digits ≡ true
unsigned_all [] is = absurd is
unsigned_all (b ∷ digits) is = and_from (is_decimal_byte b) (list_all is_decimal_byte digits) (digit_decimal b is.0) is.1

number_of : (digits rest : List ℕ) → IsUnsigned digits → Ends is_decimal_byte rest
    → number_at (digits ++ rest) ≡ plain_or_based digits rest (after_run is_blank rest)
unfolding number_at
number_of digits rest is ends =
    let all = unsigned_all digits is in
    rw (run_of is_decimal_byte digits rest all ends, after_run_of is_decimal_byte digits rest all ends) refl

plain_by : (digits rest other : List ℕ) → after_run is_blank rest ≡ other → (IsTicked rest → ⊥)
    → plain_or_based digits rest other ≡ plain_at digits rest
unfolding plain_or_based
plain_by digits rest [] e h = refl
plain_by digits rest (first ∷ more) e h = elim (cases_Bool (eqb first 39)) [
  | inl tick ↦
      let blanks = run is_blank rest in
      let whole : rest ≡ blanks ++ 39 ∷ more = run_parts is_blank rest
      ∙ ap (λ (t : List ℕ). blanks ++ t) (e ∙ ap (λ (x : ℕ). x ∷ more) (eqb-true first 39 tick)) in
      absurd (h (record { blanks = blanks; rest = more; blank = run_all is_blank rest; ticked = whole }))
  | inr other ↦ rw other refl
]

plain_complete : (text digits rest : List ℕ) → IsUnsigned digits → Ends is_decimal_byte rest → (IsTicked rest → ⊥)
    → text ≡ digits ++ rest → number_at text ≡ plain_at digits rest
plain_complete text digits rest is ends h e = ap number_at e ∙ number_of digits rest is ends
    ∙ plain_by digits rest (after_run is_blank rest) refl h

blanks_end : (blanks more : List ℕ) → list_all is_blank blanks ≡ true → Ends is_decimal_byte (blanks ++ 39 ∷ more)
blanks_end [] more all = refl
blanks_end (b ∷ blanks) more all = blank_no_decimal b (and_parts (is_blank b) (list_all is_blank blanks) all).0

ticked_by : (digits rest more : List ℕ) → plain_or_based digits rest (39 ∷ more) ≡ based_at digits more
unfolding plain_or_based
ticked_by digits rest more = refl

sized_complete : (text : List ℕ) (size : Option ℕ) (more : List ℕ) → IsSized text size more → (digits : List ℕ)
    × (number_at text ≡ based_at digits more) × (size ≡ size_of digits)
sized_complete text size more (unsized e s) = ([], ap number_at e ∙ at_tick more, s)
sized_complete text size more (sized [] blanks is all e s) = absurd is
sized_complete text size more (sized (b ∷ digits) blanks is all e s) =
    let rest = blanks ++ 39 ∷ more in (
      b ∷ digits,
      ap number_at e ∙ number_of (b ∷ digits) rest is (blanks_end blanks more all)
          ∙ ap (plain_or_based (b ∷ digits) rest) (tick_end blanks more all)
          ∙ ticked_by (b ∷ digits) rest more,
      s,
    )

no_shape : (size more : List ℕ) → ((s : Bool) (b : Base) (digits rest : List ℕ) → IsBased more s b digits rest → ⊥)
    → based_at size more ≡ Err BadNumber
no_shape size more none = elim (base_is (mark_at more).1) [
  | no_base wrong e ↦ seen_no_base size more BadNumber e
  | base_found letter rest b t l e ↦ elim (digits_is b (after_run is_blank rest)) [
    | absent d ↦ seen_no_digits size more rest b BadNumber e d
    | found digits last parts is d ↦
        let whole : (mark_at more).1 ≡ letter ∷ (run is_blank rest ++ (digits ++ last))
        = t ∙ ap (λ (r : List ℕ). letter ∷ r) (run_parts is_blank rest ∙ ap (λ (r : List ℕ). run is_blank rest ++ r) parts) in
        absurd (none (mark_at more).0 b digits last
        (based_from more (mark_at more) letter (run is_blank rest) b digits last (mark_is more) whole l
        (run_all is_blank rest) is))
  ]
]

width_fits : (size : Option ℕ) (digits : List ℕ) → size ≡ size_of digits → 1 ≤ width_of size → width_of size ≤ 128
    → width_at digits ≡ Ok (width_of size)
width_fits size digits e some most =
    let same = ap width_of e in
    elim (width_is digits) [
      | fits x y w ↦ w ∙ ap (λ n. Ok n) (sym same)
      | no_width z w ↦ absurd (omega arith)
      | wide large w ↦ absurd (omega arith)
    ]

width_none : (size : Option ℕ) (digits : List ℕ) → size ≡ size_of digits → width_of size ≡ 0 → width_at digits ≡ Err BadNumber
width_none size digits e zero_is =
    let same = ap width_of e in
    elim (width_is digits) [
      | fits x y w ↦ absurd (omega arith)
      | no_width z w ↦ w
      | wide large w ↦ absurd (omega arith)
    ]

width_wide : (size : Option ℕ) (digits : List ℕ) → size ≡ size_of digits → 128 < width_of size → width_at digits ≡ Err TooWide
width_wide size digits e large_is =
    let same = ap width_of e in
    elim (width_is digits) [
      | fits x y w ↦ absurd (omega arith)
      | no_width z w ↦ absurd (omega arith)
      | wide large w ↦ w
    ]

pub number_complete : (text : List ℕ) (seen : Read) → IsNumber text seen → number_at text ≡ seen
number_complete text seen (plain digits rest is ends h e small s) = plain_complete text digits rest is ends h e
    ∙ plain_fits digits rest small ∙ sym s
number_complete text seen (plain_too_large digits rest is ends h e large s) = plain_complete text digits rest is ends h e
    ∙ plain_large digits rest large ∙ sym s
number_complete text seen (based size signed b more digits rest z is some most small s) =
    let p = sized_complete text size more z in
    let shape = shape_complete more signed b digits rest is in
    p.1 ∙ seen_number p.0 more digits rest shape.after_base b (width_of size) shape.base_read shape.digits_read small
    (width_fits size p.0 p.2 some most) most
    ∙ ap (λ (x : Bool). Ok (record { bits = bits_at b (width_of size) digits; signed = x }, rest)) shape.mark ∙ sym s
number_complete text seen (no_digits size more z none s) =
    let p = sized_complete text size more z in
    p.1 ∙ no_shape p.0 more none ∙ sym s
number_complete text seen (no_bits size signed b more digits rest z is w s) =
    let p = sized_complete text size more z in
    let shape = shape_complete more signed b digits rest is in
    p.1 ∙ seen_no_bits p.0 more digits rest shape.after_base b shape.base_read shape.digits_read (width_none size p.0 p.2 w)
    ∙ sym s
number_complete text seen (too_large size signed b more digits rest z is large s) =
    let p = sized_complete text size more z in
    let shape = shape_complete more signed b digits rest is in
    p.1 ∙ seen_no_value p.0 more digits rest shape.after_base b BadNumber shape.base_read shape.digits_read
    (value_too_large b digits large) ∙ sym s
number_complete text seen (too_wide size signed b more digits rest z is small w s) =
    let p = sized_complete text size more z in
    let shape = shape_complete more signed b digits rest is in
    p.1 ∙ seen_no_width p.0 more digits rest shape.after_base b (bits_at b 128 digits) TooWide shape.base_read shape.digits_read
    (value_fits b digits small) (width_wide size p.0 p.2 w) ∙ sym s

pub numbers_once : (text : List ℕ) (seen other : Read) → IsNumber text seen → IsNumber text other → seen ≡ other
numbers_once text seen other a b = sym (number_complete text seen a) ∙ number_complete text other b

-- ---- a number begins with a digit or a `'`

unsigned_begins : (text digits rest : List ℕ) → IsUnsigned digits → text ≡ digits ++ rest → BeginsNumber text
unsigned_begins text [] rest is e = absurd is
unsigned_begins text (b ∷ digits) rest is e = rw e (or_left (is_digit b) (b == 39) is.0)

sized_begins : (text : List ℕ) (size : Option ℕ) (more : List ℕ) → IsSized text size more → BeginsNumber text
sized_begins text size more (unsized e s) = rw e refl
sized_begins text size more (sized digits blanks is all e s) = unsigned_begins text digits (blanks ++ 39 ∷ more) is e

pub number_begins : (text : List ℕ) (seen : Read) → IsNumber text seen → BeginsNumber text
number_begins text seen (plain digits rest is ends h e small s) = unsigned_begins text digits rest is e
number_begins text seen (plain_too_large digits rest is ends h e large s) = unsigned_begins text digits rest is e
number_begins text seen (based size signed b more digits rest z is some most small s) = sized_begins text size more z
number_begins text seen (no_digits size more z none s) = sized_begins text size more z
number_begins text seen (no_bits size signed b more digits rest z is w s) = sized_begins text size more z
number_begins text seen (too_large size signed b more digits rest z is large s) = sized_begins text size more z
number_begins text seen (too_wide size signed b more digits rest z is small w s) = sized_begins text size more z

-- ---- what the code answers

pub found_from : {A : Type 0} (view : A → FourState × List ℕ) (text : List ℕ) (r : Result A NumberFault) → BeginsNumber text
    → Shows view r (number_at text) → IfOk r (λ x. IsNumber text (Ok (view x)))
found_from view text (Ok x) begins h = subst (λ s. IsNumber text s) h (number_sound text begins)
found_from view text (Err e) begins h = tt

pub shorter_from : {A : Type 0} (view : A → FourState × List ℕ) (text : List ℕ) (r : Result A NumberFault) → BeginsNumber text
    → Shows view r (number_at text) → IfOk r (λ x. length (view x).1 < length text)
shorter_from view text (Ok x) begins h = after_shorter text (view x).1
    (number_takes text (Ok (view x)) (subst (λ s. IsNumber text s) h (number_sound text begins)))
shorter_from view text (Err e) begins h = tt

pub refused_from : {A : Type 0} (view : A → FourState × List ℕ) (text : List ℕ) (r : Result A NumberFault) → BeginsNumber text
    → Shows view r (number_at text) → IfErr r (λ e. IsNumber text (Err e))
refused_from view text (Ok x) begins h = tt
refused_from view text (Err e) begins h = subst (λ s. IsNumber text s) h (number_sound text begins)
