-- Slices, sums of widths, and lengths.
use Rattle.std.proofs.lemmas.List.{length-replicate}
use Rattle.std.proofs.lemmas.Bool.{and_parts, leb-true}
use Rattle.std.specs.Prelude.{nat_le, ℤ, if◌then◌else◌}
use Rattle.vf_base.specs.declared.names.Place.{Place}
use Rattle.vf_fours.specs.declared.Bit.{Bit}
use Rattle.vf_fours.specs.declared.Bit.TheVariants.{X}
use Rattle.vf_fours.specs.Bits.{FourState}
use Rattle.vf_fours.specs.Operators.{select_of}
use Rattle.vf_fours.specs.Shapes.{length-tabulate}
use Rattle.vf_elaborated.specs.Shapes.{Shape, is_width}
use Rattle.vf_elaborated.specs.Values.{selected_of}
use Rattle.vf_size.specs.Faults.{Sized, fails, ◌>>=◌}
use Rattle.vf_size.specs.declared.fault.SizeKind.TheVariants.{Width}
use Rattle.vf_size.specs.Rules.{capped, joined}
use Rattle.vf_size.specs.Sizes.{Operand, width_of, total, widths}
use Rattle.vf_size.specs.Worths.{repeated_bits, bits_with}
use Rattle.std.proofs.Common.{Ok, Err, Bool, true, false, ◌++◌, take, drop, Option, Some, None, ◌≡◌, ◌≤◌, ◌<◌, ℕ, zero, suc, ◌+◌, ◌*◌, ◌-◌, List, [], ◌∷◌, length, slice_index_or, refl, sym, ap, ap₂, arith}

-- ---- the items of a slice

pub alone : {A : Type 0} (ss : List A) (s : A) → 1 ≤ length ss → length ss < 2 → s ≡ slice_index_or ss 0 s → ss ≡ s ∷ []
alone [] s least below is = absurd (omega (arith, least))
alone (x ∷ []) s least below is = ap (λ x. x ∷ []) (sym is)
alone (x ∷ y ∷ rest) s least below is = absurd (omega (arith, below))

pub pair : {A : Type 0} (ss : List A) (s t : A) → 2 ≤ length ss → length ss < 3 → s ≡ slice_index_or ss 0 s → t ≡ slice_index_or ss 1 t → ss ≡ s ∷ t ∷ []
pair [] s t least below is then_is = absurd (omega (arith, least))
pair (x ∷ []) s t least below is then_is = absurd (omega (arith, least))
pair (x ∷ y ∷ []) s t least below is then_is = ap₂ (λ x y. x ∷ y ∷ []) (sym is) (sym then_is)
pair (x ∷ y ∷ z ∷ rest) s t least below is then_is = absurd (omega (arith, below))

whole_take : {A : Type 0} (n : ℕ) (ss : List A) → n ≡ length ss → take n ss ≡ ss
whole_take zero [] h = refl
whole_take zero (x ∷ rest) h = absurd (omega (arith, h))
whole_take (suc n) [] h = refl
whole_take (suc n) (x ∷ rest) h = ap (λ ss. x ∷ ss) (whole_take n rest (omega (arith, h)))

pub first_apart : {A : Type 0} (ss : List A) (s : A) → 0 < length ss → s ≡ slice_index_or ss 0 s → ss ≡ s ∷ take (length ss - 1) (drop 1 ss)
first_apart [] s some is = absurd (omega (arith, some))
first_apart (x ∷ xs) s some is = ap₂ (λ x xs. x ∷ xs) (sym is) (sym (whole_take (length (x ∷ xs) - 1) xs (omega arith)))

-- ---- sums of widths

capped_is : (n : ℕ) → capped n ≤ 128 → capped n ≡ n
capped_is n h = omega (arith, h)

sum_above : (n : ℕ) (es : List Operand) (m : ℕ) → widths true n es ≡ Ok m → m ≤ 128 → n + total es ≡ m
sum_above n [] m is most = let same : n ≡ m = cc is in omega (arith, same)
sum_above n (e ∷ rest) m is most = by (e.told.shape true) (λ a. sum_above (capped (n + a.width)) rest m) is
  where
    by : (s : Sized Shape) → ((a : Shape) → widths true (capped (n + a.width)) rest ≡ Ok m → m ≤ 128 → capped (n + a.width) + total rest ≡ m)
        → (s >>= (λ a. widths true (capped (n + a.width)) rest)) ≡ Ok m → n + (width_of s + total rest) ≡ m
    by (Err fault) then_is is = absurd (cc is)
    by (Ok a) then_is is =
        let sum = then_is a is most in
        let small : capped (n + a.width) ≤ 128 = omega (arith, sum, most) in
        let same = capped_is (n + a.width) small in
        omega (arith, sum, same)

joined_by : (place : Place) (n : ℕ) (s : Shape) → joined place n ≡ Ok s → (1 ≤ n) × (n ≤ 128) × (s.width ≡ n)
joined_by place n s is = by (is_width n) refl is
  where
    by : (b : Bool) → is_width n ≡ b → (if b then Ok (record { width = n; signed = false }) else fails Width place) ≡ Ok s → (1 ≤ n) × (n ≤ 128) × (s.width ≡ n)
    by true h is =
        let parts = and_parts (nat_le 1 n) (nat_le n 128) h in
        (leb-true 1 n parts.0, leb-true n 128 parts.1, sym (ap width_of is))
    by false h is = absurd (cc is)

some_parts : (es : List Operand) (m : ℕ) → widths true 0 es ≡ Ok m → 1 ≤ m → 0 < length es
some_parts [] m is least = absurd (let same : 0 ≡ m = cc is in omega (arith, same, least))
some_parts (e ∷ rest) m is least = omega arith

-- the parts of a concatenation fit
pub parts_fit : (es : List Operand) (m : ℕ) (place : Place) (s : Shape) → widths true 0 es ≡ Ok m → joined place m ≡ Ok s
    → (0 < length es) × (total es ≤ 128) × (total es ≡ s.width) × (1 ≤ total es)
parts_fit es m place s is made =
    let bounds = joined_by place m s made in
    let most = bounds.1 in
    let width = bounds.2 in
    let sum = sum_above 0 es m is most in
    let least = bounds.0 in
    (some_parts es m is least, omega (arith, sum, most), omega (arith, sum, width), omega (arith, sum, least))

-- so do those of a replication
pub times_fit : (es : List Operand) (n m : ℕ) (place : Place) (s : Shape) → widths true 0 es ≡ Ok m → joined place (n * m) ≡ Ok s
    → (0 < length es) × (total es ≤ 128) × (1 ≤ n) × (n * total es ≤ 128) × (n * total es ≡ s.width) × (1 ≤ total es)
times_fit es zero m place s is made = absurd (let least = (joined_by place (0 * m) s made).0 in omega (arith, least))
times_fit es (suc n) m place s is made =
    let bounds = joined_by place (suc n * m) s made in
    let least = bounds.0 in
    let most = bounds.1 in
    let width = bounds.2 in
    let small : m ≤ 128 = omega (arith, most) in
    let above = sum_above 0 es m is small in
    let sum : total es ≡ m = omega (arith, above) in
    let all = ap (λ k. suc n * k) sum in
    let some : 1 ≤ m = at_least n m least in
    (some_parts es m is some, omega (arith, sum, small), omega arith, omega (arith, all, most), omega (arith, all, width), omega (arith, sum, some))
  where
    at_least : (n m : ℕ) → 1 ≤ suc n * m → 1 ≤ m
    at_least n zero h = absurd (omega (arith, h))
    at_least n (suc m) h = omega arith

-- ---- bits

pub repeated_more : (n : ℕ) (bits : List Bit) → 1 ≤ n → repeated_bits n bits ≡ repeated_bits (n - 1) bits ++ bits
repeated_more zero bits h = absurd (omega (arith, h))
repeated_more (suc n) bits h = ap (λ k. repeated_bits k bits ++ bits) (let same : n ≡ suc n - 1 = omega arith in same)

pub selected_long : (a : FourState) (low : Option ℤ) (width : ℕ) → length (selected_of a low width).bits ≡ width
unfolding select_of
selected_long a None width = length-replicate width X
selected_long a (Some low) width = length-tabulate _ width

-- ---- a loop over a slice

pub drop_end : {A : Type 0} (n : ℕ) (ss : List A) → length ss ≤ n → drop n ss ≡ []
drop_end zero [] h = refl
drop_end zero (x ∷ rest) h = absurd (omega (arith, h))
drop_end (suc n) [] h = refl
drop_end (suc n) (x ∷ rest) h = drop_end n rest (omega (arith, h))

pub drop_next : {A : Type 0} (n : ℕ) (ss : List A) (s : A) → n < length ss → s ≡ slice_index_or ss n s → drop n ss ≡ s ∷ drop (suc n) ss
drop_next n [] s h is = absurd (omega (arith, h))
drop_next zero (x ∷ rest) s h is = ap (λ x. x ∷ rest) (sym is)
drop_next (suc n) (x ∷ rest) s h is = drop_next n rest s (omega (arith, h)) is

pub ended : (some : Bool) (all : FourState) (m : ℕ) → bits_with some all [] ≡ m → 1 ≤ m → length all.bits ≡ m
ended true all m is least = omega (arith, is)
ended false all m is least = absurd (omega (arith, is, least))
