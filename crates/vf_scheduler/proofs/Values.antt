-- Bits are told by their words, and so are the values of signals and drivers.
use Rattle.std.proofs.Common.{◌≡◌, ℕ, ◌≤◌, Bool, true, false, List, [], ◌∷◌, ◌++◌, map, length, drop, refl, sym, ◌∙◌, ap, ap₂, arith, ◌==◌, flat_map, slice_index_or}
use Rattle.std.proofs.lemmas.List.{append_assoc}
use Rattle.std.proofs.lemmas.List.Elements.{All-head, All-tail}
use Rattle.std.specs.List.{All, AllZip}
use Rattle.vf_fours.specs.declared.Bit.{Bit}
use Rattle.vf_fours.specs.declared.Bit.TheVariants.{Zero, One, X, Z}
use Rattle.vf_fours.specs.Numbers.{weight_of}
use Rattle.vf_fours.specs.Planes.{bit_of, in_ones, in_unknown, ones_of, unknown_of}
use Rattle.vf_elaborated.specs.declared.design.Signal.{Signal}
use Rattle.vf_elaborated.specs.Values.{Elements}
use Rattle.vf_elaborated.specs.Shapes.{FitsSignal}
use Rattle.vf_elaborated.specs.Addresses.{is_wide}
use Rattle.vf_scheduler.specs.Words.{value_words, element_words}

-- ---- words

-- what stands first in two equal lists is equal, and so is the rest
pub record Told {A : Type 0} (x y : A) (more others : List ℕ) : Type 0 where
  pub same : x ≡ y
  pub rest : more ≡ others

pub first_word : (x y : ℕ) (more others : List ℕ) → x ∷ more ≡ y ∷ others → Told x y more others
first_word x y more others e = record { same = ap (λ list. slice_index_or list 0 x) e; rest = ap (drop 1) e }

-- ---- bits

bit_again : (b : Bit) → bit_of (in_ones b == 1) (in_unknown b == 1) ≡ b
bit_again Zero = refl
bit_again One = refl
bit_again X = refl
bit_again Z = refl

one_or_none : (b : Bit) → in_ones b ≤ 1
one_or_none Zero = omega arith
one_or_none One = omega arith
one_or_none X = omega arith
one_or_none Z = omega arith

unknown_or_none : (b : Bit) → in_unknown b ≤ 1
unknown_or_none Zero = omega arith
unknown_or_none One = omega arith
unknown_or_none X = omega arith
unknown_or_none Z = omega arith

bits_told : (xs ys : List Bit) → length xs ≡ length ys → ones_of xs ≡ ones_of ys → unknown_of xs ≡ unknown_of ys → xs ≡ ys
unfolding weight_of
bits_told [] [] long ones unknown = refl
bits_told [] (y ∷ ys) long ones unknown = absurd (omega (arith, long))
bits_told (x ∷ xs) [] long ones unknown = absurd (omega (arith, long))
bits_told (x ∷ xs) (y ∷ ys) long ones unknown =
    let ox = one_or_none x in
    let oy = one_or_none y in
    let ux = unknown_or_none x in
    let uy = unknown_or_none y in
    let one : in_ones x ≡ in_ones y = omega (arith, ones, ox, oy) in
    let other : in_unknown x ≡ in_unknown y = omega (arith, unknown, ux, uy) in
    ap₂ (λ b bs. b ∷ bs) (sym (bit_again x) ∙ ap₂ (λ a b. bit_of (a == 1) (b == 1)) one other ∙ bit_again y)
    (bits_told xs ys (omega (arith, long)) (omega (arith, ones, one)) (omega (arith, unknown, other)))

pub value_told : (wide : Bool) (xs ys : List Bit) (more others : List ℕ) → length xs ≡ length ys → value_words wide xs ++ more ≡ value_words wide ys ++ others
    → Told xs ys more others
value_told false xs ys more others long e =
    let ones = first_word _ _ _ _ e in
    let unknown = first_word _ _ _ _ ones.rest in
    record { same = bits_told xs ys long ones.same unknown.same; rest = unknown.rest }
value_told true xs ys more others long e =
    let ones = first_word _ _ _ _ e in
    let unknown = first_word _ _ _ _ ones.rest in
    let high_ones = first_word _ _ _ _ unknown.rest in
    let high_unknown = first_word _ _ _ _ high_ones.rest in
    record {
      same = bits_told xs ys long (omega (arith, ones.same, high_ones.same)) (omega (arith, unknown.same, high_unknown.same));
      rest = high_unknown.rest;
    }

-- ---- lists of values

abbrev pub SameLength : List Bit → List Bit → Type 0
SameLength xs ys = length xs ≡ length ys

abbrev pub own_words : List Bit → List ℕ
own_words bits = value_words (is_wide (length bits)) bits

pub elements_told : (es fs : Elements) (more others : List ℕ) → AllZip SameLength es fs → flat_map own_words es ++ more ≡ flat_map own_words fs ++ others
    → Told es fs more others
elements_told [] [] more others long e = record { same = refl; rest = e }
elements_told [] (y ∷ fs) more others long e = absurd long
elements_told (x ∷ es) [] more others long e = absurd long
elements_told (x ∷ es) (y ∷ fs) more others long e =
    let split = sym (append_assoc (own_words x) (flat_map own_words es) more) ∙ e ∙ append_assoc (own_words y) (flat_map own_words fs) others in
    let first =
    value_told (is_wide (length x)) x y (flat_map own_words es ++ more) (flat_map own_words fs ++ others) long.0
    (split ∙ ap (λ n. value_words (is_wide n) y ++ (flat_map own_words fs ++ others)) (sym long.0)) in
    let next = elements_told es fs more others long.1 first.rest in
    record { same = ap₂ (λ b bs. b ∷ bs) first.same next.same; rest = next.rest }

pub values_told : (vs ws : List Elements) (more others : List ℕ) → AllZip (AllZip SameLength) vs ws → flat_map element_words vs ++ more ≡ flat_map element_words ws ++ others
    → Told vs ws more others
values_told [] [] more others long e = record { same = refl; rest = e }
values_told [] (y ∷ ws) more others long e = absurd long
values_told (x ∷ vs) [] more others long e = absurd long
values_told (x ∷ vs) (y ∷ ws) more others long e =
    let split = sym (append_assoc (element_words x) (flat_map element_words vs) more) ∙ e ∙ append_assoc (element_words y) (flat_map element_words ws) others in
    let first = elements_told x y (flat_map element_words vs ++ more) (flat_map element_words ws ++ others) long.0 split in
    let next = values_told vs ws more others long.1 first.rest in
    record { same = ap₂ (λ b bs. b ∷ bs) first.same next.same; rest = next.rest }

-- ---- lengths that a design gives

same_lengths : (width : ℕ) (es fs : Elements) → length es ≡ length fs → All (λ bits. length bits ≡ width) es → All (λ bits. length bits ≡ width) fs
    → AllZip SameLength es fs
same_lengths width [] [] long a b = tt
same_lengths width [] (y ∷ fs) long a b = absurd (omega (arith, long))
same_lengths width (x ∷ es) [] long a b = absurd (omega (arith, long))
same_lengths width (x ∷ es) (y ∷ fs) long a b =
    let P : List Bit → Type 0 = λ bits. length bits ≡ width in
    (All-head P x es a ∙ sym (All-head P y fs b), same_lengths width es fs (omega (arith, long)) (All-tail P x es a) (All-tail P y fs b))

pub values_match : (signals : List Signal) (vs ws : List Elements) → AllZip FitsSignal signals vs → AllZip FitsSignal signals ws → AllZip (AllZip SameLength) vs ws
values_match [] [] [] a b = tt
values_match [] [] (w ∷ ws) a b = absurd b
values_match [] (v ∷ vs) ws a b = absurd a
values_match (signal ∷ signals) [] ws a b = absurd a
values_match (signal ∷ signals) (v ∷ vs) [] a b = absurd b
values_match (signal ∷ signals) (v ∷ vs) (w ∷ ws) a b =
    (same_lengths signal.width v w (a.0.count ∙ sym b.0.count) a.0.widths b.0.widths, values_match signals vs ws a.1 b.1)

pub drivers_match : (xs ys : List (List Bit)) → map length xs ≡ map length ys → AllZip SameLength xs ys
drivers_match [] [] e = tt
drivers_match [] (y ∷ ys) e = absurd (cc)
drivers_match (x ∷ xs) [] e = absurd (cc)
drivers_match (x ∷ xs) (y ∷ ys) e =
    let first = first_word (length x) (length y) (map length xs) (map length ys) e in
    (first.same, drivers_match xs ys first.rest)
