-- What the fields of a `Fours` stand for, and that the value gives the fields back.
use Rattle.std.specs.Prelude.{ℕ, zero, suc, ◌≡◌, ◌+◌, ◌*◌, ◌/◌, ◌^◌, ◌≤◌, ◌<◌, Bool, true, false, length, refl, nat_eq}
use Rattle.std.specs.Int.{bit_at}
use Rattle.std.proofs.Common.{ap, ap₂, ◌∙◌, arith}
use Rattle.std.proofs.Math.Nat.{pow-suc}
use Rattle.std.proofs.lemmas.Nat.Bits.{bit_at-suc, bit_at_lowest, bit_at-lt}
use Rattle.vf_fours.specs.declared.Bit.{Bit}
use Rattle.vf_fours.specs.declared.Fours.TheInside.{Inside}
use Rattle.vf_fours.specs.Bits.{FourState, tabulate}
use Rattle.vf_fours.specs.Numbers.{weight_of, bit_is}
use Rattle.vf_fours.specs.Planes.{bit_of, bit_from, bits_of, in_ones, in_unknown, ones_of, unknown_of}

abbrev pub view_of : Inside → FourState
view_of a = record { bits = bits_of a.width a.ones a.unknown; signed = a.signed }

-- 1 to 128 bits, and no plane has a bit above the width
pub record IsShape (a : Inside) : Type 0 where
  pub some : 1 ≤ a.width
  pub most : a.width ≤ 128
  pub ones_fit : a.ones < 2 ^ a.width
  pub unknown_fit : a.unknown < 2 ^ a.width

abbrev pub back : FourState → Inside
back v = record { width = length v.bits; signed = v.signed; ones = ones_of v.bits; unknown = unknown_of v.bits }

-- ---- why `back` undoes `view_of`

pub length-tabulate : {A : Type 0} (f : ℕ → A) (n : ℕ) → length (tabulate f n) ≡ n
unfolding tabulate
length-tabulate f zero = refl
length-tabulate f (suc n) = ap suc (length-tabulate (λ i. f (suc i)) n)

pub length-bits_of : (w ones unknown : ℕ) → length (bits_of w ones unknown) ≡ w
unfolding bits_of
length-bits_of w ones unknown = length-tabulate (λ i. bit_from ones unknown i) w

-- a list whose weights are the bits of a number below 2^w weighs that number
pub weight_of-tabulate : (weight : Bit → ℕ) (w n : ℕ) (f : ℕ → Bit) → n < 2 ^ w → ((i : ℕ) → weight (f i) ≡ bit_at n i) → weight_of weight (tabulate f w) ≡ n
unfolding tabulate weight_of
weight_of-tabulate weight zero n f h e = omega arith
weight_of-tabulate weight (suc w) n f h e =
    let double = pow-suc 2 w in
    let rest = weight_of-tabulate weight w (n / 2) (λ i. f (suc i)) (omega arith) (λ i. e (suc i) ∙ bit_at-suc n i) in
    let first = e 0 ∙ bit_at_lowest n in
    ap₂ (λ x y. x + 2 * y) first rest ∙ omega arith

in_ones-bit_of : (a b : Bool) → in_ones (bit_of a b) ≡ in_ones (bit_of a false)
in_ones-bit_of false false = refl
in_ones-bit_of true false = refl
in_ones-bit_of false true = refl
in_ones-bit_of true true = refl

in_unknown-bit_of : (a b : Bool) → in_unknown (bit_of a b) ≡ in_ones (bit_of b false)
in_unknown-bit_of false false = refl
in_unknown-bit_of true false = refl
in_unknown-bit_of false true = refl
in_unknown-bit_of true true = refl

one_weight : (n : ℕ) → n < 2 → in_ones (bit_of (nat_eq n 1) false) ≡ n
one_weight zero h = refl
one_weight (suc zero) h = refl
one_weight (suc (suc n)) h = absurd (omega arith)

pub ones_of-bits_of : (w ones unknown : ℕ) → ones < 2 ^ w → ones_of (bits_of w ones unknown) ≡ ones
unfolding bits_of bit_from
ones_of-bits_of w ones unknown h =
    weight_of-tabulate in_ones w ones (λ i. bit_from ones unknown i) h (λ i. in_ones-bit_of (bit_is ones i) (bit_is unknown i) ∙ one_weight (bit_at ones i) (bit_at-lt ones i))

pub unknown_of-bits_of : (w ones unknown : ℕ) → unknown < 2 ^ w → unknown_of (bits_of w ones unknown) ≡ unknown
unfolding bits_of bit_from
unknown_of-bits_of w ones unknown h =
    weight_of-tabulate in_unknown w unknown (λ i. bit_from ones unknown i) h (λ i. in_unknown-bit_of (bit_is ones i) (bit_is unknown i) ∙ one_weight (bit_at unknown i) (bit_at-lt unknown i))

pub back_view : (a : Inside) → IsShape a → back (view_of a) ≡ a
back_view a h = λ j. record {
  width = length-bits_of a.width a.ones a.unknown j;
  signed = a.signed;
  ones = ones_of-bits_of a.width a.ones a.unknown h.ones_fit j;
  unknown = unknown_of-bits_of a.width a.ones a.unknown h.unknown_fit j;
}
