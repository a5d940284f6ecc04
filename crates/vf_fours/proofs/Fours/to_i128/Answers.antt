use Rattle.std.proofs.Common.{◌≡◌, ap, sym, ◌∙◌, ◌-◌, ◌<◌, ◌^◌, Bool, true, false, Some, arith, lt-ltb, le-ltb}
use Rattle.std.specs.Prelude.{pos, negsuc, unsigned_abs}
use Rattle.std.proofs.lemmas.Int.{ints}
use Rattle.vf_fours.specs.Numbers.{integer, is_below_zero}
use Rattle.vf_fours.proofs.NumberLemmas.{negative_is, positive_is, unknown_fits_not, known_fits, large_fits_not}
use Rattle.vf_fours.proofs.Fours.to_i128.Goals as goal

pub returns-then-not-is_known : goal.returns-then-not-is_known
returns-then-not-is_known c = unknown_fits_not 127 c.args.self (sym c.is_known.ensures ∙ c.if-not-is_known.true)

pub returns-then-below-lt-I128_HALF : goal.returns-then-below-lt-I128_HALF
returns-then-below-lt-I128_HALF c =
    let a = c.args.self in
    let z = integer a.signed a.bits in
    let m = c.magnitude-magnitude.result in
    let size : m ≡ unsigned_abs z = c.magnitude-magnitude.ensures.value ∙ ap (λ s. unsigned_abs (integer s a.bits)) c.is_signed-signed.ensures in
    let side = λ (t : Bool) (e : c.is_negative.result ≡ t). ap (λ s. is_below_zero (integer s a.bits)) (sym c.is_signed-signed.ensures) ∙ sym c.is_negative.ensures ∙ e in
    let is = negative_is z m size (side true c.if-is_negative.true) in
    let small : m - 1 < 2 ^ 127 = c.if-below-lt-I128_HALF.true in
    ap Some (omega (arith, ints)) ∙ known_fits 127 a (negsuc (m - 1)) (sym c.is_known.ensures ∙ c.if-not-is_known.false) is (lt-ltb (m - 1) (2 ^ 127) small)

pub returns-else-below-lt-I128_HALF : goal.returns-else-below-lt-I128_HALF
returns-else-below-lt-I128_HALF c =
    let a = c.args.self in
    let z = integer a.signed a.bits in
    let m = c.magnitude-magnitude.result in
    let size : m ≡ unsigned_abs z = c.magnitude-magnitude.ensures.value ∙ ap (λ s. unsigned_abs (integer s a.bits)) c.is_signed-signed.ensures in
    let side = λ (t : Bool) (e : c.is_negative.result ≡ t). ap (λ s. is_below_zero (integer s a.bits)) (sym c.is_signed-signed.ensures) ∙ sym c.is_negative.ensures ∙ e in
    let is = negative_is z m size (side true c.if-is_negative.true) in
    large_fits_not 127 a (negsuc (m - 1)) is (le-ltb (m - 1) (2 ^ 127) c.if-below-lt-I128_HALF.false)

pub returns-then-magnitude-lt-I128_HALF : goal.returns-then-magnitude-lt-I128_HALF
returns-then-magnitude-lt-I128_HALF c =
    let a = c.args.self in
    let z = integer a.signed a.bits in
    let m = c.magnitude-magnitude.result in
    let size : m ≡ unsigned_abs z = c.magnitude-magnitude.ensures.value ∙ ap (λ s. unsigned_abs (integer s a.bits)) c.is_signed-signed.ensures in
    let side = λ (t : Bool) (e : c.is_negative.result ≡ t). ap (λ s. is_below_zero (integer s a.bits)) (sym c.is_signed-signed.ensures) ∙ sym c.is_negative.ensures ∙ e in
    let is = positive_is z m size (side false c.if-is_negative.false) in
    let small : m < 2 ^ 127 = c.if-magnitude-lt-I128_HALF.true in
    ap Some (omega (arith, ints)) ∙ known_fits 127 a (pos m) (sym c.is_known.ensures ∙ c.if-not-is_known.false) is (lt-ltb m (2 ^ 127) small)

pub returns-else-magnitude-lt-I128_HALF : goal.returns-else-magnitude-lt-I128_HALF
returns-else-magnitude-lt-I128_HALF c =
    let a = c.args.self in
    let z = integer a.signed a.bits in
    let m = c.magnitude-magnitude.result in
    let size : m ≡ unsigned_abs z = c.magnitude-magnitude.ensures.value ∙ ap (λ s. unsigned_abs (integer s a.bits)) c.is_signed-signed.ensures in
    let side = λ (t : Bool) (e : c.is_negative.result ≡ t). ap (λ s. is_below_zero (integer s a.bits)) (sym c.is_signed-signed.ensures) ∙ sym c.is_negative.ensures ∙ e in
    let is = positive_is z m size (side false c.if-is_negative.false) in
    large_fits_not 127 a (pos m) is (le-ltb m (2 ^ 127) c.if-magnitude-lt-I128_HALF.false)
