use Rattle.std.proofs.Common.{◌≡◌, ◌+◌, ◌≤◌, ◌<◌, take, get_or, take_all, arith}
use Rattle.std.proofs.lemmas.Str.{digit_value_digit}
use Rattle.std.proofs.lemmas.Str.Parse.{digit_at, digits_value-take-le}
use Rattle.std.proofs.lemmas.Int.Digits.{digits_value_more, digits_more}
use Rattle.std.specs.Str.Parse.{digits_value}
use Rattle.std.proofs.lemmas.Bool.Decides.{nat_tests}
use Rattle.std.specs.Char.{digit_value}
use Rattle.vf_base.proofs.decimal.read_decimal.Goals as goal

pub returns-then-not-is_ascii_digit : goal.returns-then-not-is_ascii_digit
returns-then-not-is_ascii_digit c = λ h.
    let digit = digit_at c.args.text.now c.loop-byte.byte-index h.digits c.loop-byte-test.true in
    grind (arith, digit, c.is_ascii_digit.ensures.cases, c.if-not-is_ascii_digit.ensures.cases)

pub returns-in_default : goal.returns-in_default
returns-in_default c = λ h.
    let text = c.args.text.now in
    let more = digits_value_more 10 text c.loop-byte.byte-index c.loop-byte-test.true in
    let below = digits_value-take-le 10 text (c.loop-byte.byte-index + 1) (omega arith) in
    c.in_default.ensures (omega (arith, more, below, h.fits, c.loop-byte.invariant.1))

pub returns-in_default-checked_add : goal.returns-in_default-checked_add
returns-in_default-checked_add c = λ h.
    let text = c.args.text.now in
    let i = c.loop-byte.byte-index in
    let more = digits_value_more 10 text i c.loop-byte-test.true in
    let below = digits_value-take-le 10 text (i + 1) (omega arith) in
    let value = digit_value_digit (get_or text i 0) (digit_at text i h.digits c.loop-byte-test.true) in
    c.in_default-checked_add.ensures
    (omega (arith, more, below, value, h.fits, c.loop-byte.invariant.1, c.in-Some.ensures, c.from-digit.ensures))

pub loop-byte-preserved : goal.loop-byte-preserved
loop-byte-preserved c =
    let text = c.args.text.now in
    let i = c.loop-byte.byte-index in
    let digit : (48 ≤ get_or text i 0) × (get_or text i 0 ≤ 57) = c.if-not-is_ascii_digit.ensures.cases in
    let value = digit_value_digit (get_or text i 0) digit in
    let more = digits_value_more 10 text i c.loop-byte-test.true in
    let below : digit_value (get_or text i 0) < 10 = omega arith in (
      digits_more 10 text i c.loop-byte-test.true c.loop-byte.invariant.0 below,
      omega (arith, more, value, c.loop-byte.invariant.1, c.in-Some.ensures, c.in-Some-checked_add.ensures, c.from-digit.ensures),
      omega (arith, c.in-Some-checked_add.ensures),
    )

pub returns : goal.returns
returns c =
    let text = c.args.text.now in
    let whole : take c.loop-byte.byte-index text ≡ text = take_all c.loop-byte.byte-index text c.loop-byte-test.false in
    let value : c.loop-byte.number ≡ digits_value 10 text = rw whole at c.loop-byte.invariant.1 in
    (record { some = grind (arith, nat_tests, c.if-is_empty.ensures); digits = rw whole at c.loop-byte.invariant.0; fits = omega (arith, value, c.loop-byte.invariant.2) }, value)
