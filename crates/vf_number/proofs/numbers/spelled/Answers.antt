use Rattle.std.proofs.Common.{◌≡◌, ◌∷◌, true, take, replicate, ap, sym, ◌∙◌, arith}
use Rattle.std.specs.List.{list_all}
use Rattle.std.proofs.lemmas.Bool.{and_parts}
use Rattle.std.proofs.lemmas.List.{nil_from_length, take_all}
use Rattle.vf_number.specs.Numbers.{is_byte_of, fill_of}
use Rattle.vf_number.specs.Reading.{with_digits}
use Rattle.vf_number.proofs.Digits.{bits_are, next_digits, no_digits}
use Rattle.vf_number.proofs.numbers.spelled.Goals as goal

pub loop-byte-preserved : goal.loop-byte-preserved
loop-byte-preserved c =
    let base = c.args.base in
    let byte = c.in-Some.byte.now in
    let more = c.in-Some.more.now in
    let all : list_all (is_byte_of base) (byte ∷ more) ≡ true = sym (ap (list_all (is_byte_of base)) c.in-Some.ensures.cases.0)
    ∙ c.loop-byte.invariant.0 in (
      (and_parts (is_byte_of base byte) (list_all (is_byte_of base) more) all).1,
      c.with_digit-value.ensures.width,
      sym (next_digits base byte more c.loop-byte.rest.now c.loop-byte.value.bits c.with_digit-value.result.bits
          c.in-Some.ensures.cases.0 c.with_digit-value.ensures.bits)
          ∙ c.loop-byte.invariant.2,
    )

pub returns-clause-bits : goal.returns-clause-bits
returns-clause-bits c =
    let base = c.args.base in
    let digits = c.args.digits.now in
    let value = c.loop-byte.value in
    let bits : value.bits ≡ with_digits base digits (replicate 128 (fill_of digits))
    = sym (no_digits base c.loop-byte.rest.now value.bits (nil_from_length _ c.in_default.ensures.cases))
    ∙ c.loop-byte.invariant.2 in
    sym (take_all 128 value.bits (omega (arith, c.loop-byte.invariant.1))) ∙ ap (take 128) bits
    ∙ bits_are base digits c.requires.base
