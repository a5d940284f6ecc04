use Rattle.std.proofs.Common.{◌≡◌, ◌^◌, ◌∷◌, true, sym, ap, arith, ◌∙◌}
use Rattle.std.specs.List.{list_all}
use Rattle.std.proofs.lemmas.Bool.{and_parts}
use Rattle.std.proofs.lemmas.List.{nil_from_length}
use Rattle.vf_number.specs.Numbers.{is_decimal_byte, decimal_value}
use Rattle.vf_number.proofs.Decimals.{decimal_after, below_under, below_over, append_some, append_none}
use Rattle.vf_number.proofs.numbers.decimal.Goals as goal

pub returns-in_default-appended : goal.returns-in_default-appended
returns-in_default-appended c =
    let more = c.in-Some.more.now in
    let byte = c.in-Some.byte.now in
    let number = c.loop-byte.number in
    let whole = c.loop-byte.invariant.1 ∙ ap (decimal_after number) c.in-Some.ensures.cases.0 in
    let large = append_none number byte more (sym c.appended.ensures ∙ c.in_default-appended.is) in
    sym (below_over (2 ^ 128) (decimal_value c.args.digits.now) (omega arith))

pub loop-byte-preserved : goal.loop-byte-preserved
loop-byte-preserved c =
    let more = c.in-Some.more.now in
    let byte = c.in-Some.byte.now in
    let number = c.loop-byte.number in
    let next = c.in-Some-appended.next in
    let all : list_all is_decimal_byte (byte ∷ more) ≡ true = sym (ap (list_all is_decimal_byte) c.in-Some.ensures.cases.0)
    ∙ c.loop-byte.invariant.0 in
    let whole = c.loop-byte.invariant.1 ∙ ap (decimal_after number) c.in-Some.ensures.cases.0 in
    let p = append_some number byte next more c.loop-byte.invariant.2 (sym c.appended.ensures ∙ c.in-Some-appended.is) in
    ((and_parts (is_decimal_byte byte) (list_all is_decimal_byte more) all).1, whole ∙ p.1, p.0)

pub returns : goal.returns
returns c =
    let number = c.loop-byte.number in
    let whole : decimal_value c.args.digits.now ≡ number = c.loop-byte.invariant.1
    ∙ ap (decimal_after number) (nil_from_length _ c.in_default.ensures.cases) in
    sym (rw whole (below_under (2 ^ 128) number c.loop-byte.invariant.2))
