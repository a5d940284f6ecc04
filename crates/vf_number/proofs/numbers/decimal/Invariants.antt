use Rattle.std.proofs.Common.{◌≡◌, ◌<◌, ◌^◌, true, length}
use Rattle.std.specs.List.{list_all}
use Rattle.vf_number.specs.Numbers.{is_decimal_byte, decimal_value}
use Rattle.vf_number.proofs.Decimals.{decimal_after}
use Rattle.vf_number.proofs.numbers.decimal.Given as goal

-- the number so far, with the digits of the rest after it
abbrev pub invariant-loop-byte : goal.invariant-loop-byte
invariant-loop-byte l = (list_all is_decimal_byte l.rest ≡ true) × (decimal_value l.digits ≡ decimal_after l.number l.rest)
    × (l.number < 2 ^ 128)

abbrev pub decreases-loop-byte : goal.decreases-loop-byte
decreases-loop-byte l = length l.rest
