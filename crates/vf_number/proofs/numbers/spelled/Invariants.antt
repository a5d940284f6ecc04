use Rattle.std.proofs.Common.{◌≡◌, true, length, replicate}
use Rattle.std.specs.List.{list_all}
use Rattle.vf_number.specs.Numbers.{is_byte_of, fill_of}
use Rattle.vf_number.specs.Reading.{with_digits}
use Rattle.vf_number.proofs.numbers.spelled.Given as goal

-- the bits so far, with the digits of the rest after them
abbrev pub invariant-loop-byte : goal.invariant-loop-byte
invariant-loop-byte l =
    (list_all (is_byte_of l.base) l.rest ≡ true)
    × (length l.value.bits ≡ 128)
    × (with_digits l.base l.rest l.value.bits ≡ with_digits l.base l.digits (replicate 128 (fill_of l.digits)))

abbrev pub decreases-loop-byte : goal.decreases-loop-byte
decreases-loop-byte l = length l.rest
