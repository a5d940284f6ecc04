-- Which bits of a value a select takes (docs/LANGUAGE.md, "Sizes and signs"; IEEE Std 1364-2005, clause 5.2.1).
use Rattle.std.specs.Prelude.{ℕ, ◌+◌, ◌-◌, Bool, false, Option, Some, None, if◌then◌else◌, ℤ, pos, negsuc, ◌-ℤ◌, neg_ℤ, int_lt, int_le, unsigned_abs}
use Rattle.vf_fours.specs.Numbers.{narrower}
use Rattle.vf_elaborated.specs.Shapes.{is_width}
use Rattle.vf_size.specs.declared.part.Part.{Part}

-- a range whose left bound is the greater counts down; so does one of equal bounds
abbrev pub is_descending : ℤ → ℤ → Bool
is_descending left right = int_le right left

abbrev pub scale_of : Bool → ℤ
scale_of descending = if descending then pos 1 else negsuc 0

-- The place of the bit with index i is `scale * i + shift`, where scale is 1 in a range that counts down and -1 in any other. Where a part is named by an index that is not its least bit, the shift leads
-- on to that: `up` and `down` are the bits above and below the one that is named.
abbrev pub exact_shift : ℤ → ℤ → ℕ → ℕ → ℤ
exact_shift left right up down = if is_descending left right then neg_ℤ right -ℤ pos down else right -ℤ pos up

-- the shift, where it fits an i64
abbrev pub shift_of : ℤ → ℤ → ℕ → ℕ → Option ℤ
shift_of left right up down = narrower (exact_shift left right up down)

abbrev pub part_with : ℤ → ℤ → ℕ → Option ℤ → Option Part
part_with left right width None = None
part_with left right width (Some shift) = Some (record {
  shape = record { width = width; signed = false };
  descending = is_descending left right;
  shift = shift;
})

-- `[index]`
unfoldable pub bit_part : ℤ → ℤ → Option Part
bit_part left right = part_with left right 1 (shift_of left right 0 0)

-- a width from 1 to 128
abbrev pub width_in : ℤ → Option ℕ
width_in (pos n) = if is_width n then Some n else None
width_in (negsuc n) = None

-- `[base+:width]`
abbrev pub up_with : ℤ → ℤ → Option ℕ → Option Part
up_with left right None = None
up_with left right (Some width) = part_with left right width (shift_of left right (width - 1) 0)

unfoldable pub up_part : ℤ → ℤ → ℤ → Option Part
up_part left right width = up_with left right (width_in width)

-- `[base-:width]`
abbrev pub down_with : ℤ → ℤ → Option ℕ → Option Part
down_with left right None = None
down_with left right (Some width) = part_with left right width (shift_of left right 0 (width - 1))

unfoldable pub down_part : ℤ → ℤ → ℤ → Option Part
down_part left right width = down_with left right (width_in width)

-- a part select runs as the declaration does; one of equal bounds always does
abbrev pub is_against : ℤ → ℤ → ℤ → ℤ → Bool
is_against left right first last = if is_descending left right then int_lt first last else int_lt last first

abbrev pub range_with : ℤ → ℤ → Option ℕ → Option Part
range_with left right None = None
range_with left right (Some width) = part_with left right width (shift_of left right 0 0)

-- `[first:last]`
unfoldable pub range_part : ℤ → ℤ → ℤ → ℤ → Option Part
range_part left right first last =
    if is_against left right first last then None
    else range_with left right (width_in (pos (unsigned_abs (first -ℤ last) + 1)))
