-- Indices that may mean a place that fits an i64.
use Rattle.std.specs.Prelude.{ℕ, ◌-◌, ◌^◌, Bool, Option, None, if◌then◌else◌, nat_lt, ℤ, pos, negsuc, ◌+ℤ◌, ◌*ℤ◌}
use Rattle.vf_fours.specs.Numbers.{narrower}

-- the integer lies between -2^65 and 2^65
abbrev pub is_near : ℤ → Bool
is_near (pos n) = nat_lt n (2 ^ 65)
is_near (negsuc n) = nat_lt n (2 ^ 65 - 1)

-- the place of an index, where it fits
abbrev pub placed_at : ℤ → ℤ → ℤ → Option ℤ
placed_at scale shift z = narrower (scale *ℤ z +ℤ shift)

abbrev pub near_place : ℤ → ℤ → ℤ → Option ℤ
near_place scale shift z = if is_near z then placed_at scale shift z else None
