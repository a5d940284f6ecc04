-- The truth tables of the operators on planes: each row by itself.
use Rattle.std.proofs.Common.{◌≡◌, Bool, true, false, not, ◌&&◌, ◌||◌, refl}
use Rattle.vf_fours.specs.Bits.{settled_bit, not_bit, and_bit, or_bit, xor_bit, merge_bit, wire_bit, same_bit, differ, fits_z, fits_x, is_known, is_one, is_zero}
use Rattle.vf_fours.specs.Planes.{bit_of}

-- one of two, and not both
abbrev pub either : Bool → Bool → Bool
either false b = b
either true b = not b

pub settled_table : (ao au : Bool) → bit_of (ao || au) au ≡ settled_bit (bit_of ao au)
settled_table false false = refl
settled_table false true = refl
settled_table true false = refl
settled_table true true = refl

pub not_table : (ao au : Bool) → bit_of (not ao || au) au ≡ not_bit (bit_of ao au)
not_table false false = refl
not_table false true = refl
not_table true false = refl
not_table true true = refl

pub and_table : (ao au bo bu : Bool) → bit_of ((ao || au) && (bo || bu)) (((ao || au) && (bo || bu)) && (au || bu)) ≡ and_bit (bit_of ao au) (bit_of bo bu)
and_table false false false false = refl
and_table false false false true = refl
and_table false false true false = refl
and_table false false true true = refl
and_table false true false false = refl
and_table false true false true = refl
and_table false true true false = refl
and_table false true true true = refl
and_table true false false false = refl
and_table true false false true = refl
and_table true false true false = refl
and_table true false true true = refl
and_table true true false false = refl
and_table true true false true = refl
and_table true true true false = refl
and_table true true true true = refl

pub or_table : (ao au bo bu : Bool) → bit_of ((ao || bo) || (au || bu)) ((au || bu) && not ((ao && not au) || (bo && not bu))) ≡ or_bit (bit_of ao au) (bit_of bo bu)
or_table false false false false = refl
or_table false false false true = refl
or_table false false true false = refl
or_table false false true true = refl
or_table false true false false = refl
or_table false true false true = refl
or_table false true true false = refl
or_table false true true true = refl
or_table true false false false = refl
or_table true false false true = refl
or_table true false true false = refl
or_table true false true true = refl
or_table true true false false = refl
or_table true true false true = refl
or_table true true true false = refl
or_table true true true true = refl

pub xor_table : (ao au bo bu : Bool) → bit_of (either ao bo || (au || bu)) (au || bu) ≡ xor_bit (bit_of ao au) (bit_of bo bu)
xor_table false false false false = refl
xor_table false false false true = refl
xor_table false false true false = refl
xor_table false false true true = refl
xor_table false true false false = refl
xor_table false true false true = refl
xor_table false true true false = refl
xor_table false true true true = refl
xor_table true false false false = refl
xor_table true false false true = refl
xor_table true false true false = refl
xor_table true false true true = refl
xor_table true true false false = refl
xor_table true true false true = refl
xor_table true true true false = refl
xor_table true true true true = refl

pub merge_table : (ao au bo bu : Bool) → bit_of ((ao && bo) || ((au || bu) || either ao bo)) ((au || bu) || either ao bo) ≡ merge_bit (bit_of ao au) (bit_of bo bu)
merge_table false false false false = refl
merge_table false false false true = refl
merge_table false false true false = refl
merge_table false false true true = refl
merge_table false true false false = refl
merge_table false true false true = refl
merge_table false true true false = refl
merge_table false true true true = refl
merge_table true false false false = refl
merge_table true false false true = refl
merge_table true false true false = refl
merge_table true false true true = refl
merge_table true true false false = refl
merge_table true true false true = refl
merge_table true true true false = refl
merge_table true true true true = refl

pub wire_table : (ao au bo bu : Bool) → bit_of (ao || bo) (((au && bu) || ((ao && au) || (bo && bu))) || differ (bit_of ao au) (bit_of bo bu)) ≡ wire_bit (bit_of ao au) (bit_of bo bu)
wire_table false false false false = refl
wire_table false false false true = refl
wire_table false false true false = refl
wire_table false false true true = refl
wire_table false true false false = refl
wire_table false true false true = refl
wire_table false true true false = refl
wire_table false true true true = refl
wire_table true false false false = refl
wire_table true false false true = refl
wire_table true false true false = refl
wire_table true false true true = refl
wire_table true true false false = refl
wire_table true true false true = refl
wire_table true true true false = refl
wire_table true true true true = refl

pub differ_table : (ao au bo bu : Bool) → (either ao bo && not (au || bu)) ≡ differ (bit_of ao au) (bit_of bo bu)
differ_table false false false false = refl
differ_table false false false true = refl
differ_table false false true false = refl
differ_table false false true true = refl
differ_table false true false false = refl
differ_table false true false true = refl
differ_table false true true false = refl
differ_table false true true true = refl
differ_table true false false false = refl
differ_table true false false true = refl
differ_table true false true false = refl
differ_table true false true true = refl
differ_table true true false false = refl
differ_table true true false true = refl
differ_table true true true false = refl
differ_table true true true true = refl

pub unfit_x_table : (ao au bo bu : Bool) → (either ao bo && not (au || bu)) ≡ not (fits_x (bit_of ao au) (bit_of bo bu))
unfit_x_table false false false false = refl
unfit_x_table false false false true = refl
unfit_x_table false false true false = refl
unfit_x_table false false true true = refl
unfit_x_table false true false false = refl
unfit_x_table false true false true = refl
unfit_x_table false true true false = refl
unfit_x_table false true true true = refl
unfit_x_table true false false false = refl
unfit_x_table true false false true = refl
unfit_x_table true false true false = refl
unfit_x_table true false true true = refl
unfit_x_table true true false false = refl
unfit_x_table true true false true = refl
unfit_x_table true true true false = refl
unfit_x_table true true true true = refl

pub unequal_table : (ao au bo bu : Bool) → (either ao bo || either au bu) ≡ not (same_bit (bit_of ao au) (bit_of bo bu))
unequal_table false false false false = refl
unequal_table false false false true = refl
unequal_table false false true false = refl
unequal_table false false true true = refl
unequal_table false true false false = refl
unequal_table false true false true = refl
unequal_table false true true false = refl
unequal_table false true true true = refl
unequal_table true false false false = refl
unequal_table true false false true = refl
unequal_table true false true false = refl
unequal_table true false true true = refl
unequal_table true true false false = refl
unequal_table true true false true = refl
unequal_table true true true false = refl
unequal_table true true true true = refl

pub unfit_z_table : (ao au bo bu : Bool) → (not (same_bit (bit_of ao au) (bit_of bo bu)) && not ((au && not ao) || (bu && not bo))) ≡ not (fits_z (bit_of ao au) (bit_of bo bu))
unfit_z_table false false false false = refl
unfit_z_table false false false true = refl
unfit_z_table false false true false = refl
unfit_z_table false false true true = refl
unfit_z_table false true false false = refl
unfit_z_table false true false true = refl
unfit_z_table false true true false = refl
unfit_z_table false true true true = refl
unfit_z_table true false false false = refl
unfit_z_table true false false true = refl
unfit_z_table true false true false = refl
unfit_z_table true false true true = refl
unfit_z_table true true false false = refl
unfit_z_table true true false true = refl
unfit_z_table true true true false = refl
unfit_z_table true true true true = refl

pub known_table : (ao au : Bool) → is_known (bit_of ao au) ≡ not au
known_table false false = refl
known_table false true = refl
known_table true false = refl
known_table true true = refl

pub one_table : (ao au : Bool) → is_one (bit_of ao au) ≡ (ao && not au)
one_table false false = refl
one_table false true = refl
one_table true false = refl
one_table true true = refl

pub zero_table : (ao au : Bool) → is_zero (bit_of ao au) ≡ not (ao || au)
zero_table false false = refl
zero_table false true = refl
zero_table true false = refl
zero_table true true = refl
