-- What the parts of a constant expression are worth: `Sizes` read at the values, for the code that keeps no expression.
use Rattle.std.specs.Prelude.{ℕ, ◌+◌, length, if◌then◌else◌, zero, suc, Bool, true, false, List, [], ◌∷◌, ◌++◌, Option, Some, None, Ok}
use Rattle.vf_fours.specs.declared.Bit.{Bit}
use Rattle.vf_base.specs.declared.names.Place.{Place}
use Rattle.vf_fours.specs.Bits.{FourState}
use Rattle.vf_fours.specs.Operators.{concat_of}
use Rattle.vf_tree.specs.declared.words.Name.{Name}
use Rattle.vf_elaborated.specs.Shapes.{Shape}
use Rattle.vf_elaborated.specs.Values.{selected_of, low_of as place_of}
use Rattle.vf_scope.specs.declared.scope.Entry.{Entry}
use Rattle.vf_scope.specs.declared.scope.Entry.TheVariants as entry
use Rattle.vf_scope.specs.Names.{Names, find}
use Rattle.vf_size.specs.declared.fault.SizeKind.TheVariants.{NotConstant, Width, UnknownName}
use Rattle.vf_size.specs.declared.base.Base.{Base}
use Rattle.vf_size.specs.declared.part.Part.{Part}
use Rattle.vf_size.specs.Faults.{Sized, fails, ◌>>=◌}
use Rattle.vf_size.specs.Rules.{shape_of_value, fitted}
use Rattle.vf_elaborated.specs.declared.design.Signal.{Signal}
use Rattle.vf_size.specs.Names.{base_of}
use Rattle.vf_size.specs.Selects.{scale_of}
use Rattle.vf_size.specs.Sizes.{Operand, Choice, worth, value_of, total, bits_of, low_of}

abbrev pub constant_as : Name → Option Entry → Sized FourState
constant_as name None = fails UnknownName name.place
constant_as name (Some (entry.Signal sig)) = fails NotConstant name.place
constant_as name (Some (entry.Constant value left right)) = Ok value

abbrev pub part_worth : FourState → Part → FourState → FourState
part_worth v part index = selected_of v (place_of (scale_of part.descending) part.shift index) part.shape.width

-- the value of a parameter, or bits of it, as its context wants it
abbrev pub plain_worth : Place → Base → FourState → List Choice → Shape → Sized FourState
plain_worth place base v [] to = Ok (fitted (shape_of_value v) to v)
plain_worth place base v (bits ∷ []) to = do
  part ← bits_of place base true bits
  index ← worth (low_of true bits)
  Ok (fitted part.shape to (part_worth v part index))
plain_worth place base v (bits ∷ more ∷ rest) to = fails Width place

abbrev pub name_worth : Names → List Signal → Name → List Choice → Shape → Sized FourState
name_worth names signals name selects to = do
  base ← base_of names signals true name
  v ← constant_as name (find names name.text)
  plain_worth name.place base v selects to

abbrev pub repeated_bits : ℕ → List Bit → List Bit
repeated_bits zero bits = []
repeated_bits (suc n) bits = repeated_bits n bits ++ bits

-- a value below the others, which are there or are not
abbrev pub below : Bool → FourState → FourState → FourState
below false a v = record { bits = v.bits; signed = false }
below true a v = concat_of a v

-- the values of further parts below a value
abbrev pub onto : Bool → FourState → List Operand → Sized FourState
onto some a [] = Ok a
onto some a (e ∷ rest) = do
  v ← value_of e.told
  onto true (below some a v) rest

-- the bits so far, and those of further parts
abbrev pub bits_with : Bool → FourState → List Operand → ℕ
bits_with some a rest = (if some then length a.bits else 0) + total rest
