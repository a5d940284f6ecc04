-- How a Shape shows itself as plain data.
use Rattle.std.specs.Prelude.{◌≡◌, ◌≤◌, refl}
use Rattle.vf_elaborated.specs.Shapes.{Shape}
use Rattle.vf_size.specs.declared.shape.Shape.TheInside.{Inside}

abbrev pub view_of : Inside → Shape
view_of s = record { width = s.width; signed = s.signed }

-- 1 to 128 bits
pub record IsShape (s : Inside) : Type 0 where
  pub some : 1 ≤ s.width
  pub most : s.width ≤ 128

abbrev pub back : Shape → Inside
back s = record { width = s.width; signed = s.signed }

pub back_view : (s : Inside) → IsShape s → back (view_of s) ≡ s
back_view s h = refl
