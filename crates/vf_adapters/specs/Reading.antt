-- What a reader tells of what it has left.
use Rattle.std.specs.Prelude.{ℕ, List, Option, Some, None}
use Rattle.vf_ports.specs.Shelf.{Told, untold, file}

-- the bytes that a reader has left, as a shelf tells a file
abbrev pub told_by : Option (List ℕ) → Told
told_by None = untold
told_by (Some bytes) = file bytes
