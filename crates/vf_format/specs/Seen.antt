-- What the code has seen of a run of bits.
use Rattle.std.specs.Prelude.{◌≡◌, List}
use Rattle.std.specs.List.{list_any, list_all}
use Rattle.vf_fours.specs.declared.Bit.{Bit}
use Rattle.vf_fours.specs.Bits.{is_z}
use Rattle.vf_format.specs.declared.digits.Seen.{Seen}
use Rattle.vf_format.specs.Printed.{is_x}

pub record Tells (seen : Seen) (bits : List Bit) : Type 0 where
  pub some_x : seen.some_x ≡ list_any is_x bits
  pub some_z : seen.some_z ≡ list_any is_z bits
  pub all_x : seen.all_x ≡ list_all is_x bits
  pub all_z : seen.all_z ≡ list_all is_z bits
