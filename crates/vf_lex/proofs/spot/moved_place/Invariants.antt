use Rattle.std.proofs.Common.{◌≡◌, ◌+◌, ◌-◌, ◌^◌, ◌<◌, length, drop}
use Rattle.vf_lex.specs.Places.{moved_place}
use Rattle.vf_lex.proofs.spot.moved_place.Given as goal

-- the place after the rest is the place after all, and there is room to count over the rest
abbrev pub invariant-loop-byte : goal.invariant-loop-byte
invariant-loop-byte l = record {
  moved : moved_place l.place (drop l.byte-index l.bytes) ≡ moved_place l.fn.place l.bytes;
  line_fits : l.place.line + (length l.bytes - l.byte-index) < 2 ^ 32;
  column_fits : l.place.column + (length l.bytes - l.byte-index) < 2 ^ 32;
  whole_fits : l.fn.place.line + length l.bytes < 2 ^ 32;
}
