use Rattle.std.proofs.Common.{◌≡◌, ◌+◌, length}
use Rattle.std.specs.Io.{StartsWith, appended_bytes}
use Rattle.std.specs.Io.KnownBytes.{Consumes}
use Rattle.vf_adapters.proofs.read.read_within.Given as goal

-- the old bytes are in front, what came and what may come are the limit, and what came is what the reader has given
abbrev pub invariant-loop-count : goal.invariant-loop-count
invariant-loop-count g l = record {
  front : StartsWith l.into.items l.initial.into.items;
  room : length l.into.items + l.left ≡ length l.initial.into.items + l.max;
  given : Consumes (g.R.Read.remaining l.initial.reader) (g.R.Read.remaining l.reader) (appended_bytes l.initial.into.items l.into.items);
}

abbrev pub decreases-loop-count : goal.decreases-loop-count
decreases-loop-count g l = l.left
