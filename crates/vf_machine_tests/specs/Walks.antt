-- What a walk keeps: its words are those of a sound state, and the header is theirs.
use Rattle.std.specs.Prelude.{◌≡◌, ℕ, List, length, nat_lt}
use Rattle.vf_design.specs.Turn.{HoldsState}
use Rattle.vf_machine_tests.specs.declared.walk.Walk.TheInside.{Inside}

-- nothing is told of a walk
pub record Seen : Type 0 where
  pub words : List ℕ

abbrev pub seen_of : Inside → Seen
seen_of w = record { words = w.flat.words.items }

pub record IsWalk (w : Inside) : Type 0 where
  pub holds : HoldsState w.design w.flat.words.items
  pub past : w.flat.past_end ≡ nat_lt (length w.stim.items) w.header.reads
