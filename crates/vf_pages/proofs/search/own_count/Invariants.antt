use Rattle.std.proofs.Common.{◌≡◌, ◌++◌, take, drop}
use Rattle.vf_pages.specs.Writes.{own, beyond}
use Rattle.vf_pages.proofs.search.own_count.Given as goal

abbrev pub invariant-loop-i : goal.invariant-loop-i
invariant-loop-i l = record {
  own : own l.page l.writes ≡ take l.i l.writes ++ own l.page (drop l.i l.writes);
  beyond : beyond l.page l.writes ≡ beyond l.page (drop l.i l.writes);
}
