use Rattle.std.proofs.Common.{◌≡◌, ◌+◌, ◌≤◌, ◌++◌, drop, length, vec_len, vec_capacity}
use Rattle.vf_machine.specs.Writes.{AllInside}
use Rattle.vf_patch.specs.Patches.{changes}
use Rattle.vf_patch.proofs.front.tell_all.Given as goal

abbrev pub invariant-loop-write : goal.invariant-loop-write
invariant-loop-write g l = record {
  told : l.into.items ++ changes (g.W.Words.contents l.base) (drop l.write-index l.writes)
      ≡ l.fn.into.items ++ changes (g.W.Words.contents l.base) l.writes;
  inside : AllInside (length (g.W.Words.contents l.base)) (drop l.write-index l.writes);
  room : vec_len l.into + length (drop l.write-index l.writes) ≤ vec_capacity l.into;
}
