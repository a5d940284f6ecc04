use Rattle.std.proofs.Common.{◌≡◌, ◌+◌, ◌≤◌, ◌++◌, length, vec_len, vec_capacity}
use Rattle.vf_machine.specs.Writes.{AllInside}
use Rattle.vf_patch.specs.Patches.{changes, front_writes}
use Rattle.vf_patch.proofs.front.tell_marked.Given as goal

abbrev pub invariant-loop-left : goal.invariant-loop-left
invariant-loop-left g l = record {
  told : l.into.items ++ changes (g.W.Words.contents l.base) (front_writes l.left l.words)
      ≡ l.fn.into.items ++ changes (g.W.Words.contents l.base) (front_writes l.mask l.words);
  inside : AllInside (length (g.W.Words.contents l.base)) (front_writes l.left l.words);
  most : vec_len l.into + length (front_writes l.left l.words) ≤ vec_len l.fn.into + 16;
  capacity : vec_capacity l.into ≡ vec_capacity l.fn.into;
}

abbrev pub decreases-loop-left : goal.decreases-loop-left
decreases-loop-left g l = length (front_writes l.left l.words)
