use Rattle.std.proofs.Common.{◌≡◌, ◌*◌, drop, length, vec_len}
use Rattle.vf_base.specs.declared.write.TheConstants.{PAGE_WORDS}
use Rattle.vf_machine.specs.Writes.{AllInside, written}
use Rattle.vf_solo.specs.Flags.{marked}
use Rattle.vf_solo.proofs.flat.write_all.Given as goal

-- what is left of the writes leads to the same words and flags as all of them
abbrev pub invariant-loop-write : goal.invariant-loop-write
invariant-loop-write l = record {
  words : written l.words.items (drop l.write-index l.writes) ≡ written l.initial.words.items l.writes;
  pages : marked l.touched (drop l.write-index l.writes) ≡ marked l.initial.touched l.writes;
  inside : AllInside (vec_len l.words) (drop l.write-index l.writes);
  on_pages : AllInside (PAGE_WORDS * length l.touched) (drop l.write-index l.writes);
}
