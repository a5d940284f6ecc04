use Rattle.std.proofs.Common.{◌+◌, ap, ◌∙◌, map, arith}
use Rattle.vf_frames.specs.Numbers.{rises}
use Rattle.vf_pages.specs.Writes.{address}
use Rattle.vf_memory_tests.proofs.WriteLemmas.{added}
use Rattle.vf_memory_tests.proofs.writes.Rising.add.Goals as goal

pub invariant_of-self-2 : goal.invariant_of-self-2
invariant_of-self-2 c =
    let r = c.self.inside in
    record {
      rising = ap (λ ws. rises 0 (c.args.at + 1) (map address ws)) c.in_ok-push.ensures.items
          ∙ added r.next c.args.at c.args.word r.writes.items c.self.invariant.rising (omega (arith, c.if-at-from.false, c.from.ensures));
      within = omega (arith, c.if-at-from-2.false, c.from-else-at-from.ensures);
    }
