use Rattle.std.proofs.Common.{subst}
use Rattle.vf_pages.specs.Writes.{AreWrites}
use Rattle.vf_memory_tests.specs.Benches.{Counted}
use Rattle.vf_memory_tests.proofs.WriteLemmas.{within}
use Rattle.vf_memory_tests.proofs.writes.Rising.as_slice.Goals as goal

pub returns : goal.returns
returns c =
    let r = c.self.inside in
    rw c.as_slice.ensures.value
    (subst (λ (v : Counted). AreWrites v.words r.writes.items) c.self.view_is (within r.next r.words r.writes.items c.self.invariant.rising c.self.invariant.within))
