use Rattle.std.proofs.Common.{arith}
use Rattle.vf_adapters.proofs.ReadLemmas.{failed, unkept, too_long}
use Rattle.vf_adapters.proofs.read.read_within.Goals as goal

pub returns-in_default-clause-told : goal.returns-in_default-clause-told
returns-in_default-clause-told g c =
    let so_far = c.loop-count.invariant in
    failed _ _ _ _ _ _ so_far.front so_far.given

pub returns-then-count-left-clause-told : goal.returns-then-count-left-clause-told
returns-then-count-left-clause-told g c =
    let so_far = c.loop-count.invariant in
    too_long _ _ _ _ _ _ _ _ _ _ so_far.front so_far.room (omega (arith, c.in-Ok.ensures.bound.1, c.if-count-left.true)) so_far.given c.in-Ok.ensures.bytes.0

pub returns-in_default-extend_from_slice-clause-told :
    goal.returns-in_default-extend_from_slice-clause-told
returns-in_default-extend_from_slice-clause-told g c =
    let so_far = c.loop-count.invariant in
    rw c.in_default-extend_from_slice.ensures.items (unkept _ _ _ _ _ _ so_far.front so_far.given)
