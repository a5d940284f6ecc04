use Rattle.std.proofs.Common.{refl, ap, sym, ◌∙◌, length, slice_index, arith}
use Rattle.vf_frames.proofs.StackLemmas.{stack-top, stack-pop}
use Rattle.vf_frames.proofs.tally.Tally.take.Goals as goal

pub contains-requires : goal.contains-requires
contains-requires c =
    omega (arith, (stack-top _ _ _ _ c.self.invariant.0 c.in_ok-frame.ensures).0, ap length c.self.view_is)

pub returns-then-contains-clause-full : goal.returns-then-contains-clause-full
returns-then-contains-clause-full c = λ honest f below.
    let frame = c.in_ok-frame.frame in
    let top = stack-top _ _ _ _ c.self.invariant.0 c.in_ok-frame.ensures in
    let number = ap (λ ns. slice_index ns frame) c.self.view_is in
    let above = honest frame (sym c.contains.ensures ∙ c.if-contains.true) in
    absurd (omega (arith, top.1, number, above))

pub index_mut-requires : goal.index_mut-requires
index_mut-requires c = omega (arith, (stack-top _ _ _ _ c.self.invariant.0 c.in_ok-frame.ensures).0)

pub invariant_of-self : goal.invariant_of-self
invariant_of-self c =
    (rw c.pop.ensures.rest (stack-pop _ _ _ _ c.self.invariant.0 c.in_ok-frame.ensures), omega (arith, c.self.invariant.1, c.pop.ensures.capacity))

pub returns-clause-some : goal.returns-clause-some
returns-clause-some c =
    let top = stack-top _ _ _ _ c.self.invariant.0 c.in_ok-frame.ensures in
    rw (← c.self.view_is) (record { within = top.0; absent = sym c.contains.ensures ∙ c.if-contains.false; free = top.1; after = refl })
