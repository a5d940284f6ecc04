use Rattle.std.proofs.Common.{sym, ap, ◌∙◌, length, arith}
use Rattle.std.proofs.lemmas.Grind.{get_or_default_zero}
use Rattle.vf_frames.proofs.StackLemmas.{stack-room, stack-push}
use Rattle.vf_frames.proofs.tally.Tally.lower.Goals as goal

pub push_reserved-requires : goal.push_reserved-requires
push_reserved-requires c =
    let numbers = c.self.inside.numbers.items in
    let inside = ap length c.self.view_is in
    let number = c.index-number.ensures ∙ get_or_default_zero numbers c.args.frame _ (omega arith) in
    omega (arith, stack-room numbers _ c.args.frame c.self.invariant.0 (omega arith) (omega arith), c.self.invariant.1)

pub invariant_of-self : goal.invariant_of-self
invariant_of-self c =
    let numbers = c.self.inside.numbers.items in
    let inside = ap length c.self.view_is in
    let number = c.index-number.ensures ∙ get_or_default_zero numbers c.args.frame _ (omega arith) in (
      rw c.push_reserved.ensures.items (stack-push numbers _ c.args.frame c.self.invariant.0 (omega arith) (sym number ∙ c.if-number-eq1.true)),
      omega (arith, c.self.invariant.1, c.push_reserved.ensures.capacity),
    )
