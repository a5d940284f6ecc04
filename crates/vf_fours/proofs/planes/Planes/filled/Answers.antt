use Rattle.std.proofs.Common.{ap, ap₂, sym, ◌∙◌, cond, nat_lt, true}
use Rattle.vf_fours.specs.Planes.{bit_from, bit_of}
use Rattle.vf_fours.proofs.PlaneLemmas.{bit_of-cond, not_filled, one_filled, other_filled}
use Rattle.vf_fours.proofs.planes.Planes.filled.Goals as goal

pub returns-in-Zero : goal.returns-in-Zero
unfolding bit_from
returns-in-Zero c = λ i h.
    not_filled c.args.from i c.args.self.ones c.args.self.unknown c.requires.ones_fit c.requires.unknown_fit
    ∙ ap (cond (nat_lt i c.args.from) (bit_from c.args.self.ones c.args.self.unknown i)) (sym c.in-Zero.is)

pub returns-in-One : goal.returns-in-One
unfolding bit_from
returns-in-One c = λ i h.
    one_filled c.args.from i c.args.self.ones c.args.self.unknown c.set_from.result c.args.fill true c.requires.unknown_fit (c.set_from.ensures i h) (sym c.in-One.is)

pub returns-in-Z : goal.returns-in-Z
unfolding bit_from
returns-in-Z c = λ i h.
    other_filled c.args.from i c.args.self.ones c.args.self.unknown c.set_from-in-Z.result c.args.fill true c.requires.ones_fit (c.set_from-in-Z.ensures i h) (sym c.in-Z.is)

pub returns-in-X : goal.returns-in-X
unfolding bit_from
returns-in-X c = λ i h.
    ap₂ bit_of (c.set_from-in-X.ensures i h) (c.set_from-in-X-2.ensures i h)
    ∙ bit_of-cond _ _ _ _ _
    ∙ ap (cond (nat_lt i c.args.from) (bit_from c.args.self.ones c.args.self.unknown i)) (sym c.in-X.is)
