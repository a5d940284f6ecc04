use Rattle.std.proofs.Common.{◌≡◌, ◌-◌, ◌+◌, ◌++◌, length, ◌∙◌, ap, arith}
use Rattle.vf_format.proofs.NumberLemmas.{filled}
use Rattle.vf_format.proofs.format.put.Goals as goal

pub returns : goal.returns
returns c =
    let spaces : c.loop.counter ≡ c.args.field - (length c.args.sign.now + length c.args.digits.now) = let sum = c.saturating_sub-spaces.ensures in omega arith in
    c.in_ok-push_all-3.ensures.ok
    ∙ ap (λ t. t ++ c.args.digits.now) (c.in_ok-push_all-2.ensures.ok ∙ ap (λ t. t ++ c.args.sign.now) c.loop.invariant)
    ∙ filled c.args.into.now c.args.sign.now c.args.digits.now c.args.field c.loop.counter spaces
