use Rattle.std.proofs.Common.{ap, ap₂, sym, ◌∙◌, arith, bit_or}
use Rattle.std.proofs.lemmas.Nat.{xor_lt, or_lt, pow_pos}
use Rattle.vf_fours.specs.Planes.{bit_from}
use Rattle.vf_fours.specs.Numbers.{bit_is}
use Rattle.vf_fours.proofs.PlaneLemmas.{bit_is-xor, bit_is-or, bit_is-low_ones}
use Rattle.vf_fours.proofs.Tables.{zero_table, either}
use Rattle.vf_fours.proofs.planes.Planes.zeros.Goals as goal

pub returns-clause-bits : goal.returns-clause-bits
unfolding bit_from
returns-clause-bits c = λ i h.
    let a = c.args.self in
    bit_is-xor c.low_ones.result (bit_or a.ones a.unknown) i
    ∙ ap₂ either (ap (λ m. bit_is m i) c.low_ones.ensures ∙ bit_is-low_ones c.args.width i h) (bit_is-or a.ones a.unknown i)
    ∙ sym (zero_table (bit_is a.ones i) (bit_is a.unknown i))

pub returns-clause-fits : goal.returns-clause-fits
returns-clause-fits c =
    let a = c.args.self in
    let w = c.args.width in
    xor_lt w c.low_ones.result (bit_or a.ones a.unknown) (rw c.low_ones.ensures (omega (arith, pow_pos w))) (or_lt w a.ones a.unknown c.requires.below.ones_fit c.requires.below.unknown_fit)
