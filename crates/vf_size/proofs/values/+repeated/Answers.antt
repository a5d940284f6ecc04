use Rattle.std.proofs.Common.{◌∙◌, sym, ap, false}
use Rattle.vf_fours.specs.Bits.{FourState}
use Rattle.vf_fours.specs.Operators.{concat_of}
use Rattle.vf_size.proofs.Times.{repeated_more}
use Rattle.vf_size.proofs.values.+repeated.Goals as goal

pub returns-clause-value : goal.returns-clause-value
unfolding concat_of
returns-clause-value t c =
    c.concat.ensures.value ∙ ap (λ (v : FourState). concat_of c.args.value v) c.repeated.ensures.value
    ∙ ap (λ bits. record { bits = bits; signed = false }) (sym (repeated_more c.args.n c.args.value.bits c.requires.some))
