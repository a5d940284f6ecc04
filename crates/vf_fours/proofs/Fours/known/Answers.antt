use Rattle.std.proofs.Common.{ap₂, refl, ◌∙◌}
use Rattle.vf_fours.specs.Planes.{bits_of}
use Rattle.vf_fours.proofs.ListLemmas.{same_state, bits_of-known}
use Rattle.vf_fours.proofs.Fours.known.Goals as goal

pub returns-clause-value : goal.returns-clause-value
returns-clause-value c =
    let w = c.args.width in
    c.low_bits.ensures.value ∙ same_state (ap₂ (bits_of w) c.known.ensures.ones c.known.ensures.unknown ∙ bits_of-known w c.args.number) refl
