use Rattle.std.proofs.Common.{◌∙◌, ap₂}
use Rattle.vf_fours.specs.Planes.{bits_of}
use Rattle.vf_elaborated.specs.Layout.{value_at}
use Rattle.vf_expr.proofs.read.value_from.Goals as goal

pub returns : goal.returns
unfolding value_at
returns g c =
    c.new.ensures
    ∙ ap₂ (λ ones unknown. record { bits = bits_of c.args.signal.now.width ones unknown; signed = c.args.signal.now.signed }) c.plane-ones.ensures c.plane-unknown.ensures
