use Rattle.std.proofs.Common.{ap}
use Rattle.vf_lex.specs.declared.fault.LexKind.TheVariants.{BadCondition}
use Rattle.vf_lex.specs.Inner.{around}
use Rattle.vf_lex.proofs.Wholes.{outermost}
use Rattle.vf_lex.proofs.reader.Reader.finish.Goals as goal

pub returns-in-len1-up : goal.returns-in-len1-up
unfolding around
returns-in-len1-up c =
    let o = outermost c.args.self.conditions.items c.as_slice.result.now _ c.as_slice.ensures.value c.in-len1-up.len_at_least in
    (o.0, o.1, o.2, ap (λ place. record { kind = BadCondition; place = place }) (ap (λ condition. condition.place) o.3))
