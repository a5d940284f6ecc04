use Rattle.std.proofs.Common.{ap, ◌∙◌}
use Rattle.std.specs.Option.{option_and_then}
use Rattle.vf_fours.specs.Numbers.{narrower}
use Rattle.vf_fours.proofs.NumberLemmas.{narrower_fits}
use Rattle.vf_fours.proofs.Fours.to_i64.Goals as goal

pub returns : goal.returns
returns c = c.narrowed.ensures ∙ ap (option_and_then narrower) c.to_i128.ensures ∙ narrower_fits c.args.self
