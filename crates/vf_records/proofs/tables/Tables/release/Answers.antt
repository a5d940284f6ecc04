use Rattle.std.proofs.Common.{◌==◌, not, rules, tests}
use Rattle.std.proofs.lemmas.Fn.{filter_same}
use Rattle.vf_records.specs.declared.row.HeldImage.{HeldImage}
use Rattle.vf_records.proofs.tables.Tables.release.Goals as goal

pub returns-clause-held : goal.returns-clause-held
returns-clause-held c = filter_same _ (λ (h : HeldImage). not (h.node.0 == c.args.node.0)) _ (λ x b f' k. search (rules, tests)) _ _ c.retain.ensures.filtered
