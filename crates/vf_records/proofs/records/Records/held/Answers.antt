use Rattle.std.proofs.Common.{◌∙◌, map, ap}
use Rattle.vf_journal.specs.Records.{Records}
use Rattle.vf_records.specs.Tables.{held_of}
use Rattle.vf_records.proofs.RecordLemmas.{records_is}
use Rattle.vf_records.proofs.records.Records.held.Goals as goal

pub returns : goal.returns
returns c = ap (map held_of) c.deref.ensures.value ∙ ap (λ (r : Records). r.held) (records_is c.self.inside c.args.self.now c.self.view_is c.self.invariant)
