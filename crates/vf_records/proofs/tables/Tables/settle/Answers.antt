use Rattle.std.proofs.Common.{◌∙◌, sym, ap, arith}
use Rattle.vf_jobs.specs.Jobs.{node_no}
use Rattle.vf_jobs.specs.Subtree.{is_below}
use Rattle.vf_journal.specs.Records.{Records}
use Rattle.vf_journal.specs.Effects.{is_retired}
use Rattle.vf_records.specs.Account.{farm_of, solo_of}
use Rattle.vf_records.specs.Tables.{records_of}
use Rattle.vf_records.proofs.EventLemmas.{placed_job}
use Rattle.vf_records.proofs.ServeLemmas.{closed_way}
use Rattle.vf_records.proofs.tables.Tables.settle.Goals as goal

pub follow-requires-clause-node : goal.follow-requires-clause-node
follow-requires-clause-node c =
    let placed = placed_job c.args.setup.now (solo_of c.args.setup.now).counts c.args.self.now c.requires.tables c.args.job c.requires.job in
    let node = placed.node in
    let long = c.requires.tables.layout.long in
    omega (arith, node, long, c.node_of.ensures)

pub follow-requires-clause-way : goal.follow-requires-clause-way
follow-requires-clause-way c = λ n gone.
    let s = c.args.setup.now in
    ap (is_below s.plan n) c.node_of.ensures
    ∙ closed_way s (records_of c.args.self.now) c.args.job c.args.tells c.args.kind c.requires.serve n
    (ap (λ (r : Records). is_retired (farm_of s) r (node_no n)) (sym c.close.ensures.records) ∙ gone)
