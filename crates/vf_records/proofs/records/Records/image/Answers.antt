use Rattle.std.proofs.Common.{◌≡◌, ◌∙◌, ap, subst, IfSome}
use Rattle.std.specs.Arc.{arc_value}
use Rattle.vf_journal.specs.Records.{Records, image_of}
use Rattle.vf_records.specs.Account.{Account, solo_of}
use Rattle.vf_records.specs.declared.row.HeldImage.{HeldImage}
use Rattle.vf_records.specs.Tables.{held_of}
use Rattle.vf_records.proofs.RecordLemmas.{records_is}
use Rattle.vf_records.proofs.records.Records.image.Goals as goal

pub image-requires : goal.image-requires
image-requires c = c.self.invariant.tables.imaged

pub returns-clause-image : goal.returns-clause-image
returns-clause-image c =
    c.image.ensures.is ∙ ap (λ (r : Records). image_of r c.args.node) (records_is c.self.inside c.args.self.now c.self.view_is c.self.invariant)

pub returns-clause-counts : goal.returns-clause-counts
returns-clause-counts c =
    subst (λ (a : Account). IfSome c.image.result (λ (h : HeldImage). h.counts ≡ (solo_of a.setup).counts (held_of h))) c.self.view_is
    (c.image.ensures.counted ((solo_of (arc_value c.self.inside.setup)).counts) c.self.invariant.tables.counted)
