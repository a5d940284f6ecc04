use Rattle.std.proofs.Common.{◌≡◌}
use Rattle.vf_records.specs.declared.row.HeldImage.{HeldImage}
use Rattle.vf_records.specs.Tables.{held_of}
use Rattle.vf_records.proofs.ImageTable.{shown_image, shown_all}
use Rattle.vf_records.proofs.tables.Tables.image.Goals as goal

pub returns : goal.returns
returns c =
    let t = c.args.self.now in
    record {
      is = shown_image t.held.items t.images.items c.args.node c.image_at.result c.requires c.image_at.ensures;
      counted = λ counts all. shown_all (λ (h : HeldImage). h.counts ≡ counts (held_of h)) t.held.items t.images.items c.args.node.0 c.image_at.result c.requires c.image_at.ensures all;
    }
