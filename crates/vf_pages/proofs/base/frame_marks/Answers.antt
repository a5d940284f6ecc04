use Rattle.std.proofs.Common.{◌≡◌, ◌<◌, length, true, slice_set, ◌∙◌, arith}
use Rattle.std.proofs.lemmas.List.{length-set}
use Rattle.vf_pages.specs.Bases.{is_marked}
use Rattle.vf_pages.proofs.Bases.{more-frames, item-occurs, mark-here, mark-set}
use Rattle.vf_pages.proofs.base.frame_marks.Goals as goal

pub index_mut-requires : goal.index_mut-requires
index_mut-requires c =
    let some = item-occurs c.loop-one.one-index c.args.held.now c.one-item.result c.loop-one-test.true c.one-item.is in
    omega (arith, c.greatest_frame-most.ensures c.one-item.result.frame.0 some, c.loop-one.invariant.long)

pub loop-one-preserved : goal.loop-one-preserved
loop-one-preserved c =
    let inv = c.loop-one.invariant in
    let h = c.one-item.result in
    let marks = c.loop-one.marks.items in
    let some = item-occurs c.loop-one.one-index c.args.held.now h c.loop-one-test.true c.one-item.is in
    let within : h.frame.0 < length marks = omega (arith, c.greatest_frame-most.ensures h.frame.0 some, inv.long) in
    record {
      marked = λ f there. more-frames (λ n. is_marked (slice_set marks h.frame.0 true) n ≡ true) f c.loop-one.one-index c.args.held.now h c.loop-one-test.true c.one-item.is
          (λ before. mark-set marks h.frame.0 f within (inv.marked f before)) (mark-here marks h.frame.0 within) there;
      long = length-set marks h.frame.0 true ∙ inv.long;
    }
