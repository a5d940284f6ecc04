use Rattle.std.proofs.Common.{◌∙◌, sym, arith, get_or}
use Rattle.vf_lex.proofs.PlaceLemmas.{moved_step, moved_none, line_step, column_step}
use Rattle.vf_lex.proofs.spot.moved_place.Goals as goal

pub loop-byte-preserved : goal.loop-byte-preserved
loop-byte-preserved c =
    let byte = get_or c.args.bytes.now c.loop-byte.byte-index 0 in
    let room = c.loop-byte.invariant in
    rw c.place_after-place.ensures (record {
      moved = moved_step c.loop-byte.place c.args.bytes.now c.loop-byte.byte-index c.loop-byte-test.true ∙ room.moved;
      line_fits = omega (arith, line_step c.loop-byte.place byte, room.line_fits, c.loop-byte-test.true);
      column_fits = omega (arith, column_step c.loop-byte.place byte, room.column_fits, c.loop-byte-test.true);
      whole_fits = room.whole_fits;
    })

pub returns : goal.returns
returns c = sym (moved_none c.loop-byte.place c.args.bytes.now c.loop-byte.byte-index c.loop-byte-test.false)
    ∙ c.loop-byte.invariant.moved
