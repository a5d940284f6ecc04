use Rattle.std.proofs.Common.{arith}
use Rattle.vf_elaborated.proofs.CallerLemmas.{slot_inside}
use Rattle.vf_queue.proofs.SlotLemmas.{take_short}
use Rattle.vf_queue.proofs.slots.put_slot.Goals as goal

pub put_words-requires-clause-inside : goal.put_words-requires-clause-inside
put_words-requires-clause-inside g c =
    omega (
      arith,
      slot_inside c.args.design.now c.args.slot c.requires.slot,
      take_short c.slot_size.result c.args.all,
      c.slot_size.ensures.size,
      c.slot_at.ensures,
    )
