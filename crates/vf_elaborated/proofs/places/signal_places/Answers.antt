use Rattle.std.proofs.Common.{◌*◌, ap, arith}
use Rattle.vf_elaborated.proofs.LayoutLemmas.{room_left}
use Rattle.vf_elaborated.proofs.places.signal_places.Goals as goal

pub overflow_mul-at : goal.overflow_mul-at
overflow_mul-at c =
    let left = room_left c.args.signals.now c.loop-signal.signal-index c.loop-signal.at c.signal-item.result c.loop-signal-test.true c.signal-item.is in
    let size = ap (λ n. c.signal-item.result.elements * n) c.value_size.ensures in
    let end = c.loop-signal.invariant.1 in
    let few = c.requires.few in
    omega (arith, left, size, end, few)

pub overflow_add-at : goal.overflow_add-at
overflow_add-at c =
    let left = room_left c.args.signals.now c.loop-signal.signal-index c.loop-signal.at c.signal-item.result c.loop-signal-test.true c.signal-item.is in
    let size = ap (λ n. c.signal-item.result.elements * n) c.value_size.ensures in
    let end = c.loop-signal.invariant.1 in
    let few = c.requires.few in
    omega (arith, left, size, end, few)
