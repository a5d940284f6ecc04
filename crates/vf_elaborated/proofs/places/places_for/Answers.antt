use Rattle.std.proofs.Common.{arith}
use Rattle.vf_elaborated.specs.Layout.{signals_begin}
use Rattle.vf_elaborated.specs.Places.{laid}
use Rattle.vf_elaborated.proofs.LayoutLemmas.{end_grows}
use Rattle.vf_elaborated.proofs.AddressLemmas.{places_made}
use Rattle.vf_elaborated.proofs.places.places_for.Goals as goal

pub overflow_cast-begin : goal.overflow_cast-begin
overflow_cast-begin c = let few = end_grows (signals_begin (laid c.args.signals.now c.args.processes.now c.args.slots)) c.args.signals.now in omega (arith, few, c.requires.few)

pub overflow_mul-begin : goal.overflow_mul-begin
overflow_mul-begin c = let few = end_grows (signals_begin (laid c.args.signals.now c.args.processes.now c.args.slots)) c.args.signals.now in omega (arith, few, c.requires.few)

pub overflow_add-begin : goal.overflow_add-begin
overflow_add-begin c = let few = end_grows (signals_begin (laid c.args.signals.now c.args.processes.now c.args.slots)) c.args.signals.now in omega (arith, few, c.requires.few)

pub returns : goal.returns
returns c =
    places_made (laid c.args.signals.now c.args.processes.now c.args.slots) c.in_ok-signal_places.signal_places c.in_ok-driver_places.driver_places
    c.in_ok-signal_places.drivers_begin c.in_ok-driver_places.slots_begin c.has_wide-wide.result c.slot_size.result c.in_ok-signal_places.ensures.places
    c.in_ok-signal_places.ensures.end c.in_ok-driver_places.ensures.places c.in_ok-driver_places.ensures.end c.has_wide-wide.ensures c.slot_size.ensures
