use Rattle.std.proofs.Common.{rules, sym, ◌∙◌}
use Rattle.vf_elaborated.specs.Tables.{is_event_on}
use Rattle.vf_elaborated.proofs.NoteLemmas.{next_noted, all_are_noted}
use Rattle.vf_elaborated.proofs.tables.note_events.Goals as goal

pub loop-event-preserved : goal.loop-event-preserved
loop-event-preserved c =
    next_noted c.args.number is_event_on c.args.events.now c.loop-event.event-index c.loop-event.lists _ c.note_event.new.lists c.loop-event-test.true (search rules)
    c.in_ok-note_event.ensures
    ∙ c.loop-event.invariant

pub returns : goal.returns
returns c =
    sym (all_are_noted c.args.number is_event_on c.args.events.now c.loop-event.event-index c.loop-event.lists c.loop-event-test.false) ∙ c.loop-event.invariant
