use Rattle.std.proofs.Common.{◌≡◌, drop}
use Rattle.std.specs.List.{list_any}
use Rattle.vf_elaborated.specs.Tables.{is_event_on}
use Rattle.vf_elaborated.specs.Noting.{noted}
use Rattle.vf_elaborated.proofs.tables.note_events.Given as goal

-- the events that are left are noted in the lists so far
abbrev pub invariant-loop-event : goal.invariant-loop-event
invariant-loop-event l =
    noted l.number (λ n. list_any (is_event_on n) (drop l.event-index l.events)) l.lists ≡ noted l.number (λ n. list_any (is_event_on n) l.events) l.fn.lists
