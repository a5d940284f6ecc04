-- What proofs of the crates above may use: the laws, for proofs that no law function can hand over to.
pub use Rattle.vf_scheduler.proofs.Starts.{start_sound}
pub use Rattle.vf_scheduler.proofs.Steps.{step_sound}
pub use Rattle.vf_scheduler.proofs.Telling.{words_tell}
pub use Rattle.vf_scheduler.proofs.ReadLemmas.{reads_on}
-- the bits of a value are told by its words
pub use Rattle.vf_scheduler.proofs.Values.{value_told}
-- how often an event stands in lists
pub use Rattle.vf_scheduler.proofs.Marks.{times-append, times_here}
-- a sound state as two parts, and back
pub use Rattle.vf_scheduler.proofs.Held.{Shaped, Shapes, Held, held, sound}
-- what keeps them: the moves of the running process
pub use Rattle.vf_scheduler.proofs.Processes.{IsPlace, goes_held, waits_held, ends_held, delayed_held}
-- what is put off
pub use Rattle.vf_scheduler.proofs.Slots.{Updates, post_held, strobe_held}
-- updates, and what they wake
pub use Rattle.vf_scheduler.proofs.Waking.{element_held, wake_held, updated_held, updates_held}
-- the next event of the active region is taken
pub use Rattle.vf_scheduler.proofs.Regions.{take_held, freed}
-- an event of another region becomes active, and a strobe is printed
pub use Rattle.vf_scheduler.proofs.Regions.{activate_held, Arrives, arrive_held, strobe_printed}
pub use Rattle.vf_scheduler.proofs.Steps.{Later, all_later}
pub use Rattle.vf_scheduler.proofs.Queues.{times_by, Between}
pub use Rattle.vf_scheduler.proofs.Held.{time_is, mark_in, between}
-- a signal of a design, and an update of it, have few bits
pub use Rattle.vf_scheduler.proofs.Assigned.{Sized, sized}
pub use Rattle.vf_scheduler.proofs.Telling.{update_narrow}
-- a change of a signal wakes none but its watchers, which may be looked at one after the other
pub use Rattle.vf_scheduler.proofs.Watching.{wakes_may, wakes_in, wakes_in_is, woken_watch, joins_active, wake_one, wake_each, wake_by_each}
pub use Rattle.vf_scheduler.proofs.WatchLemmas.{threads_length, wake_one_more, wake_one_less, wake_keeps, wake_one_held, wake_each_held, wake_one_sound, wake_each_sound}
-- what one posted update leaves
pub use Rattle.vf_scheduler.proofs.Slots.{Posted, posted_held}
