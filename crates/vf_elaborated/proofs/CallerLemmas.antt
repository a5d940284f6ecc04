-- What proofs of the crates above may use: what is told of an expression is its fold, and each node tells it by its parts; a value has
-- the shape of its expression; the lengths of lists of bits.
pub use Rattle.vf_elaborated.proofs.NodeLemmas.{told_is_fold, told_by_node}
pub use Rattle.vf_elaborated.proofs.Shaped.{told_roll, values_shaped}
pub use Rattle.vf_elaborated.proofs.OperatorShapes.{zip_length, chosen_length, digits_length}
-- where the elements of signals stand among the words, and what is read there
pub use Rattle.vf_elaborated.proofs.LayoutLemmas.{values_fit, places_length, there, end_grows, address_ends, drivers_small, address_read}
-- each address is among the words of a state, which are few; where the link of an event stands
pub use Rattle.vf_elaborated.proofs.AddressLemmas.{words_small, front_inside, thread_inside, address_inside, driver_inside, slots_end, slot_inside, link_of_process, link_beyond, link_of_slot, link_inside}
-- who stands in the tables of watchers and drivers: their numbers rise, and what a scan of all processes finds is found among them
pub use Rattle.vf_elaborated.proofs.TableLemmas.{waits_at, watcher_stands, watchers_below, watchers_rise, driver_stands, drivers_below, drivers_rise, numbers_left}
