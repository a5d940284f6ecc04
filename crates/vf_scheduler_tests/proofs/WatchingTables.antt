-- The tables and addresses, computed.
use Rattle.std.proofs.Common.{refl}
use Rattle.vf_elaborated.specs.Layout.{address_of}
use Rattle.vf_elaborated.specs.Addresses.{driver_at, slot_at, link_at, word_count}
use Rattle.vf_elaborated.specs.Tables.{is_event_on, is_piece_on, watchers_of, drivers_of}
use Rattle.vf_scheduler_tests.specs.Watching.{AreWatched, AreDriven, StandThere, TablesAre}
use Rattle.vf_scheduler_tests.proofs.Computing.{everything}

watched : AreWatched
unfolding everything watchers_of is_event_on
watched = record { of_look = refl; of_mix = refl; of_wide = refl; of_bench = refl }

driven : AreDriven
unfolding everything drivers_of is_piece_on
driven = record { of_look = refl; of_res = refl; of_wide = refl; of_bench = refl }

standing : StandThere
unfolding address_of driver_at slot_at link_at word_count
standing = record {
  elements = (refl, refl);
  drivers = (refl, refl);
  threads = refl;
  slots = (refl, refl);
  links = (refl, refl);
  slots_are = (refl, refl);
  counts = (refl, refl);
}

pub tables_are : TablesAre
tables_are = record { watchers = watched; drivers = driven; words = standing }
