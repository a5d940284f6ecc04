-- How a Design shows itself as plain data.
use Rattle.std.specs.Prelude.{◌≡◌, length}
use Rattle.vf_elaborated.specs.declared.design.Design.TheInside.{Inside}
use Rattle.vf_elaborated.specs.Elaborated.{Elaborated}
use Rattle.vf_elaborated.specs.WellFormed.{IsWellFormed}
use Rattle.vf_elaborated.specs.Places.{places_for}
use Rattle.vf_elaborated.specs.Tables.{may_wait, drives}
use Rattle.vf_elaborated.specs.Noting.{tables}

abbrev pub elaborated_of : Inside → Elaborated
elaborated_of d = record {
  top = d.top;
  signals = d.signals;
  processes = d.processes;
  shows = d.shows;
  slots = d.slots;
  drivers = d.drivers;
}

-- it is well formed, and what is kept beside its parts is right
pub record IsKept (d : Inside) : Type 0 where
  pub formed : IsWellFormed (elaborated_of d)
  pub places : d.places ≡ places_for (elaborated_of d)
  pub waiting : d.waiting ≡ tables may_wait d.processes (length d.signals)
  pub driving : d.driving ≡ tables drives d.processes (length d.signals)
