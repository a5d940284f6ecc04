-- What the calls of a simulator do (docs/FARM.md, "Simulators and images").
use Rattle.std.specs.Prelude.{◌≡◌, Bool, true, false, ◌++◌}
use Rattle.vf_design.specs.declared.turn.Turn.{Turn}
use Rattle.vf_pages.specs.declared.refusal.PageRefusal.{PageRefusal}
use Rattle.vf_pages.specs.declared.refusal.PageRefusal.TheVariants.{Short, Memory}
use Rattle.vf_jobs.specs.Kinds.{save_of}
use Rattle.vf_pages.specs.Calls.{Wrote}
use Rattle.vf_image.specs.Simulators.{Simulator}

abbrev pub is_short : PageRefusal → Bool
is_short (Short k) = true
is_short Memory = false

-- the turn was performed
pub record Advanced (turn : Turn) (old new : Simulator) : Type 0 where
  pub setup : new.setup ≡ old.setup
  pub job : new.job ≡ old.job
  pub header : new.header ≡ turn.header
  pub text : new.text ≡ old.text ++ turn.text
  pub saved : new.saved ≡ save_of turn.mark
  pub pages : Wrote turn.writes.items old.pages new.pages
  pub settled : new.short ≡ false

-- no turn was performed: all is as it was but misses, notes and whether it is short
pub record Stayed (old new : Simulator) : Type 0 where
  pub setup : new.setup ≡ old.setup
  pub job : new.job ≡ old.job
  pub header : new.header ≡ old.header
  pub text : new.text ≡ old.text
  pub saved : new.saved ≡ old.saved
  pub zero : new.pages.zero ≡ old.pages.zero
  pub pages : new.pages.pages ≡ old.pages.pages
