-- What contracts see of a simulator (docs/FARM.md, "Simulators and images").
use Rattle.std.specs.Prelude.{◌≡◌, ℕ, ◌<◌, Bool, List, Option, length, nat_lt}
use Rattle.vf_base.specs.declared.names.Job.{Job}
use Rattle.vf_base.specs.declared.run.Header.{Header}
use Rattle.vf_base.specs.declared.run.SaveKind.{SaveKind}
use Rattle.vf_design.specs.declared.turn.Turn.{Turn}
use Rattle.vf_design.specs.Turn.{IsTurn}
use Rattle.vf_pages.specs.Pages.{Pages}
use Rattle.vf_jobs.specs.Jobs.{node_of}
use Rattle.vf_jobs.specs.Setup.{Conditions, IsSetup}
use Rattle.vf_image.specs.Runs.{stimulus_of, last_save, moment_in, words_in, turn_in, AreSound, IsAt}

pub record Simulator : Type 0 where
  pub setup : Conditions
  pub job : Job
  pub header : Header
  pub text : List ℕ
  -- the checkpoint that the last turn asked for
  pub saved : Option SaveKind
  pub pages : Pages
  -- an advance wanted a frame, and no turn was made since
  pub short : Bool

-- at every moment a simulator is turn `header.turns` of the solo run of its job
pub record IsSimulator (s : Simulator) : Type 0 where
  pub setup : IsSetup s.setup
  pub job : node_of s.job < length s.setup.plan
  pub saved : s.saved ≡ last_save s.setup s.job s.header.turns
  pub sound : AreSound s.setup s.job s.header.turns
  pub at : IsAt s.setup s.job s.header.turns s.header s.text s.pages

-- the words of its state, and whether a read went past the stimulus
abbrev pub contents : Simulator → List ℕ
contents s = words_in s.setup s.job s.header.turns

abbrev pub is_past_end : Simulator → Bool
is_past_end s = nat_lt (length (stimulus_of s.setup s.job)) s.header.reads

-- the kernel's turn is the one that comes next
abbrev pub IsNext : Simulator → Turn → Type 0
IsNext s turn = IsTurn s.setup.design (moment_in s.setup s.job s.header.turns).state (turn_in s.setup s.job s.header.turns) turn
