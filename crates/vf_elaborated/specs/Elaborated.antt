-- A design as contracts see it.
use Rattle.std.specs.Prelude.{ℕ, List}
use Rattle.vf_elaborated.specs.declared.design.Signal.{Signal}
use Rattle.vf_elaborated.specs.declared.design.Process.{Process}
use Rattle.vf_elaborated.specs.declared.design.Show.{Show}

-- the top module's name, the signals, processes and shows by their numbers, and how many event slots and drivers a state has
pub record Elaborated : Type 0 where
  pub top : List ℕ
  pub signals : List Signal
  pub processes : List Process
  pub shows : List Show
  pub slots : ℕ
  pub drivers : ℕ
