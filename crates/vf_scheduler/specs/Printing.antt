-- What a task prints with the values of now (docs/LANGUAGE.md, "The scheduler"; IEEE Std 1364-2005, 17.1).
use Rattle.std.specs.Prelude.{ℕ, Bool, List, slice_get}
use Rattle.vf_elaborated.specs.Elaborated.{Elaborated}
use Rattle.vf_elaborated.specs.Printing.{text_of}
use Rattle.vf_scheduler.specs.State.{State, scene_of}

unfoldable pub shown : Elaborated → Bool → State → ℕ → List ℕ
shown d past_end s show = text_of d.signals (scene_of past_end s) (slice_get d.shows show)
