-- What a turn on the words of a state is.
use Rattle.std.specs.Prelude.{◌≡◌, ℕ, List}
use Rattle.vf_machine.specs.Run.{Turned}
use Rattle.vf_machine.specs.Writes.{IsChange}
use Rattle.vf_design.specs.declared.turn.Turn.{Turn}
use Rattle.vf_design.specs.Program.{Program}
use Rattle.vf_design.specs.State.{State, IsSound}
use Rattle.vf_design.specs.Words.{words_of}

-- the words are those of some sound state
abbrev pub HoldsState : Program → List ℕ → Type 0
HoldsState p words = (s : State) × IsSound p s × (words_of p s ≡ words)

-- the turn, made from a state, is this turn of the definition, and leads to a sound state
pub record IsTurn (p : Program) (s : State) (turned : Turned State) (turn : Turn) : Type 0 where
  pub writes : IsChange (words_of p s) (words_of p turned.after.state) turn.writes.items
  pub text : turn.text ≡ turned.text
  pub header : turn.header ≡ turned.after.header
  pub mark : turn.mark ≡ turned.mark
  pub sound : IsSound p turned.after.state
