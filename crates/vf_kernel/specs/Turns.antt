-- What a turn has told while it is filled.
use Rattle.std.specs.Prelude.{◌≡◌, ◌+◌, []}
use Rattle.vf_base.specs.declared.run.Header.{Header}
use Rattle.vf_machine.specs.declared.mark.Mark.TheVariants.{Plain}
use Rattle.vf_machine.specs.Run.{Turned}
use Rattle.vf_machine.specs.Writes.{IsChange}
use Rattle.vf_design.specs.declared.turn.Turn.{Turn}
use Rattle.vf_design.specs.Program.{Program}
use Rattle.vf_design.specs.State.{State}
use Rattle.vf_design.specs.Words.{words_of}

-- nothing yet but that it is a turn
pub record IsBegun (before : Header) (turn : Turn) : Type 0 where
  pub writes : turn.writes.items ≡ []
  pub text : turn.text ≡ []
  pub header : turn.header ≡ record before { turns = before.turns + 1 }
  pub mark : turn.mark ≡ Plain

-- all that the definition's turn does
pub record Tells (p : Program) (s : State) (turned : Turned State) (turn : Turn) : Type 0 where
  pub writes : IsChange (words_of p s) (words_of p turned.after.state) turn.writes.items
  pub text : turn.text ≡ turned.text
  pub header : turn.header ≡ turned.after.header
  pub mark : turn.mark ≡ turned.mark
