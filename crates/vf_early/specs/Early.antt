-- Early designs.
use Rattle.std.specs.Prelude.{◌≡◌, ℕ, ◌≤◌, List, length}
use Rattle.vf_design.specs.Program.{Program}
use Rattle.vf_early.specs.Tokens.{IsTokens}
use Rattle.vf_early.specs.Grammar.{IsSource}

-- the bytes spell an early design of that program
pub record IsEarly (bytes : List ℕ) (slots : ℕ) (program : Program) : Type 0 where
  pub tokens : List (List ℕ)
  pub spelled : IsTokens bytes tokens
  pub source : IsSource tokens program.top program.variable program.code
  pub most : length program.code ≤ 65536
  pub slots_kept : program.slots ≡ slots
