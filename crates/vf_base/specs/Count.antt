-- What a step counter shows.
use Rattle.std.specs.Prelude.{ℕ}

-- the parts of a ledger that a counter has, and the steps that it has counted
pub record Count : Type 0 where
  pub parts : ℕ
  pub count : ℕ
