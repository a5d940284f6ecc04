-- The state of a run of an early design.
use Rattle.std.specs.Prelude.{ℕ, ◌<◌, ◌^◌, length, Option, IfSome}
use Rattle.vf_design.specs.Program.{Program}

-- where a process stands in the event queue: it has ended, it is in the active list, or it runs (IEEE Std 1364-2005, 11.3)
pub data Status : Type 0 where
  halted : Status
  active : Status
  running : Status

-- The process's place and status, and the 32 bits of the integer; None is the value that is all x. Nothing is ever in
-- the inactive, update, future or strobe list, no monitor stands, and time is 0.
pub record State : Type 0 where
  pub place : ℕ
  pub status : Status
  pub value : Option ℕ

-- a state that a run may be in: the place is in the code, and the value has 32 bits
pub record IsSound (p : Program) (s : State) : Type 0 where
  pub place : s.place < length p.code
  pub value : IfSome s.value (λ n. n < 2 ^ 32)
