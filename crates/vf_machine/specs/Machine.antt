-- A machine: what runs, told apart from the limits that end a run from outside.
use Rattle.std.specs.Prelude.{ℕ, Bool, true, false, List, Option}
use Rattle.vf_base.specs.declared.run.SaveKind.{SaveKind}
use Rattle.vf_base.specs.declared.run.Ending.{Ending}

-- All that a turn sees of the stimulus: the next byte, where the turn reads and a byte is left; and whether a
-- read has gone past the end.
pub record Sight : Type 0 where
  pub byte : Option ℕ
  pub past_end : Bool

-- What a turn does by itself: it goes on to a state, with the bytes that it writes and maybe a checkpoint; or it
-- ends the run, which changes no state and writes nothing.
pub data Move (S : Type 0) : Type 0 where
  go : S → List ℕ → Option SaveKind → Move S
  stop : Ending → Move S

abbrev pub stops : {S : Type 0} → Move S → Bool
stops (go state text save) = false
stops (stop ending) = true

-- A machine over states S: its state at time zero, whether no event is left, whether the next turn reads the
-- stimulus, which may depend on whether a read has gone past the end, what a turn does, and the 64-bit words of a
-- state, of which 64 are a page.
pub record Machine (S : Type 0) : Type 0 where
  pub start : S
  pub drained : S → Bool
  pub at_read : Bool → S → Bool
  pub move : Sight → S → Move S
  pub words : S → List ℕ
