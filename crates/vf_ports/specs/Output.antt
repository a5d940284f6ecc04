-- A sink in memory, as contracts see it.
use Rattle.std.specs.Prelude.{ℕ, ◌-◌, min, Bool, ◌&&◌, ◌||◌, ◌==◌, nat_lt, List, ◌++◌, length, take, Result, Ok, Err}
use Rattle.std.specs.List.{list_any}
use Rattle.vf_ports.specs.declared.sink.SinkFailed.{SinkFailed}
use Rattle.vf_ports.specs.Counts.{raised}

-- what was written, the most bytes in all and in one call, the numbers from 1 of the calls that fail,
-- and the calls and faults so far
pub record Output : Type 0 where
  pub written : List ℕ
  pub room : ℕ
  pub most : ℕ
  pub failing : List ℕ
  pub calls : ℕ
  pub faults : ℕ

abbrev pub room_left : Output → ℕ
room_left sink = sink.room - length sink.written

-- the next call, with this piece, fails
abbrev pub refuses : Output → List ℕ → Bool
refuses sink piece =
    list_any (λ number. number == raised sink.calls) sink.failing || (room_left sink == 0 && nat_lt 0 (length piece))

-- how many bytes of the piece a call takes that does not fail
abbrev pub taken : Output → List ℕ → ℕ
taken sink piece = min (length piece) (min sink.most (room_left sink))

-- the sink after a call with this piece
abbrev pub after_write : Output → List ℕ → Result ℕ SinkFailed → Output
after_write sink piece (Ok count) = record sink { written = sink.written ++ take count piece; calls = raised sink.calls }
after_write sink piece (Err _) = record sink { calls = raised sink.calls; faults = raised sink.faults }
