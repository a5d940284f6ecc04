-- A run of a machine on a stimulus, under limits. Turns are counted from time zero.
use Rattle.std.specs.Prelude.{ℕ, zero, suc, ◌+◌, Bool, true, false, List, [], ◌++◌, length, Option, Some, None, nat_lt, nat_le, slice_get, if◌then◌else◌}
use Rattle.vf_base.specs.declared.run.Header.{Header}
use Rattle.vf_base.specs.declared.run.Limits.{Limits}
use Rattle.vf_base.specs.declared.run.Ending.{Ending}
use Rattle.vf_base.specs.declared.run.Ending.TheVariants.{Finish, Stop, Drained, Turns, Output, Events, Time}
use Rattle.vf_base.specs.declared.run.SaveKind.{SaveKind}
use Rattle.vf_machine.specs.declared.mark.Mark.{Mark}
use Rattle.vf_machine.specs.declared.mark.Mark.TheVariants.{Plain, Saved, Ended}
use Rattle.vf_machine.specs.Machine.{Machine, Move, go, stop, Sight}

-- a moment of a run: the machine's state, and what the run has counted
pub record Moment (S : Type 0) : Type 0 where
  pub state : S
  pub header : Header

-- what a turn comes to: the moment after it, the bytes that it wrote, and its mark
pub record Turned (S : Type 0) : Type 0 where
  pub after : Moment S
  pub text : List ℕ
  pub mark : Mark

abbrev pub saved_mark : Option SaveKind → Mark
saved_mark None = Plain
saved_mark (Some kind) = Saved kind

-- whether a read has gone past the end of the stimulus
abbrev pub has_read_past : {S : Type 0} → List ℕ → Moment S → Bool
has_read_past stim now = nat_lt (length stim) now.header.reads

-- whether the next turn reads the stimulus
abbrev pub reads_next : {S : Type 0} → Machine S → List ℕ → Moment S → Bool
reads_next m stim now = m.at_read (has_read_past stim now) now.state

-- the next byte is seen only by a turn that reads
abbrev pub sight_at : {S : Type 0} → Machine S → List ℕ → Moment S → Sight
sight_at m stim now = record {
  byte = if reads_next m stim now then slice_get stim now.header.reads else None;
  past_end = has_read_past stim now;
}

-- an ending that performs no turn
abbrev pub ended_before : {S : Type 0} → Moment S → Ending → Turned S
ended_before now ending = record { after = now; text = []; mark = Ended ending }

-- what a performed turn counts: itself, its read if it reads, and the bytes that it wrote
abbrev pub counted : {S : Type 0} → Moment S → Bool → ℕ → Header
counted now reads bytes = record {
  turns = now.header.turns + 1;
  reads = now.header.reads + (if reads then 1 else 0);
  written = now.header.written + bytes;
}

-- a turn that the machine performs; one that ends the run changes no state and writes nothing
abbrev pub performed : {S : Type 0} → Machine S → List ℕ → Moment S → Move S → Turned S
performed m stim now (go state text save) = record {
  after = record { state = state; header = counted now (reads_next m stim now) (length text) };
  text = text;
  mark = saved_mark save;
}
performed m stim now (stop ending) = record {
  after = record { state = now.state; header = counted now (reads_next m stim now) 0 };
  text = [];
  mark = Ended ending;
}

-- the ending in place of a turn that would write too much: it counts as a turn, and changes nothing else
abbrev pub cut_off : {S : Type 0} → Moment S → Turned S
cut_off now = record {
  after = record { state = now.state; header = record now.header { turns = now.header.turns + 1 } };
  text = [];
  mark = Ended Output;
}

-- the next turn where no limit stands
abbrev pub free_turn : {S : Type 0} → Machine S → List ℕ → Moment S → Turned S
free_turn m stim now =
    if m.drained now.state then ended_before now Drained else performed m stim now (m.move (sight_at m stim now) now.state)

-- The next turn under limits. That no event is left is tried before the limit on turns; neither counts a turn. A
-- turn that would pass the limit on bytes written is the ending Output instead.
abbrev pub turn_of : {S : Type 0} → Machine S → List ℕ → Limits → Moment S → Turned S
turn_of m stim limits now =
    if m.drained now.state then ended_before now Drained
    else (if nat_le limits.turns now.header.turns then ended_before now Turns
    else (if nat_lt limits.output (free_turn m stim now).after.header.written then cut_off now
    else free_turn m stim now))

-- time zero
abbrev pub at_zero : {S : Type 0} → Machine S → Moment S
at_zero m = record { state = m.start; header = record { turns = 0; reads = 0; written = 0 } }

-- the moment after k turns
unfoldable pub moment_at : {S : Type 0} → Machine S → List ℕ → Limits → ℕ → Moment S
moment_at m stim limits zero = at_zero m
moment_at m stim limits (suc k) = (turn_of m stim limits (moment_at m stim limits k)).after

-- the turn after k turns, and its mark
abbrev pub turn_at : {S : Type 0} → Machine S → List ℕ → Limits → ℕ → Turned S
turn_at m stim limits k = turn_of m stim limits (moment_at m stim limits k)

abbrev pub mark_at : {S : Type 0} → Machine S → List ℕ → Limits → ℕ → Mark
mark_at m stim limits k = (turn_at m stim limits k).mark

-- all bytes written in the first k turns
unfoldable pub text_at : {S : Type 0} → Machine S → List ℕ → Limits → ℕ → List ℕ
text_at m stim limits zero = []
text_at m stim limits (suc k) = text_at m stim limits k ++ (turn_at m stim limits k).text

-- the words after k turns
abbrev pub words_at : {S : Type 0} → Machine S → List ℕ → Limits → ℕ → List ℕ
words_at m stim limits k = m.words (moment_at m stim limits k).state

abbrev pub is_ending : Mark → Bool
is_ending Plain = false
is_ending (Saved kind) = false
is_ending (Ended ending) = true

-- the ending came from a limit, and not from the design
abbrev pub is_limit : Mark → Bool
is_limit Plain = false
is_limit (Saved kind) = false
is_limit (Ended Turns) = true
is_limit (Ended Output) = true
is_limit (Ended (Finish n)) = false
is_limit (Ended (Stop n)) = false
is_limit (Ended Drained) = false
is_limit (Ended Events) = false
is_limit (Ended Time) = false
