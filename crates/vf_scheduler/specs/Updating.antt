-- An update of a value, and what it wakes (docs/LANGUAGE.md, "The scheduler"; IEEE Std 1364-2005, 9.7 and 11.2).
use Rattle.std.specs.Prelude.{ℕ, ◌+◌, Bool, true, false, ◌&&◌, ◌||◌, ◌==◌, not, List, [], ◌∷◌, ◌++◌, length, map, take, drop, Option, Some, None, slice_get, slice_set, if◌then◌else◌}
use Rattle.std.specs.List.{list_any, zip}
use Rattle.vf_fours.specs.declared.Bit.{Bit}
use Rattle.vf_fours.specs.declared.Bit.TheVariants.{Zero, One, X, Z}
use Rattle.vf_fours.specs.Bits.{same_bit, is_one, is_zero, bit_in, zip_with}
use Rattle.vf_fours.specs.Operators.{every}
use Rattle.vf_elaborated.specs.declared.design.Process.{Process}
use Rattle.vf_elaborated.specs.declared.design.Show.{Show}
use Rattle.vf_elaborated.specs.declared.design.Piece.{Piece}
use Rattle.vf_elaborated.specs.declared.design.Piece.TheVariants.{Plain, Value}
use Rattle.vf_elaborated.specs.declared.code.Event.{Event}
use Rattle.vf_elaborated.specs.declared.code.Edge.{Edge}
use Rattle.vf_elaborated.specs.declared.code.Edge.TheVariants.{Any, Pos, Neg}
use Rattle.vf_elaborated.specs.declared.code.Instr.{Instr}
use Rattle.vf_elaborated.specs.declared.code.Instr.TheVariants.{Await, Until, Drive}
use Rattle.vf_elaborated.specs.Elaborated.{Elaborated}
use Rattle.vf_elaborated.specs.Values.{reads_signal}
use Rattle.vf_elaborated.specs.Tables.{numbers_from}
use Rattle.vf_scheduler.specs.State.{State, Thread, Status, Waiting, Active, Update, of_process, elements_of, bits_of}

-- ---- events

-- a bit goes up: from 0 to another value, or to 1 (table 9-2)
abbrev pub rises : Bit → Bit → Bool
rises Zero new = not (is_zero new)
rises One new = false
rises X new = is_one new
rises Z new = is_one new

abbrev pub falls : Bit → Bit → Bool
falls Zero new = false
falls One new = not (is_one new)
falls X new = is_zero new
falls Z new = is_zero new

abbrev pub same_bits : List Bit → List Bit → Bool
same_bits old new = every (zip_with same_bit old new)

-- the edge of a vector is that of its least bit
abbrev pub has_edge : Edge → List Bit → List Bit → Bool
has_edge Any old new = not (same_bits old new)
has_edge Pos old new = rises (bit_in old 0) (bit_in new 0)
has_edge Neg old new = falls (bit_in old 0) (bit_in new 0)

-- the part of a value that an event looks at
abbrev pub watched : Option ℕ → List Bit → List Bit
watched None bits = bits
watched (Some bit) bits = bit_in bits bit ∷ []

-- a change of a signal, or of an element of it, that an event waits for
abbrev pub fits : ℕ → List Bit → List Bit → Event → Bool
fits sig old new event = event.sig.0 == sig && has_edge event.edge (watched event.bit old) (watched event.bit new)

-- ---- who wakes

-- an instruction that a change of a signal wakes: an event control by its events, a `wait` and a continuous assignment by what they read
abbrev pub wakes : ℕ → List Bit → List Bit → Option Instr → Bool
wakes sig old new (Some (Await events)) = list_any (fits sig old new) events
wakes sig old new (Some (Until e)) = reads_signal sig e
wakes sig old new (Some (Drive target e)) = reads_signal sig e
wakes sig old new _ = false

abbrev pub is_waiting : Status → Bool
is_waiting Waiting = true
is_waiting _ = false

abbrev pub instr_of : Process × Thread → Option Instr
instr_of (process, thread) = slice_get process.code thread.place

-- only a waiting process wakes
abbrev pub is_woken : ℕ → List Bit → List Bit → Process × Thread → Bool
is_woken sig old new pair = is_waiting pair.1.status && wakes sig old new (instr_of pair)

-- an event control is over once an event of it has come; the others are looked at again
abbrev pub place_after : Option Instr → ℕ → ℕ
place_after (Some (Await events)) place = place + 1
place_after _ place = place

abbrev pub woken : (Process × Thread → Bool) → Process × Thread → Thread
woken test pair =
    if test pair then record { place = place_after (instr_of pair) pair.1.place; status = Active } else pair.1

-- ---- the monitor

abbrev pub piece_reads : ℕ → Piece → Bool
piece_reads sig (Plain text) = false
piece_reads sig (Value form least e) = reads_signal sig e

abbrev pub show_reads : ℕ → Option Show → Bool
show_reads sig None = false
show_reads sig (Some show) = list_any (piece_reads sig) show.pieces

-- the monitor's show names the signal (17.1.3)
abbrev pub monitors : Elaborated → ℕ → Option ℕ → Bool
monitors d sig None = false
monitors d sig (Some show) = show_reads sig (slice_get d.shows show)

-- ---- updates

-- bits in place of others, from a bit on
abbrev pub overwritten : List Bit → ℕ → List Bit → List Bit
overwritten old low bits = take low old ++ (bits ++ drop (low + length bits) old)

-- a signal's element has changed: the processes that it wakes join the active region in number order, and the monitor may be due
abbrev pub wake : Elaborated → ℕ → List Bit → List Bit → State → State
wake d sig old new s =
    let pairs = zip d.processes s.threads in
    let test = is_woken sig old new in
    record s {
      threads = map (woken test) pairs;
      active = s.active ++ map of_process (numbers_from test 0 pairs);
      due = s.due || monitors d sig s.monitor;
    }

abbrev pub changed : Elaborated → Update → List Bit → List Bit → State → State
changed d u old new s =
    if same_bits old new then s
    else wake d u.sig old new (record s { values = slice_set s.values u.sig (slice_set (elements_of s u.sig) u.element new) })

-- one that changes nothing wakes nobody
unfoldable pub updated : Elaborated → Update → State → State
updated d u s =
    let old = bits_of s u.sig u.element in
    changed d u old (overwritten old u.low u.bits) s

-- one after the other
abbrev pub updated_all : Elaborated → List Update → State → State
updated_all d [] s = s
updated_all d (u ∷ rest) s = updated_all d rest (updated d u s)
