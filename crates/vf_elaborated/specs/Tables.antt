-- Which processes wait for a signal, and which drive a net (docs/LANGUAGE.md, "Elaborated designs"; IEEE Std 1364-2005, 6.1 and 9.7).
use Rattle.std.specs.Prelude.{ℕ, ◌+◌, Bool, false, ◌&&◌, ◌==◌, List, [], ◌∷◌, Option, Some, None, if◌then◌else◌, is_some}
use Rattle.std.specs.List.{list_any}
use Rattle.vf_elaborated.specs.declared.design.Process.{Process}
use Rattle.vf_elaborated.specs.declared.code.Event.{Event}
use Rattle.vf_elaborated.specs.declared.code.Instr.{Instr}
use Rattle.vf_elaborated.specs.declared.code.Instr.TheVariants.{Await, Until, Drive}
use Rattle.vf_elaborated.specs.declared.code.Target.{Target}
use Rattle.vf_elaborated.specs.declared.code.TargetPiece.{TargetPiece}
use Rattle.vf_elaborated.specs.Elaborated.{Elaborated}
use Rattle.vf_elaborated.specs.Values.{reads_signal}
use Rattle.vf_elaborated.specs.Drivers.{target_of}

-- the numbers of those that pass a test, rising; the first one's number is given
abbrev pub numbers_from : {A : Type 0} → (A → Bool) → ℕ → List A → List ℕ
numbers_from test n [] = []
numbers_from test n (x ∷ rest) = if test x then n ∷ numbers_from test (n + 1) rest else numbers_from test (n + 1) rest

-- ---- who waits

unfoldable pub is_event_on : ℕ → Event → Bool
is_event_on sig event = event.sig.0 == sig

-- An instruction that a change of a signal may wake: an event control with an event of the signal (9.7.2), a `wait` (9.7.6) and a continuous
-- assignment (6.1) whose expression reads it.
abbrev pub may_wake : ℕ → Instr → Bool
may_wake sig (Await events) = list_any (is_event_on sig) events
may_wake sig (Until e) = reads_signal sig e
may_wake sig (Drive target e) = reads_signal sig e
may_wake sig _ = false

-- some instruction of a process waits for the signal
abbrev pub may_wait : ℕ → Process → Bool
may_wait sig process = list_any (may_wake sig) process.code

-- the processes that can wait for a signal, in number order
unfoldable pub watchers_of : Elaborated → ℕ → List ℕ
watchers_of d sig = numbers_from (may_wait sig) 0 d.processes

-- ---- who drives

unfoldable pub is_piece_on : ℕ → TargetPiece → Bool
is_piece_on net piece = piece.sig.0 == net

abbrev pub names_net : ℕ → Option Target → Bool
names_net net None = false
names_net net (Some target) = list_any (is_piece_on net) target.0

-- a process has a driver, and its target names the net
abbrev pub drives : ℕ → Process → Bool
drives net process = is_some process.driver && names_net net (target_of process)

-- the processes that drive a net, in number order
unfoldable pub drivers_of : Elaborated → ℕ → List ℕ
drivers_of d net = numbers_from (drives net) 0 d.processes
