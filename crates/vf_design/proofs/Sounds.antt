-- Each turn of a well-formed design leads from a sound state to a sound state.
use Rattle.std.proofs.Common.{◌≡◌, ℕ, ◌+◌, ◌-◌, ◌<◌, ◌^◌, Bool, true, false, List, length, Option, Some, None, cond, refl, sym, ◌∙◌, ap, subst, arith, slice_get, IfSome, ⊎_elim}
use Rattle.std.proofs.lemmas.Bool.{cases_lt, false≢true}
use Rattle.std.proofs.lemmas.Option.{slice_get_within}
use Rattle.vf_base.specs.declared.run.Limits.{Limits}
use Rattle.vf_machine.specs.Machine.{Sight}
use Rattle.vf_machine.specs.Laws.{IsStimulus}
use Rattle.vf_machine.specs.Run.{Moment, moment_at, turn_of, sight_at}
use Rattle.vf_machine.proofs.CallerLemmas.{KeptBy, SeesByte, sees_byte, turn-kept, moments_kept}
use Rattle.vf_design.specs.declared.code.Instr.{Instr}
use Rattle.vf_design.specs.declared.code.Instr.TheVariants.{Getc, Jump, Unless, Show, Save, IncSave, Finish, Halt}
use Rattle.vf_design.specs.Program.{Program, IsCode, IsWellFormed, NamesPlacesBelow, ends_code}
use Rattle.vf_design.specs.State.{State, IsSound, Status, halted, active, running}
use Rattle.vf_design.specs.Step.{start, perform, read_value, instruction, move_from, holds}
use Rattle.vf_design.specs.Words.{machine_of}

-- an instruction that does not end the code has a next place
next_by : (code : List Instr) (place : ℕ) (instr : Instr) → IsCode code → slice_get code place ≡ Some instr → ends_code instr ≡ false → place + 1 < length code
next_by code place instr wf e goes_on =
    let within = slice_get_within code place instr e in
    ⊎_elim
    (λ lt. omega arith)
    (λ ge.
    let last : place ≡ length code - 1 = omega arith in
    let here : slice_get code (length code - 1) ≡ Some instr = ap (slice_get code) (sym last) ∙ e in
    absurd (false≢true (sym goes_on ∙ subst (λ o. IfSome o (λ i. ends_code i ≡ true)) here wf.last)))
    (cases_lt (place + 1) (length code))

pub next_place : (p : Program) (s : State) (instr : Instr) → IsWellFormed p → instruction p s ≡ Some instr → ends_code instr ≡ false → s.place + 1 < length p.code
next_place p s instr wf e goes_on = next_by p.code s.place instr wf.code e goes_on

-- the places that an instruction names are in the code
pub named_place : (p : Program) (s : State) (instr : Instr) → IsWellFormed p → instruction p s ≡ Some instr → NamesPlacesBelow (length p.code) instr
named_place p s instr wf e = subst (λ o. IfSome o (NamesPlacesBelow (length p.code))) e (wf.code.places s.place)

read_fits : (byte : Option ℕ) → IfSome byte (λ b. b < 256) → read_value byte < 2 ^ 32
read_fits None h = omega arith
read_fits (Some byte) h = omega (arith, h)

chosen_below : (b : Bool) (x y n : ℕ) → x < n → y < n → cond b x y < n
chosen_below true x y n hx hy = hx
chosen_below false x y n hx hy = hy

perform_sound : (p : Program) (sight : Sight) (s : State) (instr : Option Instr) → IsWellFormed p → SeesByte sight → IsSound p s → instruction p s ≡ instr
    → KeptBy (IsSound p) (perform sight s instr)
perform_sound p sight s (Some Getc) wf byte sound e = record { place = next_place p s Getc wf e refl; value = read_fits sight.byte byte }
perform_sound p sight s (Some (Jump to)) wf byte sound e = record { place = named_place p s (Jump to) wf e; value = sound.value }
perform_sound p sight s (Some (Unless condition to)) wf byte sound e = record {
  place = chosen_below (holds condition s.value) (s.place + 1) to (length p.code) (next_place p s (Unless condition to) wf e refl) (named_place p s (Unless condition to) wf e);
  value = sound.value;
}
perform_sound p sight s (Some Show) wf byte sound e = record { place = next_place p s Show wf e refl; value = sound.value }
perform_sound p sight s (Some Save) wf byte sound e = record { place = next_place p s Save wf e refl; value = sound.value }
perform_sound p sight s (Some IncSave) wf byte sound e = record { place = next_place p s IncSave wf e refl; value = sound.value }
perform_sound p sight s (Some (Finish n)) wf byte sound e = tt
perform_sound p sight s (Some Halt) wf byte sound e = record { place = sound.place; value = sound.value }
perform_sound p sight s None wf byte sound e = tt

move_sound : (p : Program) (sight : Sight) (s : State) (status : Status) → IsWellFormed p → SeesByte sight → IsSound p s → KeptBy (IsSound p) (move_from p sight s status)
move_sound p sight s running wf byte sound = perform_sound p sight s (instruction p s) wf byte sound refl
move_sound p sight s active wf byte sound = record { place = sound.place; value = sound.value }
move_sound p sight s halted wf byte sound = tt

pub start_sound : (p : Program) → IsWellFormed p → IsSound p start
start_sound p wf = record { place = wf.code.some; value = tt }

pub runs_sound : (p : Program) (stim : List ℕ) (limits : Limits) (k : ℕ) → IsWellFormed p → IsStimulus stim → IsSound p (moment_at (machine_of p) stim limits k).state
runs_sound p stim limits k wf bytes =
    moments_kept (IsSound p) (machine_of p) stim limits bytes (start_sound p wf) (λ sight s byte sound. move_sound p sight s s.status wf byte sound) k

pub turn_sound : (p : Program) (stim : List ℕ) (limits : Limits) (now : Moment State) → IsWellFormed p → IsStimulus stim → IsSound p now.state
    → IsSound p (turn_of (machine_of p) stim limits now).after.state
turn_sound p stim limits now wf bytes sound =
    turn-kept (IsSound p) (machine_of p) stim limits now sound
    (move_sound p (sight_at (machine_of p) stim now) now.state now.state.status wf (sees_byte (machine_of p) stim now bytes) sound)
