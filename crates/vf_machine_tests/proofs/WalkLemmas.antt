-- The words of a walk stay those of a sound state.
use Rattle.std.proofs.Common.{◌≡◌, ℕ, ◌≤◌, List, length, sym, ◌∙◌, ap, subst}
use Rattle.vf_base.specs.declared.run.Header.{Header}
use Rattle.vf_base.specs.declared.run.Limits.{Limits}
use Rattle.vf_machine.specs.Run.{turn_of}
use Rattle.vf_machine.specs.Writes.{AllChange, AllInside, written}
use Rattle.vf_machine.proofs.CallerLemmas.{all_inside}
use Rattle.vf_design.specs.declared.turn.Turn.{Turn}
use Rattle.vf_design.specs.Program.{Program, IsWellFormed}
use Rattle.vf_design.specs.State.{State, IsSound}
use Rattle.vf_design.specs.Step.{start}
use Rattle.vf_design.specs.Turn.{HoldsState, IsTurn}
use Rattle.vf_design.specs.Words.{words_of, machine_of}
use Rattle.vf_design.proofs.CallerLemmas.{start_sound}

pub zero_holds : (p : Program) (words : List ℕ) → IsWellFormed p → words ≡ words_of p start → HoldsState p words
zero_holds p words wf is = (start, start_sound p wf, sym is)

-- what a turn is, from each state that the words may be of
abbrev pub Said : Program → List ℕ → Limits → Header → List ℕ → Turn → Type 0
Said p stim limits header words turn =
    (s : State) → IsSound p s → words_of p s ≡ words → IsTurn p s (turn_of (machine_of p) stim limits (record { state = s; header = header })) turn

pub next_holds : (p : Program) (stim : List ℕ) (limits : Limits) (header : Header) (words : List ℕ) (turn : Turn) → HoldsState p words
    → Said p stim limits header words turn → HoldsState p (written words turn.writes.items)
next_holds p stim limits header words turn holds said =
    let t = said holds.0 holds.1 holds.2 in
    let after = turn_of (machine_of p) stim limits (record { state = holds.0; header = header }) in
    (after.after.state, t.sound, sym t.writes.result ∙ ap (λ (ws : List ℕ). written ws turn.writes.items) holds.2)

pub next_inside : (p : Program) (stim : List ℕ) (limits : Limits) (header : Header) (words : List ℕ) (turn : Turn) (count : ℕ) → HoldsState p words
    → Said p stim limits header words turn → length words ≤ count → AllInside count turn.writes.items
next_inside p stim limits header words turn count holds said fits =
    let t = said holds.0 holds.1 holds.2 in
    all_inside words turn.writes.items count fits (subst (λ (ws : List ℕ). AllChange ws turn.writes.items) holds.2 t.writes.change)
