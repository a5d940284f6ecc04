-- What a filled turn tells, by the way that the turn goes.
use Rattle.std.proofs.Common.{◌≡◌, ℕ, ◌+◌, ◌<◌, ◌≤◌, Bool, true, false, List, [], length, Option, Some, None, cond, nat_lt, nat_le, slice_get, refl, sym, ◌∙◌, ap, ap₂, subst, arith}
use Rattle.std.proofs.lemmas.Bool.{lt-leb, lt-ltb, le-ltb, false≢true}
use Rattle.vf_base.specs.declared.run.Header.{Header}
use Rattle.vf_base.specs.declared.run.Limits.{Limits}
use Rattle.vf_base.specs.declared.run.SaveKind.{SaveKind}
use Rattle.vf_base.specs.declared.run.Ending.{Ending}
use Rattle.vf_base.specs.declared.run.Ending.TheVariants.{Output}
use Rattle.vf_machine.specs.declared.mark.Mark.TheVariants.{Ended}
use Rattle.vf_machine.specs.Machine.{Move, go, stop}
use Rattle.vf_machine.specs.Laws.{IsStimulus}
use Rattle.vf_machine.specs.Run.{Moment, Turned, turn_of, free_turn, performed, cut_off, sight_at, saved_mark}
use Rattle.vf_machine.specs.Writes.{IsChange}
use Rattle.vf_design.specs.declared.code.Instr.{Instr}
use Rattle.vf_design.specs.declared.turn.Turn.{Turn}
use Rattle.vf_design.specs.Program.{Program, IsWellFormed}
use Rattle.vf_design.specs.State.{State, IsSound, running}
use Rattle.vf_design.specs.Step.{move_from, instruction, is_at_read, is_drained, perform}
use Rattle.vf_design.specs.Turn.{IsTurn}
use Rattle.vf_design.specs.Words.{words_of, machine_of}
use Rattle.vf_design.proofs.CallerLemmas.{turn_sound}
use Rattle.vf_kernel.specs.declared.state.Status as kernel
use Rattle.vf_kernel.specs.declared.state.Status.TheVariants as statuses
use Rattle.vf_kernel.specs.State.{status_of}
use Rattle.vf_kernel.specs.Turns.{Tells}
use Rattle.vf_kernel.proofs.ChangeLemmas.{nothing}

pub not_drained : (status : kernel.Status) → (status ≡ statuses.Halted → ⊥) → is_drained (status_of status) ≡ false
not_drained statuses.Halted h = absurd (h refl)
not_drained statuses.Active h = refl
not_drained statuses.Running h = refl

abbrev pub counted : Header → ℕ → ℕ → Header
counted header reads bytes = record { turns = header.turns + 1; reads = header.reads + reads; written = header.written + bytes }

-- no limit ends the turn
within_by : {S : Type 0} (d t o : Bool) (x y z f : Turned S) → d ≡ false → t ≡ false → o ≡ false → cond d x (cond t y (cond o z (cond d x f))) ≡ f
within_by true t o x y z f hd ht ho = absurd (false≢true (sym hd))
within_by false true o x y z f hd ht ho = absurd (false≢true (sym ht))
within_by false false true x y z f hd ht ho = absurd (false≢true (sym ho))
within_by false false false x y z f hd ht ho = refl

-- the limit on output ends the turn
cut_by : {S : Type 0} (d t o : Bool) (x y z f : Turned S) → d ≡ false → t ≡ false → o ≡ true → cond d x (cond t y (cond o z f)) ≡ z
cut_by true t o x y z f hd ht ho = absurd (false≢true (sym hd))
cut_by false true o x y z f hd ht ho = absurd (false≢true (sym ht))
cut_by false false true x y z f hd ht ho = refl
cut_by false false false x y z f hd ht ho = absurd (false≢true ho)

free_by : {S : Type 0} (d : Bool) (x f : Turned S) → d ≡ false → cond d x f ≡ f
free_by true x f h = absurd (false≢true (sym h))
free_by false x f h = refl

-- a turn that is performed
performed_is : (p : Program) (stim : List ℕ) (limits : Limits) (now : Moment State) (move : Move State)
    → is_drained now.state.status ≡ false → now.header.turns < limits.turns → move_from p (sight_at (machine_of p) stim now) now.state now.state.status ≡ move
    → (performed (machine_of p) stim now move).after.header.written ≤ limits.output
    → turn_of (machine_of p) stim limits now ≡ performed (machine_of p) stim now move
performed_is p stim limits now move drained turns is fits =
    let m = machine_of p in
    let free : free_turn m stim now ≡ performed m stim now move = free_by (is_drained now.state.status) _ _ drained ∙ ap (performed m stim now) is in
    within_by (is_drained now.state.status) (nat_le limits.turns now.header.turns) (nat_lt limits.output (free_turn m stim now).after.header.written)
    _ _ _ (performed m stim now (move_from p (sight_at m stim now) now.state now.state.status))
    drained (lt-leb limits.turns now.header.turns turns)
    (ap (λ t. nat_lt limits.output t.after.header.written) free ∙ le-ltb limits.output (performed m stim now move).after.header.written fits)
    ∙ ap (performed m stim now) is

-- the turn of a running process, by its instruction
module _ (p : Program) (stim : List ℕ) (limits : Limits) (header : Header) (s : State) (instr : Instr) (turn : Turn)
    (runs : s.status ≡ running) (here : instruction p s ≡ Some instr) (turns : header.turns < limits.turns) where
  abbrev now : Moment State
  now = record { state = s; header = header }

  moves : (move : Move State) → perform (sight_at (machine_of p) stim now) s (Some instr) ≡ move → move_from p (sight_at (machine_of p) stim now) s s.status ≡ move
  moves move is = ap (move_from p (sight_at (machine_of p) stim now) s) runs ∙ ap (perform (sight_at (machine_of p) stim now) s) here ∙ is

  at_read : is_at_read s.status (instruction p s) ≡ is_at_read running (Some instr)
  at_read = ap₂ is_at_read runs here

  pub byte_seen : is_at_read running (Some instr) ≡ true → (sight_at (machine_of p) stim now).byte ≡ slice_get stim header.reads
  byte_seen h = ap (λ b. cond b (slice_get stim header.reads) None) (at_read ∙ h)

  pub goes : (after : State) (text : List ℕ) (save : Option SaveKind) → perform (sight_at (machine_of p) stim now) s (Some instr) ≡ go after text save
      → header.written + length text ≤ limits.output → IsChange (words_of p s) (words_of p after) turn.writes.items → turn.text ≡ text
      → turn.header ≡ counted header (cond (is_at_read running (Some instr)) 1 0) (length text) → turn.mark ≡ saved_mark save
      → Tells p s (turn_of (machine_of p) stim limits now) turn
  goes after text save is fits writes text_is header_is mark_is =
      subst (λ t. Tells p s t turn) (sym (performed_is p stim limits now (go after text save) (ap is_drained runs) turns (moves (go after text save) is) fits))
      (record { writes = writes; text = text_is; header = header_is ∙ ap (λ b. counted header (cond b 1 0) (length text)) (sym at_read); mark = mark_is })

  pub stops : (ending : Ending) → perform (sight_at (machine_of p) stim now) s (Some instr) ≡ stop ending
      → header.written ≤ limits.output → turn.writes.items ≡ [] → turn.text ≡ []
      → turn.header ≡ counted header (cond (is_at_read running (Some instr)) 1 0) 0 → turn.mark ≡ Ended ending
      → Tells p s (turn_of (machine_of p) stim limits now) turn
  stops ending is fits writes text_is header_is mark_is =
      subst (λ t. Tells p s t turn) (sym (performed_is p stim limits now (stop ending) (ap is_drained runs) turns (moves (stop ending) is) (omega (arith, fits))))
      (record { writes = nothing (words_of p s) turn.writes.items writes; text = text_is; header = header_is ∙ ap (λ b. counted header (cond b 1 0) 0) (sym at_read); mark = mark_is })

  -- what the turn would have written
  pub would_write : (after : State) (text : List ℕ) (save : Option SaveKind) → perform (sight_at (machine_of p) stim now) s (Some instr) ≡ go after text save
      → (free_turn (machine_of p) stim now).after.header.written ≡ header.written + length text
  would_write after text save is =
      ap (λ t. t.after.header.written)
      (free_by (is_drained s.status) _ _ (ap is_drained runs) ∙ ap (performed (machine_of p) stim now) (moves (go after text save) is))

-- a turn that the limit on output cuts off
pub cuts : (p : Program) (stim : List ℕ) (limits : Limits) (header : Header) (s : State) (turn : Turn) → is_drained s.status ≡ false → header.turns < limits.turns
    → limits.output < (free_turn (machine_of p) stim (record { state = s; header = header })).after.header.written
    → turn.writes.items ≡ [] → turn.text ≡ [] → turn.header ≡ record header { turns = header.turns + 1 } → turn.mark ≡ Ended Output
    → Tells p s (turn_of (machine_of p) stim limits (record { state = s; header = header })) turn
cuts p stim limits header s turn drained turns over writes text_is header_is mark_is =
    let m = machine_of p in
    let now : Moment State = record { state = s; header = header } in
    subst (λ t. Tells p s t turn)
    (sym (cut_by (is_drained s.status) (nat_le limits.turns header.turns) (nat_lt limits.output (free_turn m stim now).after.header.written)
    _ _ (cut_off now) (free_turn m stim now)
    drained (lt-leb limits.turns header.turns turns) (lt-ltb limits.output (free_turn m stim now).after.header.written over)))
    (record { writes = nothing (words_of p s) turn.writes.items writes; text = text_is; header = header_is; mark = mark_is })

-- what is told of the state that was read is the turn of the state that the words hold
pub told : (p : Program) (stim : List ℕ) (limits : Limits) (header : Header) (s read : State) (turn : Turn) → read ≡ s → IsWellFormed p → IsStimulus stim → IsSound p s
    → Tells p read (turn_of (machine_of p) stim limits (record { state = read; header = header })) turn
    → IsTurn p s (turn_of (machine_of p) stim limits (record { state = s; header = header })) turn
told p stim limits header s read turn same wf bytes sound tells =
    let here = subst (λ t. Tells p t (turn_of (machine_of p) stim limits (record { state = t; header = header })) turn) same tells in
    record {
      writes = here.writes;
      text = here.text;
      header = here.header;
      mark = here.mark;
      sound = turn_sound p stim limits (record { state = s; header = header }) wf bytes sound;
    }
