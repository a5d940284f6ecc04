-- The solo run: what becomes of a machine on a stimulus, from time zero to its end, with nothing shared.
use Rattle.std.specs.Prelude.{ℕ, ◌+◌, ◌-◌, List, Option, Some, None, nat_lt, unwrap_or}
use Rattle.vf_base.specs.declared.run.Limits.{Limits}
use Rattle.vf_base.specs.declared.run.Ending.{Ending}
use Rattle.vf_base.specs.declared.run.Ending.TheVariants.{Drained}
use Rattle.vf_base.specs.declared.run.Outcome.{Outcome}
use Rattle.vf_base.specs.declared.run.Outcome.TheVariants.{Done, Pages}
use Rattle.vf_machine.specs.declared.mark.Mark.{Mark}
use Rattle.vf_machine.specs.declared.mark.Mark.TheVariants.{Plain, Saved, Ended}
use Rattle.vf_machine.specs.Machine.{Machine}
use Rattle.vf_machine.specs.Search.{first}
use Rattle.vf_machine.specs.Run.{mark_at, text_at, turn_at, is_ending}
use Rattle.vf_machine.specs.Pages.{pages_touched}

-- the ending that a mark tells; a mark that is none tells no other than Drained, and none is asked for it
abbrev pub ending_of : Mark → Ending
ending_of Plain = Drained
ending_of (Saved kind) = Drained
ending_of (Ended ending) = ending

-- How many turns come before the first ending. The limit on turns ends each run: the law RunEnds.
abbrev pub turns_before_end : {S : Type 0} → Machine S → List ℕ → Limits → ℕ
turns_before_end m stim limits =
    unwrap_or (first (λ k. is_ending (mark_at m stim limits k)) (limits.turns + 1)) limits.turns

-- the least number of turns that touch more pages than the budget, among those up to the ending
abbrev pub passing_turn : {S : Type 0} → Machine S → List ℕ → Limits → ℕ → Option ℕ
passing_turn m stim limits budget =
    first (λ k. nat_lt budget (pages_touched m stim limits k)) (turns_before_end m stim limits + 1)

-- what becomes of a run that passes the budget with so many turns, or that ends after so many
abbrev pub outcome_at : {S : Type 0} → Machine S → List ℕ → Limits → Option ℕ → ℕ → Outcome
outcome_at m stim limits (Some k) end = Pages (pages_touched m stim limits k)
outcome_at m stim limits None end =
    Done (ending_of (mark_at m stim limits end)) (text_at m stim limits end) (turn_at m stim limits end).after.header.turns

-- The outcome of the solo run: the pages touched with the first turn that passes the budget; where none does, the
-- first ending, all bytes written before it, and the turns counted with it.
abbrev pub solo : {S : Type 0} → Machine S → List ℕ → Limits → ℕ → Outcome
solo m stim limits budget = outcome_at m stim limits (passing_turn m stim limits budget) (turns_before_end m stim limits)

abbrev pub performed_at : {S : Type 0} → Machine S → List ℕ → Limits → Option ℕ → ℕ → ℕ
performed_at m stim limits (Some k) end = k - 1
performed_at m stim limits None end = (turn_at m stim limits end).after.header.turns

-- How many turns the solo run performs: those before the one that passes the budget, or those counted with the ending.
abbrev pub solo_turns : {S : Type 0} → Machine S → List ℕ → Limits → ℕ → ℕ
solo_turns m stim limits budget = performed_at m stim limits (passing_turn m stim limits budget) (turns_before_end m stim limits)
