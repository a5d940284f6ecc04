-- A run as a table: the words that each turn changes, the bytes that it writes, and its mark.
use Rattle.std.specs.Prelude.{ℕ, zero, suc, ◌+◌, ◌==◌, Bool, true, false, List, [], ◌∷◌, length, None, slice_get, nat_lt, if◌then◌else◌}
use Rattle.vf_base.specs.declared.run.Ending.TheVariants.{Drained}
use Rattle.vf_machine.specs.declared.mark.Mark.{Mark}
use Rattle.vf_machine.specs.declared.mark.Mark.TheVariants.{Ended}
use Rattle.vf_machine.specs.Machine.{Move, go, stop, Sight}
use Rattle.vf_machine.specs.Run.{saved_mark}
use Rattle.vf_elaborated.specs.Elaborated.{Elaborated}
use Rattle.vf_scheduler.specs.State.{State}
use Rattle.vf_scheduler.specs.Turning.{turn_of, start}
use Rattle.vf_scheduler.specs.Seeing.{is_drained, is_at_read}
use Rattle.vf_scheduler.specs.Words.{words_of}

-- the changed words by address
pub record Row : Type 0 where
  pub words : List (ℕ × ℕ)
  pub text : List ℕ
  pub mark : Mark

-- the words that are not as before, from an address on
abbrev pub changes : ℕ → List ℕ → List ℕ → List (ℕ × ℕ)
changes at (v ∷ before) (w ∷ after) = if v == w then changes (at + 1) before after else (at, w) ∷ changes (at + 1) before after
changes at _ _ = []

-- the words that are not 0
abbrev pub not_zero : ℕ → List ℕ → List (ℕ × ℕ)
not_zero at [] = []
not_zero at (w ∷ words) = if w == 0 then not_zero (at + 1) words else (at, w) ∷ not_zero (at + 1) words

-- how many words a state at time zero has, and which are not 0
abbrev pub at_zero : Elaborated → ℕ × List (ℕ × ℕ)
at_zero d = (length (words_of d (start d)), not_zero 0 (words_of d (start d)))

abbrev pub sight_at : Elaborated → List ℕ → State → ℕ → Bool → Sight
sight_at d stim s reads past_end = record {
  byte = if is_at_read d past_end s then slice_get stim reads else None;
  past_end = past_end;
}

abbrev pub reads_after : Elaborated → State → ℕ → Bool → ℕ
reads_after d s reads past_end = if is_at_read d past_end s then reads + 1 else reads

-- the row of a turn before those that follow it; a turn that ends the run is the last
abbrev pub turned : Elaborated → State → (State → List Row) → Move State → List Row
turned d s more (go after text save) =
    record { words = changes 0 (words_of d s) (words_of d after); text = text; mark = saved_mark save } ∷ more after
turned d s more (stop ending) = record { words = []; text = []; mark = Ended ending } ∷ []

abbrev pub drained_or : Bool → List Row → List Row
drained_or true more = record { words = []; text = []; mark = Ended Drained } ∷ []
drained_or false more = more

-- whether a read has gone past the end
abbrev pub is_past : List ℕ → ℕ → Bool
is_past stim reads = nat_lt (length stim) reads

-- the rows of at most n turns from a state on, after so many reads
unfoldable pub rows_from : Elaborated → List ℕ → ℕ → State → ℕ → List Row
rows_from d stim zero s reads = []
rows_from d stim (suc n) s reads =
    drained_or (is_drained s)
    (turned d s (λ after. rows_from d stim n after (reads_after d s reads (is_past stim reads))) (turn_of d (sight_at d stim s reads (is_past stim reads)) s))

-- the rows of a run
abbrev pub rows : Elaborated → List ℕ → ℕ → List Row
rows d stim n = rows_from d stim n (start d) 0
