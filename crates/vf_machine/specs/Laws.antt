-- The laws of a run, over any machine. Each is the contract of a function of `laws`.
use Rattle.std.specs.Prelude.{◌≡◌, ℕ, suc, ◌<◌, ◌≤◌, true, false, List, [], length, take, IfSome, slice_get}
use Rattle.vf_base.specs.declared.run.Limits.{Limits}
use Rattle.vf_base.specs.declared.write.Write.{Write}
use Rattle.vf_machine.specs.Machine.{Machine, Sight, stops}
use Rattle.vf_machine.specs.Run.{moment_at, turn_at, mark_at, text_at, is_ending, is_limit}
use Rattle.vf_machine.specs.Writes.{IsChange, writes_page}
use Rattle.vf_machine.specs.Pages.{page_differs, pages_touched}
use Rattle.vf_machine.specs.Solo.{turns_before_end}

-- none of the first k turns ended the run by a limit
abbrev pub IsUnlimited : {S : Type 0} → Machine S → List ℕ → Limits → ℕ → Type 0
IsUnlimited m stim limits k = (j : ℕ) → j < k → is_limit (mark_at m stim limits j) ≡ false

-- two runs are the same for k turns: the moment after them, the bytes written in them, and the mark of each
pub record SameFor {S : Type 0} (m : Machine S) (a : List ℕ) (la : Limits) (b : List ℕ) (lb : Limits) (k : ℕ) : Type 0 where
  pub moment : moment_at m a la k ≡ moment_at m b lb k
  pub text : text_at m a la k ≡ text_at m b lb k
  pub marks : (j : ℕ) → j < k → mark_at m a la j ≡ mark_at m b lb j

-- The prefix law: runs on two stimuli that have n bytes in common are the same, whatever their limits, up to the turn
-- that makes read n + 1, as long as neither has ended by a limit.
abbrev pub PrefixLaw : {S : Type 0} → Machine S → Type 0
PrefixLaw m =
    (a b : List ℕ) (la lb : Limits) (n k : ℕ) → n ≤ length a → n ≤ length b → take n a ≡ take n b
    → IsUnlimited m a la k → IsUnlimited m b lb k → (moment_at m a la k).header.reads ≤ n → SameFor m a la b lb k

-- each run ends, within its limit on turns
pub record RunEnds {S : Type 0} (m : Machine S) (stim : List ℕ) (limits : Limits) : Type 0 where
  pub ending : is_ending (mark_at m stim limits (turns_before_end m stim limits)) ≡ true
  pub first : (k : ℕ) → k < turns_before_end m stim limits → is_ending (mark_at m stim limits k) ≡ false
  pub within : turns_before_end m stim limits ≤ limits.turns

-- an ending changes no state and writes nothing
pub record EndingIsStill {S : Type 0} (m : Machine S) (stim : List ℕ) (limits : Limits) (k : ℕ) : Type 0 where
  pub state : (moment_at m stim limits (suc k)).state ≡ (moment_at m stim limits k).state
  pub text : (turn_at m stim limits k).text ≡ []

-- an event is left, and the turn by itself ends no run
pub record GoesOn {S : Type 0} (m : Machine S) (sight : Sight) (s : S) : Type 0 where
  pub event : m.drained s ≡ false
  pub move : stops (m.move sight s) ≡ false

-- a stimulus is bytes
abbrev pub IsStimulus : List ℕ → Type 0
IsStimulus stim = (at : ℕ) → IfSome (slice_get stim at) (λ byte. byte < 256)

-- the pages that a change touches are those of its writes
abbrev pub ChangedPages : Type 0
ChangedPages =
    (before after : List ℕ) (writes : List Write) (page : ℕ) → IsChange before after writes → page_differs before after page ≡ writes_page writes page

-- a run that goes on never has fewer touched pages
abbrev pub TouchedPagesGrow : {S : Type 0} → Machine S → Type 0
TouchedPagesGrow m =
    (stim : List ℕ) (limits : Limits) (j k : ℕ) → j ≤ k → pages_touched m stim limits j ≤ pages_touched m stim limits k
