-- Worked farms, in which each step of the rules is computed: what follows from an entry, which job starts next and from where, and which
-- image goes first. What the runs come to stands in a table.
use Rattle.std.proofs.Common.{◌≡◌, ℕ, Bool, true, false, List, [], ◌∷◌, ◌++◌, Option, Some, None, option_map, refl}
use Rattle.vf_base.specs.declared.names.Job.{Job}
use Rattle.vf_base.specs.declared.names.Job.TheVariants.{Reach, Finish}
use Rattle.vf_base.specs.declared.names.NodeNo.{NodeNo}
use Rattle.vf_base.specs.declared.run.Ending.TheVariants as endings
use Rattle.vf_base.specs.declared.run.Limits.{Limits}
use Rattle.vf_base.specs.declared.run.Outcome.TheVariants as outcomes
use Rattle.vf_machine.specs.Machine.{Machine, stop}
use Rattle.vf_plan.specs.declared.plan.Node.{Node}
use Rattle.vf_plan.specs.Paths.{grown_after}
use Rattle.vf_jobs.specs.declared.setup.Order.{Order}
use Rattle.vf_jobs.specs.declared.setup.Order.TheVariants.{Oldest, Deepest, Widest}
use Rattle.vf_jobs.specs.Jobs.{jobs_from, node_no}
use Rattle.vf_jobs.specs.Limits.{greatest_from}
use Rattle.vf_journal.specs.declared.entry.Entry.{Entry}
use Rattle.vf_journal.specs.declared.entry.Entry.TheVariants.{Start, Saved, Pass, End, Copy, Evict, Retire}
use Rattle.vf_journal.specs.declared.entry.JobState.TheVariants.{Waiting, Over}
use Rattle.vf_journal.specs.Farm.{Farm}
use Rattle.vf_journal.specs.Records.{Held, at_first, state_of}
use Rattle.vf_journal.specs.Effects.{Seen, origin_of, consequences}
use Rattle.vf_journal.specs.Journal.{replay, first_ready, next_evicted}

-- no rule looks into the machine
nothing : Machine (Unit {0})
nothing = record { start = tt; drained = λ s. true; at_read = λ past_end s. false; move = λ sight s. stop endings.Drained; words = λ s. [] }

given : Limits
given = record { turns = 1000000; output = 65536 }

node : Option ℕ → Bool → Option ℕ → Node
node parent test turns = record { name = []; parent = option_map node_no parent; segment = []; test = test; expect = None; turns = turns; output = None }

farm : Order → List Node → Farm (Unit {0})
farm order nodes = record { machine = nothing; given = given; budget = 1; order = order; nodes = nodes }

-- images have counted the turn at which they were saved, and each job's run ends after 7 turns
seen : Seen
seen = record {
  counts = λ h. record { turns = h.turn; reads = 0; written = 5 };
  ending = λ job. record { turns = 7; reads = 0; written = 0 };
  outcome = λ job. outcomes.Done endings.Drained [] 7;
}

reach : ℕ → Job
reach n = Reach (node_no n)

finish : ℕ → Job
finish n = Finish (node_no n)

boot : Option NodeNo
boot = Some (node_no 0)

-- ---- a boot and two tests below it

pair : Option ℕ → Farm (Unit {0})
pair turns = farm Oldest (node None false None ∷ node (Some 0) true None ∷ node (Some 0) true turns ∷ [])

booted : List Entry
booted = Start (reach 0) None ∷ Saved (node_no 0) 26 1 None ∷ []

first_starts : first_ready (pair None) at_first ≡ Some (reach 0)
unfolding nothing given node farm seen reach finish boot pair booted grown_after jobs_from greatest_from replay
first_starts = refl

then_waits : state_of (pair None) at_first (finish 1) ≡ Waiting
unfolding nothing given node farm seen reach finish boot pair booted grown_after jobs_from greatest_from replay
then_waits = refl

test_starts : first_ready (pair None) (replay (pair None) seen at_first booted) ≡ Some (finish 1)
unfolding nothing given node farm seen reach finish boot pair booted grown_after jobs_from greatest_from replay
test_starts = refl

test_from_boot : origin_of (pair None) seen (replay (pair None) seen at_first booted) (finish 1) ≡ boot
unfolding nothing given node farm seen reach finish boot pair booted grown_after jobs_from greatest_from replay
test_from_boot = refl

-- a test with a limit of 20 turns does not start from an image at turn 26
short_test_from_zero : origin_of (pair (Some 20)) seen (replay (pair (Some 20)) seen at_first booted) (finish 2) ≡ None
unfolding nothing given node farm seen reach finish boot pair booted grown_after jobs_from greatest_from replay
short_test_from_zero = refl

one_tested : List Entry
one_tested = booted ++ Start (finish 1) boot ∷ End (finish 1) 41 ∷ Start (finish 2) boot ∷ []

kept_for_the_other : consequences (pair None) seen (replay (pair None) seen at_first (booted ++ Start (finish 1) boot ∷ [])) (End (finish 1) 41) ≡ []
unfolding nothing given node farm seen reach finish boot pair booted one_tested grown_after jobs_from greatest_from replay
kept_for_the_other = refl

retired_with_the_last : consequences (pair None) seen (replay (pair None) seen at_first one_tested) (End (finish 2) 41) ≡ Retire (node_no 0) ∷ []
unfolding nothing given node farm seen reach finish boot pair booted one_tested grown_after jobs_from greatest_from replay
retired_with_the_last = refl

-- ---- a boot that ends the run

ends_for_both : consequences (pair None) seen (replay (pair None) seen at_first (Start (reach 0) None ∷ [])) (End (reach 0) 7) ≡ Copy (finish 1) (node_no 0) ∷ Copy (finish 2) (node_no 0) ∷ []
unfolding nothing given node farm seen reach finish boot pair booted grown_after jobs_from greatest_from replay
ends_for_both = refl

-- a test with a limit of 5 turns is not copied from an ending after 7, and is ready
ends_for_one : consequences (pair (Some 5)) seen (replay (pair (Some 5)) seen at_first (Start (reach 0) None ∷ [])) (End (reach 0) 7) ≡ Copy (finish 1) (node_no 0) ∷ []
unfolding nothing given node farm seen reach finish boot pair booted grown_after jobs_from greatest_from replay
ends_for_one = refl

ended : List Entry
ended = Start (reach 0) None ∷ End (reach 0) 7 ∷ Copy (finish 1) (node_no 0) ∷ []

copied_is_over : state_of (pair (Some 5)) (replay (pair (Some 5)) seen at_first ended) (finish 1) ≡ Over
unfolding nothing given node farm seen reach finish boot pair booted ended grown_after jobs_from greatest_from replay
copied_is_over = refl

other_is_ready : first_ready (pair (Some 5)) (replay (pair (Some 5)) seen at_first ended) ≡ Some (finish 2)
unfolding nothing given node farm seen reach finish boot pair booted ended grown_after jobs_from greatest_from replay
other_is_ready = refl

-- a boot that is passed has no image
passed_from_zero : origin_of (pair None) seen (replay (pair None) seen at_first (Start (reach 0) None ∷ Pass (node_no 0) 10 ∷ [])) (finish 1) ≡ None
unfolding nothing given node farm seen reach finish boot pair booted grown_after jobs_from greatest_from replay
passed_from_zero = refl

-- ---- a chain of four, of which the second and the last are tests

chain : Order → Farm (Unit {0})
chain order = farm order (node None false None ∷ node (Some 0) true None ∷ node (Some 1) false None ∷ node (Some 2) true None ∷ [])

-- the second is saved after the first, which is held or not
two_saved : List Entry
two_saved = Start (reach 0) None ∷ Saved (node_no 0) 11 3 None ∷ Start (reach 1) boot ∷ Saved (node_no 1) 22 1 None ∷ []

one_saved : List Entry
one_saved = Start (reach 0) None ∷ Saved (node_no 0) 11 3 None ∷ Start (reach 1) boot ∷ Evict (node_no 0) ∷ Saved (node_no 1) 22 1 None ∷ []

inner_test_first : first_ready (chain Oldest) (replay (chain Oldest) seen at_first one_saved) ≡ Some (finish 1)
unfolding nothing given node farm seen reach finish boot chain one_saved grown_after jobs_from greatest_from replay
inner_test_first = refl

nearest_image : origin_of (chain Oldest) seen (replay (chain Oldest) seen at_first two_saved) (reach 2) ≡ Some (node_no 1)
unfolding nothing given node farm seen reach finish boot chain two_saved grown_after jobs_from greatest_from replay
nearest_image = refl

evicted_is_gone : origin_of (chain Oldest) seen (replay (chain Oldest) seen at_first (one_saved ++ Start (finish 1) (Some (node_no 1)) ∷ Evict (node_no 1) ∷ End (finish 1) 26 ∷ [])) (reach 2) ≡ None
unfolding nothing given node farm seen reach finish boot chain one_saved grown_after jobs_from greatest_from replay
evicted_is_gone = refl

-- the three orders choose differently
evicts : Order → Option NodeNo
evicts order = option_map (λ (h : Held). h.node) (next_evicted (chain order) (replay (chain order) seen at_first two_saved))

oldest_first : evicts Oldest ≡ Some (node_no 0)
unfolding nothing given node farm seen reach finish boot chain two_saved evicts grown_after jobs_from greatest_from replay
oldest_first = refl

deepest_first : evicts Deepest ≡ Some (node_no 1)
unfolding nothing given node farm seen reach finish boot chain two_saved evicts grown_after jobs_from greatest_from replay
deepest_first = refl

widest_first : evicts Widest ≡ Some (node_no 0)
unfolding nothing given node farm seen reach finish boot chain two_saved evicts grown_after jobs_from greatest_from replay
widest_first = refl

-- a base is pinned while an image on it is held
based : List Entry
based = Start (reach 0) None ∷ Saved (node_no 0) 11 3 None ∷ Start (reach 1) boot ∷ Saved (node_no 1) 22 1 boot ∷ []

base_stays : option_map (λ (h : Held). h.node) (next_evicted (chain Oldest) (replay (chain Oldest) seen at_first based)) ≡ Some (node_no 1)
unfolding nothing given node farm seen reach finish boot chain based grown_after jobs_from greatest_from replay
base_stays = refl
