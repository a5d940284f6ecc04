-- A patch over words holds a state, and another one after it is written.
use Rattle.std.proofs.Common.{◌≡◌, ℕ, List, length, sym, ◌∙◌, ap, slice_index}
use Rattle.vf_base.specs.declared.write.Write.{Write}
use Rattle.vf_machine.specs.Writes.{written}
use Rattle.vf_machine.proofs.CallerLemmas.{length-written}
use Rattle.vf_elaborated.specs.Elaborated.{Elaborated}
use Rattle.vf_elaborated.specs.Addresses.{TIME, word_count}
use Rattle.vf_scheduler.specs.State.{State}
use Rattle.vf_scheduler.specs.Words.{words_of}
use Rattle.vf_layout.specs.Addresses.{HasShape}
use Rattle.vf_layout.proofs.CallerLemmas.{words_standing}
use Rattle.vf_queue.specs.Writing.{Writes}
use Rattle.vf_queue.specs.Holding.{Holds}

-- there are as many words as the design says
pub long : (d : Elaborated) (base : List ℕ) (patch : List Write) (s : State) → HasShape d s → Holds d base patch s → length base ≡ word_count d
long d base patch s shape h = sym (length-written base patch) ∙ (ap length h.words ∙ (words_standing d s shape).long)

pub held_by : (d : Elaborated) (base : List ℕ) (change : List ℕ → List ℕ) (old new : List Write) (s next : State) → Writes base change old new
    → Holds d base old s → words_of d next ≡ change (words_of d s) → Holds d base new next
held_by d base change old new s next w h is = record { words = w.words ∙ (ap change h.words ∙ sym is); inside = w.inside h.inside }

-- the time
pub time_read : (d : Elaborated) (base : List ℕ) (patch : List Write) (s : State) → HasShape d s → Holds d base patch s → slice_index (written base patch) TIME ≡ s.time
time_read d base patch s shape h = ap (λ words. slice_index words TIME) h.words ∙ (words_standing d s shape).front.time
