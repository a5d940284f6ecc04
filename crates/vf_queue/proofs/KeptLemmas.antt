-- What a state in the middle of an operation keeps, and how its lists end.
use Rattle.std.proofs.Common.{◌≡◌, ◌≢◌, ℕ, ◌+◌, ◌≤◌, true, List, [], ◌∷◌, refl, ◌∙◌, ap, ap₂, arith, if◌then◌else◌, nat_lt, slice_index}
use Rattle.std.proofs.lemmas.List.{length-set, get_or-set_other}
use Rattle.std.proofs.lemmas.Bool.{false≢true}
use Rattle.vf_elaborated.specs.Elaborated.{Elaborated}
use Rattle.vf_scheduler.specs.State.{State, Status, Thread, Item, of_process, of_slot, no_thread, leaves}
use Rattle.vf_scheduler.specs.Posting.{time_of, time_in, put_by_time}
use Rattle.vf_scheduler.specs.Sound.{times}
use Rattle.vf_scheduler.specs.Words.{link, head, tail, numbers, words_of}
use Rattle.vf_scheduler.proofs.CallerLemmas.{times-append, times_here}
use Rattle.vf_layout.specs.Standing.{EndsStand}
use Rattle.vf_layout.specs.Regions.{Region, ActiveRegion, InactiveRegion, NonblockingRegion, FutureRegion, StrobeRegion, list_in, head_at, has_tail, HasLink, number}
use Rattle.vf_layout.specs.Laws.{IsWritten}
use Rattle.vf_layout.proofs.CallerLemmas.{words_standing, numbered_below, has_link}
use Rattle.vf_queue.specs.Writing.{HasTail, Leads}
use Rattle.vf_queue.proofs.FutureLemmas.{last_of}

-- ---- how a list ends

module _ (d : Elaborated) (s : State) (has : IsWritten d s) where
  ends_stand : (r : Region) → has_tail r ≡ true → EndsStand (words_of d s) (head_at r) (numbers d s (list_in r s))
  ends_stand ActiveRegion tailed = (words_standing d s has.shape).front.active
  ends_stand InactiveRegion tailed = (words_standing d s has.shape).front.inactive
  ends_stand NonblockingRegion tailed = (words_standing d s has.shape).front.nonblocking
  ends_stand FutureRegion tailed = absurd (false≢true tailed)
  ends_stand StrobeRegion tailed = (words_standing d s has.shape).front.strobes

  -- the tail of a list leads to its last event
  pub tail_leads : (r : Region) → has_tail r ≡ true → HasTail d (head_at r) (words_of d s)
  tail_leads r tailed some = by (list_in r s) refl
    where
      by : (list : List Item) → list_in r s ≡ list → Leads d (slice_index (words_of d s) (head_at r + 1))
      by [] is = absurd (some ((ends_stand r tailed).head_is ∙ ap (λ list. link (head (numbers d s list))) is))
      by (x ∷ list) is =
          let end = last_of d s 0 x list in
          let linked = has_link d s has.queued r end.other (x ∷ list) is (omega (arith, ap (times end.other) end.is, times-append end.other end.before (end.other ∷ []), times_here end.other [])) in
          record {
            to = number d end.other;
            below = numbered_below d s has.queued r end.other linked;
            is = (ends_stand r tailed).tail_is ∙ (ap (λ list. link (tail (numbers d s list))) is ∙ ap link end.numbered);
          }

-- ---- a process leaves

module _ (d : Elaborated) (s : State) (p place : ℕ) (status : Status) where
  left_linked : (item : Item) → HasLink d s item → HasLink d (leaves p place status s) item
  left_linked (of_process q) has = has
  left_linked (of_slot q) has = has

  pub left_written : IsWritten d s → IsWritten d (leaves p place status s)
  left_written has = record {
    shape = record {
      threads = length-set s.threads p (record { place = place; status = status }) ∙ has.shape.threads;
      values = has.shape.values;
      drivers = has.shape.drivers;
      slots = has.shape.slots;
    };
    queued = record { once = has.queued.once; linked = λ item stands. left_linked item (has.queued.linked item stands) };
  }

  -- the time of every other event stays
  pub left_times : (item : Item) → item ≢ of_process p → time_of (leaves p place status s) item ≡ time_of s item
  left_times (of_process q) other =
      ap (λ (t : Thread). time_in t.status) (get_or-set_other s.threads p q (record { place = place; status = status }) no_thread (λ same. other (ap of_process same)))
  left_times (of_slot q) other = refl

-- ---- times that are the same for the events of a list

pub put_same : (one two : Item → ℕ) (at : ℕ) (item : Item) (list : List Item) → ((x : Item) → 1 ≤ times x list → one x ≡ two x)
    → put_by_time one at item list ≡ put_by_time two at item list
put_same one two at item [] same = refl
put_same one two at item (x ∷ list) same =
    ap₂ (λ t put. if nat_lt at t then item ∷ x ∷ list else x ∷ put) (same x (omega (arith, times_here x list)))
    (put_same one two at item list (λ y stands. same y (omega (arith, stands))))
