-- Each word of a state stands at its address.
use Rattle.std.proofs.Common.{◌≡◌, ℕ, ◌+◌, ◌-◌, ◌*◌, ◌/◌, ◌<◌, ◌≤◌, List, [], ◌++◌, length, take, replicate, refl, sym, ◌∙◌, ap, subst, arith, slice_index, slice_index_or, sum_by, if◌then◌else◌}
use Rattle.std.proofs.lemmas.List.{length-append, length-replicate, length-map, set-get_or}
use Rattle.vf_base.specs.declared.write.TheConstants.{PAGE_WORDS}
use Rattle.vf_elaborated.specs.Elaborated.{Elaborated}
use Rattle.vf_elaborated.specs.Layout.{value_size, signals_begin}
use Rattle.vf_elaborated.specs.Addresses.{has_wide, thread_at, driver_at, slot_at, word_count}
use Rattle.vf_elaborated.proofs.CallerLemmas.{thread_inside, slots_end, slot_inside}
use Rattle.vf_scheduler.specs.State.{State, no_thread, thread_of, Free}
use Rattle.vf_scheduler.specs.Sound.{slot_of}
use Rattle.vf_scheduler.specs.Words.{front_words, thread_words, slot_words, filled, link_of, words_of}
use Rattle.vf_layout.specs.Puts.{put_all, StandsAt}
use Rattle.vf_layout.specs.Addresses.{HasShape}
use Rattle.vf_layout.specs.Standing.{FrontStands, ThreadStands, Stands}
use Rattle.vf_layout.specs.Laws.{WordsStand}
use Rattle.vf_layout.proofs.PutLemmas.{put_all_over, put_all_read}
use Rattle.vf_layout.proofs.Parts.{own_words, values_length, threads_length}
use Rattle.vf_layout.proofs.Blocks.{place_within}
use Rattle.vf_layout.proofs.Image.{slot_length, slots_length, drivers_length, threads_in, values_in, drivers_in, slots_in, image, thread_changed, slot_changed}
use Rattle.vf_layout.proofs.ValueImage.{driver_changed}
use Rattle.vf_layout.proofs.Holding as holding

-- words that a list may be written over with no change hold the list
pub stands_by : (words list : List ℕ) (at : ℕ) → words ≡ put_all at list words → at + length list ≤ length words → StandsAt words at list
stands_by words list at same within = subst (λ left. StandsAt left at list) (sym same) (put_all_read at list words within)

pages_long : (n : ℕ) → n + (64 * ((n + 63) / 64) - n) ≡ 64 * ((n + 63) / 64)
pages_long n = omega arith

filled_length : (words : List ℕ) → length (filled words) ≡ PAGE_WORDS * ((length words + (PAGE_WORDS - 1)) / PAGE_WORDS)
filled_length words =
    let long = length words in
    length-append words (replicate (PAGE_WORDS * ((long + (PAGE_WORDS - 1)) / PAGE_WORDS) - long) 0)
    ∙ ap (λ n. long + n) (length-replicate (PAGE_WORDS * ((long + (PAGE_WORDS - 1)) / PAGE_WORDS) - long) 0) ∙ pages_long long

module _ (d : Elaborated) (front : List ℕ) (long : length front ≡ 16) (links : ℕ → ℕ) (s : State) (shape : HasShape d s) where
  used_long : length (front ++ (threads_in links s ++ (values_in s ++ (drivers_in s ++ slots_in d links s)))) ≡ slot_at d d.slots
  unfolding slot_at
  used_long =
      let threads = threads_in links s in
      let values = values_in s in
      let drivers = drivers_in s in
      let slots = slots_in d links s in
      let sizes = drivers_length s.drivers ∙ ap (λ widths. sum_by value_size widths) shape.drivers in
      let entries = slots_length (has_wide d) links (length d.processes) s.slots ∙ ap (λ n. (if has_wide d then 10 else 8) * n) shape.slots in
      omega (
        arith,
        long,
        length-append front (threads ++ (values ++ (drivers ++ slots))),
        length-append threads (values ++ (drivers ++ slots)),
        length-append values (drivers ++ slots),
        length-append drivers slots,
        threads_length links 0 s.threads,
        shape.threads,
        values_length (signals_begin d) d.signals s.values shape.values,
        sizes,
        entries,
      )

  pub image_length : length (image d front links s) ≡ word_count d
  unfolding word_count
  image_length =
      filled_length (front ++ (threads_in links s ++ (values_in s ++ (drivers_in s ++ slots_in d links s))))
      ∙ ap (λ n. PAGE_WORDS * ((n + (PAGE_WORDS - 1)) / PAGE_WORDS)) used_long

-- ---- addresses are inside

driver_inside : (d : Elaborated) (s : State) (driver : ℕ) → HasShape d s → driver < length s.drivers
    → driver_at d driver + length (own_words (slice_index_or s.drivers driver [])) ≤ word_count d
unfolding slot_at driver_at
driver_inside d s driver shape below =
    let ends = slots_end d in
    let within = place_within s.drivers driver below in
    let sizes = drivers_length s.drivers ∙ ap (λ widths. sum_by value_size widths) shape.drivers in
    let same = ap (λ widths. sum_by value_size (take driver widths)) shape.drivers in
    omega (arith, ends, within, sizes, same)

-- ---- a state

module _ (d : Elaborated) (s : State) (shape : HasShape d s) where
  front_stands : FrontStands d s (words_of d s)
  unfolding words_of
  front_stands = record {
    time = refl;
    running = refl;
    active = record { head_is = refl; tail_is = refl };
    inactive = record { head_is = refl; tail_is = refl };
    nonblocking = record { head_is = refl; tail_is = refl };
    future = refl;
    strobes = record { head_is = refl; tail_is = refl };
    monitor = refl;
    due = refl;
  }

  pub long : length (words_of d s) ≡ word_count d
  unfolding words_of
  long = image_length d (front_words d s) refl (link_of d s) s shape

  thread_same : (p : ℕ) → p < length d.processes → words_of d s ≡ put_all (thread_at p + 0) (thread_words (link_of d s) (p, thread_of s p)) (words_of d s)
  unfolding words_of
  thread_same p below =
      ap (λ threads. image d (front_words d s) (link_of d s) (record s { threads = threads })) (sym (set-get_or s.threads p no_thread))
      ∙ thread_changed d (front_words d s) refl s shape (link_of d s) (link_of d s) p (thread_of s p) 0 (thread_words (link_of d s) (p, thread_of s p)) below
      (λ m other. refl) refl (omega arith)

  pub thread_stands : (p : ℕ) → p < length d.processes → ThreadStands d s (words_of d s) p
  thread_stands p below =
      let inside = thread_inside d p below in
      let all = stands_by (words_of d s) (thread_words (link_of d s) (p, thread_of s p)) (thread_at p + 0) (thread_same p below) (omega (arith, inside, long)) in
      record {
        place = ap (slice_index (words_of d s)) (omega arith) ∙ all 0 (omega arith);
        status = ap (slice_index (words_of d s)) (omega arith) ∙ all 1 (omega arith);
        link_is = ap (slice_index (words_of d s)) (omega arith) ∙ all 2 (omega arith);
        time = ap (slice_index (words_of d s)) (omega arith) ∙ all 3 (omega arith);
      }

  slot_same : (q : ℕ) → q < d.slots
      → words_of d s ≡ put_all (slot_at d q + 0) (slot_words (has_wide d) (link_of d s) (length d.processes + q, slot_of s q)) (words_of d s)
  unfolding words_of
  slot_same q below =
      let own = slot_words (has_wide d) (link_of d s) (length d.processes + q, slot_of s q) in
      ap (λ slots. image d (front_words d s) (link_of d s) (record s { slots = slots })) (sym (set-get_or s.slots q Free))
      ∙ slot_changed d (front_words d s) refl s shape (link_of d s) (link_of d s) q (slot_of s q) 0 own below (λ m other. refl) (sym (put_all_over own own refl))
      (omega (arith, slot_length (has_wide d) (link_of d s) (length d.processes + q) (slot_of s q)))

  pub slot_stands : (q : ℕ) → q < d.slots → StandsAt (words_of d s) (slot_at d q) (slot_words (has_wide d) (link_of d s) (length d.processes + q, slot_of s q))
  slot_stands q below =
      let own = slot_words (has_wide d) (link_of d s) (length d.processes + q, slot_of s q) in
      let here : slot_at d q + 0 ≡ slot_at d q = omega arith in
      let size = slot_length (has_wide d) (link_of d s) (length d.processes + q) (slot_of s q) in
      stands_by (words_of d s) own (slot_at d q) (slot_same q below ∙ ap (λ at. put_all at own (words_of d s)) here)
      (omega (arith, slot_inside d q below, size, long))

  driver_same : (driver : ℕ) → driver < length s.drivers → words_of d s ≡ put_all (driver_at d driver) (own_words (slice_index_or s.drivers driver [])) (words_of d s)
  unfolding words_of
  driver_same driver below =
      ap (λ drivers. image d (front_words d s) (link_of d s) (record s { drivers = drivers })) (sym (set-get_or s.drivers driver []))
      ∙ driver_changed d (front_words d s) refl s shape (link_of d s) driver (slice_index_or s.drivers driver []) below refl

  pub standing : Stands d s (words_of d s)
  standing = record {
    long = long;
    front = front_stands;
    threads = thread_stands;
    values = λ sig element is. (holding.stands d s shape.threads shape.values sig element is).stands;
    drivers = λ driver below.
        let inside : driver < length s.drivers = omega (arith, below, length-map s.drivers length, ap length shape.drivers) in
        stands_by (words_of d s) (own_words (slice_index_or s.drivers driver [])) (driver_at d driver) (driver_same driver inside)
        (omega (arith, driver_inside d s driver shape inside, long));
    slots = slot_stands;
  }

pub words_standing : WordsStand
words_standing d s shape = standing d s shape
