-- What a change of one part of a state writes into its words.
use Rattle.std.proofs.Common.{◌≡◌, ℕ, suc, ◌+◌, ◌<◌, ◌≤◌, Bool, true, false, if◌then◌else◌, List, [], ◌∷◌, length, refl, sym, ◌∙◌, ap, arith, slice_index, slice_index_or, slice_set}
use Rattle.std.proofs.lemmas.List.{set-get_or, get_or-set_other, length-map, get_or-map}
use Rattle.vf_elaborated.specs.Elaborated.{Elaborated}
use Rattle.vf_elaborated.specs.Addresses.{has_wide, thread_at, slot_at}
use Rattle.vf_scheduler.specs.State.{State, Thread, thread_of, put_thread, Update, Later, Due}
use Rattle.vf_scheduler.specs.Posting.{put_slot, time_in}
use Rattle.vf_scheduler.specs.Sound.{slot_of}
use Rattle.vf_scheduler.specs.Words.{front_words, status_word, thread_words, slot_words, link_of, words_of}
use Rattle.vf_layout.specs.Addresses.{HasShape}
use Rattle.vf_layout.specs.Puts.{put_all}
use Rattle.vf_layout.specs.Changes.{ThreadChanges, ValueChanges, DriverChanges, SlotChanges, UpdateComes}
use Rattle.vf_layout.specs.Laws.{FrontIsWritten, ChangesAreWritten}
use Rattle.vf_layout.proofs.PutLemmas.{put_all_over}
use Rattle.vf_layout.proofs.Image.{slot_length, thread_changed, slot_changed}
use Rattle.vf_layout.proofs.ValueImage.{value_changed, driver_changed}
use Rattle.vf_layout.proofs.StandingLemmas.{thread_stands, slot_stands}

pub front_written : FrontIsWritten
unfolding words_of
front_written d s = record { time = λ time. refl; running = λ running. refl; monitor = λ monitor. refl; due = λ due. refl }

-- a word that is written as it is, between others
third_stays : (words : List ℕ) (at a b c e : ℕ) → slice_index words (at + 2) ≡ c
    → put_all at (a ∷ b ∷ c ∷ e ∷ []) words ≡ slice_set (slice_set (slice_set words at a) (at + 1) b) (at + 3) e
third_stays words at a b c e is =
    let one : suc at ≡ at + 1 = omega arith in
    let two : suc (suc at) ≡ at + 2 = omega arith in
    let three : suc (suc (suc at)) ≡ at + 3 = omega arith in
    let first = slice_set (slice_set words at a) (at + 1) b in
    let stays : slice_index first (at + 2) ≡ c =
    get_or-set_other (slice_set words at a) (at + 1) (at + 2) b 0 (λ same. omega (arith, same)) ∙ get_or-set_other words at (at + 2) a 0 (λ same. omega (arith, same)) ∙ is in
    ap (λ n. slice_set (slice_set (slice_set (slice_set words at a) n b) (suc (suc at)) c) (suc (suc (suc at))) e) one
    ∙ ap (λ n. slice_set (slice_set first n c) (suc (suc (suc at))) e) two
    ∙ ap (λ n. slice_set (slice_set first (at + 2) c) n e) three
    ∙ ap (λ l. slice_set (slice_set first (at + 2) l) (at + 3) e) (sym stays)
    ∙ ap (λ left. slice_set left (at + 3) e) (set-get_or first (at + 2) 0)

second_stays : (words : List ℕ) (at a b c : ℕ) → slice_index words (at + 1) ≡ b → put_all at (a ∷ b ∷ c ∷ []) words ≡ slice_set (slice_set words at a) (at + 2) c
second_stays words at a b c is =
    let one : suc at ≡ at + 1 = omega arith in
    let two : suc (suc at) ≡ at + 2 = omega arith in
    let first = slice_set words at a in
    let stays : slice_index first (at + 1) ≡ b = get_or-set_other words at (at + 1) a 0 (λ same. omega (arith, same)) ∙ is in
    ap (λ n. slice_set (slice_set first n b) (suc (suc at)) c) one ∙ ap (λ n. slice_set (slice_set first (at + 1) b) n c) two
    ∙ ap (λ l. slice_set (slice_set first (at + 1) l) (at + 2) c) (sym stays) ∙ ap (λ left. slice_set left (at + 2) c) (set-get_or first (at + 1) 0)

module _ (d : Elaborated) (s : State) (shape : HasShape d s) where
  whole_thread : (p : ℕ) (thread : Thread) → p < length d.processes
      → words_of d (put_thread p thread s) ≡ put_all (thread_at p + 0) (thread_words (link_of d s) (p, thread)) (words_of d s)
  unfolding words_of
  whole_thread p thread below =
      thread_changed d (front_words d s) refl s shape (link_of d s) (link_of d s) p thread 0 (thread_words (link_of d s) (p, thread)) below (λ m other. refl) refl (omega arith)

  one_place : (p place : ℕ) → p < length d.processes
      → words_of d (put_thread p (record { place = place; status = (thread_of s p).status }) s) ≡ put_all (thread_at p + 0) (place ∷ []) (words_of d s)
  unfolding words_of
  one_place p place below =
      thread_changed d (front_words d s) refl s shape (link_of d s) (link_of d s) p (record { place = place; status = (thread_of s p).status }) 0 (place ∷ []) below (λ m other. refl) refl
      (omega arith)

  thread_changes : (p : ℕ) → p < length d.processes → ThreadChanges d s p
  thread_changes p below =
      let here : thread_at p + 0 ≡ thread_at p = omega arith in
      record {
        thread = λ thread.
            whole_thread p thread below ∙ ap (λ at. put_all at (thread_words (link_of d s) (p, thread)) (words_of d s)) here
            ∙ third_stays (words_of d s) (thread_at p) thread.place (status_word thread.status) (link_of d s p) (time_in thread.status) (thread_stands d s shape p below).link_is;
        place = λ place. one_place p place below ∙ ap (λ at. slice_set (words_of d s) at place) here;
      }

  driver_changes : DriverChanges d s
  unfolding words_of
  driver_changes driver bits below wide =
      let inside : driver < length s.drivers = omega (arith, below, length-map s.drivers length, ap length shape.drivers) in
      let widths = ap (λ widths. slice_index_or widths driver 0) shape.drivers in
      driver_changed d (front_words d s) refl s shape (link_of d s) driver bits inside (wide ∙ sym widths ∙ get_or-map length s.drivers driver [] 0 inside)

  slot_changes : SlotChanges d s
  unfolding words_of
  slot_changes q slot below =
      let new = slot_words (has_wide d) (link_of d s) (length d.processes + q, slot) in
      let old = slot_words (has_wide d) (link_of d s) (length d.processes + q, slot_of s q) in
      let here : slot_at d q + 0 ≡ slot_at d q = omega arith in
      let size = slot_length (has_wide d) (link_of d s) (length d.processes + q) slot in
      let before = slot_length (has_wide d) (link_of d s) (length d.processes + q) (slot_of s q) in
      slot_changed d (front_words d s) refl s shape (link_of d s) (link_of d s) q slot 0 new below (λ m other. refl) (sym (put_all_over new old (size ∙ sym before)))
      (omega (arith, size))
      ∙ ap (λ at. put_all at new (words_of d s)) here

  value_changes : ValueChanges d s
  unfolding words_of
  value_changes sig element bits is wide = value_changed d (front_words d s) refl s shape (link_of d s) sig element bits is wide

  three_words : (q at : ℕ) (u : Update) → q < d.slots → slot_of s q ≡ Later at u
      → words_of d (put_slot q (Due u) s) ≡ put_all (slot_at d q + 0) (2 ∷ link_of d s (length d.processes + q) ∷ 0 ∷ []) (words_of d s)
  unfolding words_of
  three_words q at u below is =
      let n = length d.processes + q in
      let list : List ℕ = 2 ∷ link_of d s n ∷ 0 ∷ [] in
      slot_changed d (front_words d s) refl s shape (link_of d s) (link_of d s) q (Due u) 0 list below (λ m other. refl)
      (ap (λ slot. put_all 0 list (slot_words (has_wide d) (link_of d s) (n, slot))) (sym is)) (room (has_wide d))
    where
      room : (wide : Bool) → 0 + 3 ≤ (if wide then 10 else 8)
      room true = omega arith
      room false = omega arith

  update_comes : UpdateComes d s
  update_comes q at u below is =
      let n = length d.processes + q in
      let here : slot_at d q + 0 ≡ slot_at d q = omega arith in
      let size = slot_length (has_wide d) (link_of d s) n (slot_of s q) in
      let link_is : slice_index (words_of d s) (slot_at d q + 1) ≡ link_of d s n =
      slot_stands d s shape q below 1 (some (has_wide d) size)
      ∙ ap (λ slot. slice_index (slot_words (has_wide d) (link_of d s) (n, slot)) 1) is in
      three_words q at u below is ∙ ap (λ at. put_all at (2 ∷ link_of d s n ∷ 0 ∷ []) (words_of d s)) here
      ∙ second_stays (words_of d s) (slot_at d q) 2 (link_of d s n) 0 link_is
    where
      some : (wide : Bool) {long : ℕ} → long ≡ (if wide then 10 else 8) → 1 < long
      some true is = omega (arith, is)
      some false is = omega (arith, is)

pub changes_written : ChangesAreWritten
changes_written d s shape = record {
  threads = thread_changes d s shape;
  values = value_changes d s shape;
  drivers = driver_changes d s shape;
  slots = slot_changes d s shape;
  comes = update_comes d s shape;
}
