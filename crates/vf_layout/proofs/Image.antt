-- The words of a state over any front and any links, and what a change of one part does to them.
use Rattle.std.proofs.Common.{◌≡◌, ◌≢◌, ℕ, suc, ◌+◌, ◌*◌, ◌-◌, ◌/◌, ◌<◌, ◌≤◌, Bool, true, false, List, [], ◌∷◌, ◌++◌, length, map, take, replicate, refl, sym, ◌∙◌, ap, ap₂, subst, arith, flat_map, sum_by, if◌then◌else◌}
use Rattle.std.proofs.lemmas.List.{append_assoc, append-nil, length-append, length-take-le}
use Rattle.std.proofs.lemmas.List.Sums.{sum_by-cons}
use Rattle.std.specs.List.{enumerate_from}
use Rattle.vf_base.specs.declared.write.TheConstants.{PAGE_WORDS}
use Rattle.vf_fours.specs.declared.Bit.{Bit}
use Rattle.vf_elaborated.specs.Elaborated.{Elaborated}
use Rattle.vf_elaborated.specs.Layout.{value_size, signals_begin, drivers_begin}
use Rattle.vf_elaborated.specs.Drivers.{driver_widths}
use Rattle.vf_elaborated.specs.Addresses.{has_wide, thread_at, slot_at, slot_size}
use Rattle.vf_scheduler.specs.State.{State, Thread, no_thread, thread_of, put_thread, Slot, Free, Later, Due, Strobed}
use Rattle.vf_scheduler.specs.Posting.{put_slot}
use Rattle.vf_scheduler.specs.Sound.{slot_of}
use Rattle.vf_scheduler.specs.Words.{element_words, thread_words, slot_words, status_word, update_words, filled}
use Rattle.vf_scheduler.specs.Posting.{time_in}
use Rattle.vf_layout.specs.Puts.{put_all}
use Rattle.vf_layout.specs.Addresses.{HasShape}
use Rattle.vf_layout.proofs.PutLemmas.{length-put_all, put_all_left, put_between}
use Rattle.vf_layout.proofs.Parts.{own_words, own_length, values_length, threads_length}
use Rattle.vf_layout.proofs.Blocks.{none_changed, one_changed}

-- ---- lengths

pub slot_length : (wide : Bool) (links : ℕ → ℕ) (n : ℕ) (slot : Slot) → length (slot_words wide links (n, slot)) ≡ (if wide then 10 else 8)
slot_length true links n Free = refl
slot_length true links n (Later at u) = refl
slot_length true links n (Due u) = refl
slot_length true links n (Strobed show) = refl
slot_length false links n Free = refl
slot_length false links n (Later at u) = refl
slot_length false links n (Due u) = refl
slot_length false links n (Strobed show) = refl

pub slots_length : (wide : Bool) (links : ℕ → ℕ) (n : ℕ) (slots : List Slot)
    → length (flat_map (slot_words wide links) (enumerate_from n slots)) ≡ (if wide then 10 else 8) * length slots
slots_length wide links n [] = omega arith
slots_length wide links n (slot ∷ slots) =
    length-append (slot_words wide links (n, slot)) (flat_map (slot_words wide links) (enumerate_from (n + 1) slots))
    ∙ ap₂ (λ a b. a + b) (slot_length wide links n slot) (slots_length wide links (n + 1) slots) ∙ more (if wide then 10 else 8) (length slots)
  where
    more : (size n : ℕ) → size + size * n ≡ size * suc n
    more size n = grind arith

pub drivers_length : (xs : List (List Bit)) → length (flat_map own_words xs) ≡ sum_by value_size (map length xs)
drivers_length [] = refl
drivers_length (x ∷ xs) =
    omega (arith, length-append (own_words x) (flat_map own_words xs), own_length x, drivers_length xs, sum_by-cons value_size (length x) (map length xs))

-- ---- links

pub same_thread : (links others : ℕ → ℕ) (n : ℕ) (t : Thread) → others n ≡ links n → thread_words others (n, t) ≡ thread_words links (n, t)
same_thread links others n t same = ap (λ l. t.place ∷ status_word t.status ∷ l ∷ time_in t.status ∷ []) same

pub same_slot : (wide : Bool) (links others : ℕ → ℕ) (n : ℕ) (slot : Slot) → others n ≡ links n → slot_words wide others (n, slot) ≡ slot_words wide links (n, slot)
same_slot wide links others n Free same = refl
same_slot wide links others n (Later at u) same = ap (λ l. 1 ∷ l ∷ at ∷ update_words wide u) same
same_slot wide links others n (Due u) same = ap (λ l. 2 ∷ l ∷ 0 ∷ update_words wide u) same
same_slot true links others n (Strobed show) same = ap (λ l. 3 ∷ l ∷ 0 ∷ show ∷ replicate 6 0) same
same_slot false links others n (Strobed show) same = ap (λ l. 3 ∷ l ∷ 0 ∷ show ∷ replicate 4 0) same

-- ---- one part

filled-put : (at : ℕ) (list words : List ℕ) → at + length list ≤ length words → filled (put_all at list words) ≡ put_all at list (filled words)
filled-put at list words within =
    ap (λ long. put_all at list words ++ replicate (PAGE_WORDS * ((long + (PAGE_WORDS - 1)) / PAGE_WORDS) - long) 0) (length-put_all at list words)
    ∙ sym (put_all_left at list words _ within)

-- a part between others changes
pub change_part : (whole changed before part other after : List ℕ) (at from : ℕ) (list : List ℕ) → whole ≡ before ++ (part ++ after) → changed ≡ before ++ (other ++ after)
    → length before ≡ from → other ≡ put_all at list part → at + length list ≤ length part → filled changed ≡ put_all (from + at) list (filled whole)
change_part whole changed before part other after at from list is becomes long new within =
    ap filled (becomes ∙ ap (λ part. before ++ (part ++ after)) new ∙ sym (put_between before part after at from list long within) ∙ ap (put_all (from + at) list) (sym is))
    ∙ filled-put (from + at) list whole
    (subst (λ words. from + at + length list ≤ length words) (sym is) (omega (arith, within, long, length-append before (part ++ after), length-append part after)))

-- ---- a state

abbrev pub threads_in : (ℕ → ℕ) → State → List ℕ
threads_in links s = flat_map (thread_words links) (enumerate_from 0 s.threads)

abbrev pub values_in : State → List ℕ
values_in s = flat_map element_words s.values

abbrev pub drivers_in : State → List ℕ
drivers_in s = flat_map own_words s.drivers

abbrev pub slots_in : Elaborated → (ℕ → ℕ) → State → List ℕ
slots_in d links s = flat_map (slot_words (has_wide d) links) (enumerate_from (length d.processes) s.slots)

-- its words over a front and links
abbrev pub image : Elaborated → List ℕ → (ℕ → ℕ) → State → List ℕ
image d front links s = filled (front ++ (threads_in links s ++ (values_in s ++ (drivers_in s ++ slots_in d links s))))

module _ (d : Elaborated) (front : List ℕ) (long : length front ≡ 16) (s : State) (shape : HasShape d s) where
  pub thread_changed : (links others : ℕ → ℕ) (p : ℕ) (t : Thread) (at : ℕ) (list : List ℕ) → p < length d.processes → ((m : ℕ) → m ≢ p → others m ≡ links m)
      → thread_words others (p, t) ≡ put_all at list (thread_words links (p, thread_of s p)) → at + length list ≤ 4
      → image d front others (put_thread p t s) ≡ put_all (thread_at p + at) list (image d front links s)
  thread_changed links others p t at list below same new within =
      let inside : p < length s.threads = omega (arith, below, shape.threads) in
      let ahead = length (flat_map (thread_words links) (enumerate_from 0 (take p s.threads))) in
      let ahead_is : ahead ≡ 4 * p = threads_length links 0 (take p s.threads) ∙ ap (λ n. 4 * n) (length-take-le p s.threads (omega (arith, inside))) in
      let place : 16 + (ahead + at) ≡ thread_at p + at = omega (arith, ahead_is) in
      let all = threads_length links 0 s.threads in
      let size = length-put_all at list (thread_words links (p, thread_of s p)) in
      let rest = values_in s ++ (drivers_in s ++ slots_in d links s) in
      ap (λ slots. filled (front ++ (threads_in others (put_thread p t s) ++ (values_in s ++ (drivers_in s ++ slots)))))
      (none_changed (slot_words (has_wide d) links) (slot_words (has_wide d) others) p (λ m x other. same_slot (has_wide d) links others m x (same m other))
      (length d.processes) s.slots (λ m low high e. omega (arith, low, below, e)))
      ∙ change_part (front ++ (threads_in links s ++ rest)) (front ++ (threads_in others (put_thread p t s) ++ rest)) front (threads_in links s)
      (threads_in others (put_thread p t s)) rest (ahead + at) 16 list refl refl long
      (one_changed (thread_words links) (thread_words others) p (λ m x other. same_thread links others m x (same m other)) 0 p s.threads t no_thread at list (omega arith) inside new within)
      (omega (arith, ahead_is, all, inside, within))
      ∙ ap (λ place. put_all place list (image d front links s)) place

  -- ---- slots

  module _ (links others : ℕ → ℕ) where
    pub slot_changed : (q : ℕ) (slot : Slot) (at : ℕ) (list : List ℕ) → q < d.slots → ((m : ℕ) → m ≢ length d.processes + q → others m ≡ links m)
        → slot_words (has_wide d) others (length d.processes + q, slot) ≡ put_all at list (slot_words (has_wide d) links (length d.processes + q, slot_of s q))
        → at + length list ≤ slot_size d → image d front others (put_slot q slot s) ≡ put_all (slot_at d q + at) list (image d front links s)
    unfolding slot_at
    slot_changed q slot at list below same new within =
        let count = length d.processes in
        let wide = has_wide d in
        let size = slot_size d in
        let inside : q < length s.slots = omega (arith, below, shape.slots) in
        let ahead = length (flat_map (slot_words wide links) (enumerate_from count (take q s.slots))) in
        let ahead_is : ahead ≡ size * q = slots_length wide links count (take q s.slots) ∙ ap (λ n. size * n) (length-take-le q s.slots (omega (arith, inside))) in
        let all = slots_length wide links count s.slots in
        let room : size * q + size ≤ size * length s.slots = more size q (length s.slots) inside in
        let before = front ++ (threads_in links s ++ (values_in s ++ drivers_in s)) in
        let begin : length before ≡ drivers_begin d + sum_by value_size (map length s.drivers) =
        omega (
          arith,
          long,
          length-append (threads_in links s) (values_in s ++ drivers_in s),
          length-append (values_in s) (drivers_in s),
          length-append front (threads_in links s ++ (values_in s ++ drivers_in s)),
          threads_length links 0 s.threads,
          shape.threads,
          values_length (signals_begin d) d.signals s.values shape.values,
          drivers_length s.drivers,
        ) in
        let from : length before ≡ drivers_begin d + sum_by value_size (driver_widths d) = begin ∙ ap (λ widths. drivers_begin d + sum_by value_size widths) shape.drivers in
        let place : drivers_begin d + sum_by value_size (driver_widths d) + (ahead + at) ≡ slot_at d q + at = omega (arith, ahead_is) in
        ap (λ threads. filled (front ++ (threads ++ (values_in s ++ (drivers_in s ++ slots_in d others (put_slot q slot s))))))
        (none_changed (thread_words links) (thread_words others) (count + q) (λ m x other. same_thread links others m x (same m other)) 0 s.threads
        (λ m low high e. omega (arith, high, shape.threads, e)))
        ∙ change_part (front ++ (threads_in links s ++ (values_in s ++ (drivers_in s ++ slots_in d links s))))
        (front ++ (threads_in links s ++ (values_in s ++ (drivers_in s ++ slots_in d others (put_slot q slot s))))) before (slots_in d links s)
        (slots_in d others (put_slot q slot s)) [] (ahead + at) (drivers_begin d + sum_by value_size (driver_widths d)) list
        (last (threads_in links s) (values_in s) (drivers_in s) (slots_in d links s)) (last (threads_in links s) (values_in s) (drivers_in s) (slots_in d others (put_slot q slot s))) from
        (one_changed (slot_words wide links) (slot_words wide others) (count + q) (λ m x other. same_slot wide links others m x (same m other)) count q s.slots slot Free at list refl inside
        new (omega (arith, within, slot_length wide links (count + q) (slot_of s q))))
        (omega (arith, ahead_is, all, room, within))
        ∙ ap (λ place. put_all place list (image d front links s)) place
      where
        more : (size q n : ℕ) → q < n → size * q + size ≤ size * n
        more size q n below = grind (arith, below)

        last : (xs ys zs part : List ℕ) → front ++ (xs ++ (ys ++ (zs ++ part))) ≡ (front ++ (xs ++ (ys ++ zs))) ++ (part ++ [])
        last xs ys zs part =
            sym
            (ap (λ part. (front ++ (xs ++ (ys ++ zs))) ++ part) (append-nil part) ∙ append_assoc front (xs ++ (ys ++ zs)) part
            ∙ ap (λ list. front ++ list) (append_assoc xs (ys ++ zs) part ∙ ap (λ list. xs ++ list) (append_assoc ys zs part)))
