-- Time zero is sound.
use Rattle.std.proofs.Common.{◌≡◌, ℕ, zero, suc, ◌+◌, ◌<◌, ◌≤◌, true, false, List, [], ◌∷◌, length, map, replicate, Option, Some, None, refl, sym, ◌∙◌, ap, subst, arith, ⊎_elim}
use Rattle.std.proofs.lemmas.Bool.{cases_lt, cases_eq, false≢true, eq-eqb, ne_eqb, and_parts}
use Rattle.std.proofs.lemmas.List.{length-replicate, get_or-replicate, get_or_past}
use Rattle.std.specs.Prelude.{ℤ, nat_eq, if◌then◌else◌}
use Rattle.std.specs.List.{list_all, fold, flat_map, range_with_len, All, AllZip}
use Rattle.vf_fours.specs.declared.Bit.{Bit}
use Rattle.vf_fours.specs.declared.Bit.TheVariants.{X, Z}
use Rattle.vf_fours.specs.Bits.{wire_bit, all_x}
use Rattle.vf_fours.specs.Shapes.{length-tabulate}
use Rattle.vf_elaborated.specs.declared.design.Signal.{Signal}
use Rattle.vf_elaborated.specs.declared.design.Process.{Process}
use Rattle.vf_elaborated.specs.declared.code.Instr.{Instr}
use Rattle.vf_elaborated.specs.declared.code.TargetPiece.{TargetPiece}
use Rattle.vf_elaborated.specs.Elaborated.{Elaborated}
use Rattle.vf_elaborated.specs.Shapes.{FitsSignal}
use Rattle.vf_elaborated.specs.WellFormed.{is_process, is_code, is_ended}
use Rattle.vf_elaborated.specs.Drivers.{driver_widths}
use Rattle.vf_elaborated.proofs.CallerLemmas.{zip_length, chosen_length}
use Rattle.vf_scheduler.specs.State.{Active, Thread, Slot, Free, Item, of_process, of_slot, no_thread, thread_of}
use Rattle.vf_scheduler.specs.Assigning.{piece_low}
use Rattle.vf_scheduler.specs.Driving.{driven, spread, constant_worth, net_bits, driver_parts}
use Rattle.vf_scheduler.specs.Turning.{start, first_drivers, elements_from}
use Rattle.vf_scheduler.specs.Sound.{Stands, IsSlot, times, listed, region_of, slot_of, slot_region, slot_listed, is_running}
use Rattle.vf_scheduler.specs.Laws.{StartIsSound}

-- ---- processes

started : Thread
started = record { place = 0; status = Active }

some_code : (code : List Instr) → is_ended code ≡ true → 0 < length code
some_code [] h = absurd (false≢true h)
some_code (instr ∷ rest) h = grind arith

threads_start : (d : Elaborated) (processes : List Process) → list_all (is_process d) processes ≡ true
    → AllZip (λ (process : Process) (thread : Thread). thread.place < length process.code) processes (replicate (length processes) started)
unfolding started
threads_start d [] h = tt
threads_start d (process ∷ rest) h =
    let parts = and_parts (is_process d process) (list_all (is_process d) rest) h in
    let code = and_parts (is_code d process.code) _ parts.0 in
    let ended = and_parts (is_ended process.code) _ (and_parts _ _ code.0).1 in
    (some_code process.code ended.0, threads_start d rest parts.1)

-- ---- values

spread_length : (width : ℕ) (low : Option ℤ) (bits : List Bit) → length (spread width low bits) ≡ width
spread_length width None bits = length-replicate width Z
spread_length width (Some low) bits = length-tabulate _ width

driven_length : (signals : List Signal) (net width : ℕ) (bits : List Bit) (part : TargetPiece × List Bit) → length bits ≡ width
    → length (driven signals net width bits part) ≡ width
driven_length signals net width bits part e =
    let over = spread_length width (piece_low (constant_worth signals) part.0) part.1 in
    chosen_length (nat_eq part.0.sig.0 net) _ bits width
    (zip_length wire_bit bits (spread width (piece_low (constant_worth signals) part.0) part.1) (e ∙ sym over) ∙ e) e

parts_length : (signals : List Signal) (net width : ℕ) (bits : List Bit) (parts : List (TargetPiece × List Bit)) → length bits ≡ width
    → length (fold (driven signals net width) bits parts) ≡ width
parts_length signals net width bits [] e = e
parts_length signals net width bits (part ∷ rest) e =
    parts_length signals net width (driven signals net width bits part) rest (driven_length signals net width bits part e)

pub net_length : (d : Elaborated) (drivers : List (List Bit)) (net width : ℕ) → length (net_bits d drivers net width) ≡ width
unfolding net_bits
net_length d drivers net width =
    parts_length d.signals net width (replicate width Z) (flat_map (λ process. driver_parts drivers process process.driver) d.processes) (length-replicate width Z)

same_widths : (n : ℕ) (bits : List Bit) (width : ℕ) → length bits ≡ width → All (λ b. length b ≡ width) (replicate n bits)
same_widths n bits width e k other h =
    ap length (get_or-replicate n k bits other (subst (λ m. k < m) (length-replicate n bits) h)) ∙ e

values_start : (d : Elaborated) (sig : ℕ) (signals : List Signal) → AllZip FitsSignal signals (elements_from d sig signals)
values_start d sig [] = tt
values_start d sig (signal ∷ rest) = (
  record {
    count = length-replicate signal.elements _;
    widths = same_widths signal.elements _ signal.width
        (chosen_length signal.net _ _ signal.width (net_length d (first_drivers d) sig signal.width) (length-replicate signal.width X));
  },
  values_start d (sig + 1) rest,
)

drivers_start : (widths : List ℕ) → map length (map all_x widths) ≡ widths
drivers_start [] = refl
drivers_start (width ∷ rest) = ap (λ w. w ∷ map length (map all_x rest)) (length-replicate width X) ∙ ap (λ ws. width ∷ ws) (drivers_start rest)

-- ---- lists

-- the processes from number a on, as events
span : ℕ → ℕ → List Item
span a n = map of_process (range_with_len a n)

step_other : (p a n : ℕ) (found : ℕ) → (p ≡ a → ⊥) → times (of_process p) (span (a + 1) n) ≡ found → times (of_process p) (span a (suc n)) ≡ found
unfolding span
step_other p a n found other e =
    ap (λ b. (if b then 1 else 0) + times (of_process p) (span (a + 1) n)) (ne_eqb p a other) ∙ omega (arith, e)

step_here : (p a n : ℕ) → p ≡ a → times (of_process p) (span (a + 1) n) ≡ 0 → times (of_process p) (span a (suc n)) ≡ 1
unfolding span
step_here p a n here e =
    ap (λ b. (if b then 1 else 0) + times (of_process p) (span (a + 1) n)) (eq-eqb p a here) ∙ omega (arith, e)

listed_before : (p a n : ℕ) → p < a → times (of_process p) (span a n) ≡ 0
unfolding span
listed_before p a zero h = refl
listed_before p a (suc n) h = step_other p a n 0 (λ e. omega (arith, e, h)) (listed_before p (a + 1) n (omega (arith, h)))

listed_after : (p a n : ℕ) → a + n ≤ p → times (of_process p) (span a n) ≡ 0
unfolding span
listed_after p a zero h = refl
listed_after p a (suc n) h = step_other p a n 0 (λ e. omega (arith, e, h)) (listed_after p (a + 1) n (omega (arith, h)))

listed_once : (p a n : ℕ) → a ≤ p → p < a + n → times (of_process p) (span a n) ≡ 1
listed_once p a zero low high = omega (arith, low, high)
listed_once p a (suc n) low high =
    ⊎_elim
    (λ here. step_here p a n here (listed_before p (a + 1) n (omega (arith, here))))
    (λ other. step_other p a n 1 other (listed_once p (a + 1) n (by_other other) (omega (arith, high))))
    (cases_eq p a)
  where
    by_other : (p ≡ a → ⊥) → a + 1 ≤ p
    by_other other = ⊎_elim (λ lt. omega (arith, lt)) (λ ge. absurd (other (omega (arith, ge, low)))) (cases_lt a p)

no_slot : (q a n : ℕ) → times (of_slot q) (span a n) ≡ 0
unfolding span
no_slot q a zero = refl
no_slot q a (suc n) = omega (arith, no_slot q (a + 1) n)

-- ---- the state

module _ (d : Elaborated) where
  thread_here : (p : ℕ) → p < length d.processes → thread_of (start d) p ≡ started
  unfolding start started
  thread_here p h = get_or-replicate (length d.processes) p started no_thread h

  thread_past : (p : ℕ) → length d.processes ≤ p → thread_of (start d) p ≡ no_thread
  unfolding start started
  thread_past p h =
      get_or_past (replicate (length d.processes) started) p no_thread
      (subst (λ n. n ≤ p) (sym (length-replicate (length d.processes) started)) h)

  slot_free : (q : ℕ) → slot_of (start d) q ≡ Free
  unfolding start
  slot_free q =
      ⊎_elim
      (λ lt. get_or-replicate d.slots q Free Free lt)
      (λ ge. get_or_past (replicate d.slots Free) q Free (subst (λ n. n ≤ q) (sym (length-replicate d.slots Free)) ge))
      (cases_lt q d.slots)

  abbrev ProcessStands : ℕ → Thread → Type 0
  ProcessStands p thread = Stands (start d) (of_process p) (region_of (start d) thread.status) (listed thread.status)

  process_stands : (p : ℕ) → ProcessStands p (thread_of (start d) p)
  unfolding start span started
  process_stands p =
      ⊎_elim
      (λ lt.
      let once = listed_once p 0 (length d.processes) (omega arith) (omega (arith, lt)) in
      subst (ProcessStands p) (sym (thread_here p lt)) (record { there = once; alone = once }))
      (λ ge.
      subst (ProcessStands p) (sym (thread_past p ge)) (record { there = refl; alone = listed_after p 0 (length d.processes) (omega (arith, ge)) }))
      (cases_lt p (length d.processes))

  abbrev SlotStands : ℕ → Slot → Type 0
  SlotStands q slot = Stands (start d) (of_slot q) (slot_region (start d) slot) (slot_listed slot)

  slot_stands : (q : ℕ) → SlotStands q (slot_of (start d) q)
  unfolding start span
  slot_stands q = subst (SlotStands q) (sym (slot_free q)) (record { there = refl; alone = no_slot q 0 (length d.processes) })

  no_running : (p : ℕ) → is_running (thread_of (start d) p).status ≡ false
  unfolding started
  no_running p =
      ⊎_elim
      (λ lt. ap (λ (thread : Thread). is_running thread.status) (thread_here p lt))
      (λ ge. ap (λ (thread : Thread). is_running thread.status) (thread_past p ge))
      (cases_lt p (length d.processes))

  free_slots_fit : All (IsSlot d) (replicate d.slots Free)
  free_slots_fit k other h =
      subst (IsSlot d) (sym (get_or-replicate d.slots k Free other (subst (λ n. k < n) (length-replicate d.slots Free) h))) tt

pub start_sound : StartIsSound
unfolding start started
start_sound d wf = record {
  threads = threads_start d d.processes wf.processes;
  values = values_start d 0 d.signals;
  drivers = drivers_start (driver_widths d);
  slot_count = length-replicate d.slots Free;
  slots = free_slots_fit d;
  processes_stand = process_stands d;
  slots_stand = slot_stands d;
  running = no_running d;
  future = tt;
  time = omega arith;
  times = λ k item h. absurd (omega (arith, h));
  monitor = tt;
  due = λ h. absurd (false≢true h);
}
