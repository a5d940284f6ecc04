-- An update keeps a state sound, with the processes that it wakes.
use Rattle.std.proofs.Common.{◌≡◌, ℕ, zero, suc, ◌+◌, ◌<◌, ◌≤◌, Bool, true, false, List, [], ◌∷◌, ◌++◌, map, length, take, drop, Option, Some, None, is_some, refl, sym, ◌∙◌, ap, subst, arith, ⊎_elim, slice_index_or, slice_set, slice_get, if◌then◌else◌, zip, IsSomeAnd}
use Rattle.std.proofs.lemmas.Bool.{false≢true, and_parts, or_cases, ne_eqb, eq-eqb}
use Rattle.std.proofs.lemmas.List.{length-set, length-take, length-drop, length-append}
use Rattle.std.proofs.lemmas.List.Elements.{All-set}
use Rattle.std.specs.List.{AllZip, list_all}
use Rattle.vf_fours.specs.declared.Bit.{Bit}
use Rattle.vf_elaborated.specs.declared.design.Signal.{Signal}
use Rattle.vf_elaborated.specs.declared.design.Process.{Process}
use Rattle.vf_elaborated.specs.declared.code.Instr.{Instr}
use Rattle.vf_elaborated.specs.declared.code.Instr.TheVariants.{Await}
use Rattle.vf_elaborated.specs.Elaborated.{Elaborated}
use Rattle.vf_elaborated.specs.Values.{Elements}
use Rattle.vf_elaborated.specs.Shapes.{FitsSignal}
use Rattle.vf_elaborated.specs.WellFormed.{IsWellFormed, is_process}
use Rattle.vf_elaborated.specs.Tables.{numbers_from}
use Rattle.vf_scheduler.specs.State.{State, Status, Halted, Waiting, Active, Inactive, Future, Running, Thread, Update, Item, of_process, of_slot, no_thread, elements_of, bits_of}
use Rattle.vf_scheduler.specs.Updating.{is_waiting, is_woken, instr_of, place_after, woken, monitors, overwritten, same_bits, wake, updated, updated_all}
use Rattle.vf_scheduler.specs.Sound.{times, FitsIn, IsUpdate}
use Rattle.vf_scheduler.proofs.Marks.{Mark, Nowhere}
use Rattle.vf_scheduler.proofs.Moves.{Wakes, wakes, sleeps, wake_up}
use Rattle.vf_scheduler.proofs.Held.{mark_in, status_mark, HasPlace, Held}
use Rattle.vf_scheduler.proofs.Processes.{all_zip_set, all_zip_at}
use Rattle.vf_scheduler.proofs.Slots.{Updates}
use Rattle.vf_scheduler.proofs.Codes.{Coded, coded, goes_past}

-- ---- the processes that wake

abbrev numbered : {A : Type 0} → (A → Bool) → ℕ → List A → List Item
numbered test n list = map of_process (numbers_from test n list)

later_none : {A : Type 0} (test : A → Bool) (p n : ℕ) (list : List A) → p < n → times (of_process p) (numbered test n list) ≡ 0
later_none test p n [] h = refl
later_none test p n (x ∷ rest) h = by (test x) (later_none test p (n + 1) rest (omega (arith, h)))
  where
    by : (b : Bool) → times (of_process p) (numbered test (n + 1) rest) ≡ 0
        → times (of_process p) (map of_process (if b then n ∷ numbers_from test (n + 1) rest else numbers_from test (n + 1) rest)) ≡ 0
    by true after = ap (λ b. (if b then 1 else 0) + times (of_process p) (numbered test (n + 1) rest)) (ne_eqb p n (λ e. omega (arith, e, h))) ∙ omega (arith, after)
    by false after = after

no_slot : (q : ℕ) (ns : List ℕ) → times (of_slot q) (map of_process ns) ≡ 0
no_slot q [] = refl
no_slot q (n ∷ rest) = omega (arith, no_slot q rest)

pub waits : (status : Status) → is_waiting status ≡ true → status_mark status ≡ Nowhere
waits Waiting h = refl
waits Halted h = absurd (false≢true h)
waits Active h = absurd (false≢true h)
waits Inactive h = absurd (false≢true h)
waits (Future at) h = absurd (false≢true h)
waits Running h = absurd (false≢true h)

module _ (sig : ℕ) (old new : List Bit) where
  abbrev test : Process × Thread → Bool
  test = is_woken sig old new

  abbrev mark_at : List Thread → ℕ → Mark
  mark_at threads k = status_mark (slice_index_or threads k no_thread).status

  each_wakes : (processes : List Process) (threads : List Thread) (k n p : ℕ) → AllZip HasPlace processes threads → p ≡ n + k
      → Wakes (times (of_process p) (numbered test n (zip processes threads))) (mark_at threads k) (mark_at (map (woken test) (zip processes threads)) k)
  each_wakes [] [] k n p all at = sleeps refl refl
  each_wakes [] (thread ∷ threads) k n p all at = absurd all
  each_wakes (process ∷ processes) [] k n p all at = absurd all
  each_wakes (process ∷ processes) (thread ∷ threads) zero n p all at = by (test (process, thread)) refl
    where
      after : times (of_process p) (numbered test (n + 1) (zip processes threads)) ≡ 0
      after = later_none test p (n + 1) (zip processes threads) (omega (arith, at))

      by : (b : Bool) → test (process, thread) ≡ b
          → Wakes (times (of_process p) (map of_process (if b then n ∷ numbers_from test (n + 1) (zip processes threads) else numbers_from test (n + 1) (zip processes threads))))
          (status_mark thread.status)
          (status_mark (if b then record { place = place_after (instr_of (process, thread)) thread.place; status = Active } else thread).status)
      by true e =
          wakes (ap (λ b. (if b then 1 else 0) + times (of_process p) (numbered test (n + 1) (zip processes threads))) (eq-eqb p n (omega (arith, at))) ∙ omega (arith, after))
          (waits thread.status (and_parts (is_waiting thread.status) _ e).0) refl
      by false e = sleeps after refl
  each_wakes (process ∷ processes) (thread ∷ threads) (suc k) n p all at =
      by (test (process, thread)) (each_wakes processes threads k (n + 1) p all.1 (omega (arith, at)))
    where
      by : (b : Bool) → Wakes (times (of_process p) (numbered test (n + 1) (zip processes threads))) (mark_at threads k) (mark_at (map (woken test) (zip processes threads)) k)
          → Wakes (times (of_process p) (map of_process (if b then n ∷ numbers_from test (n + 1) (zip processes threads) else numbers_from test (n + 1) (zip processes threads))))
          (mark_at threads k) (mark_at (map (woken test) (zip processes threads)) k)
      by true h =
          subst (λ c. Wakes c (mark_at threads k) (mark_at (map (woken test) (zip processes threads)) k))
          (sym (ap (λ b. (if b then 1 else 0) + times (of_process p) (numbered test (n + 1) (zip processes threads))) (ne_eqb p n (λ e. omega (arith, e, at))) ∙ omega arith)) h
      by false h = h

  -- ---- their places

  pub place_kept : (d : Elaborated) (process : Process) (place : ℕ) (instr : Option Instr) → Coded d process.code → slice_get process.code place ≡ instr → place < length process.code
      → place_after instr place < length process.code
  place_kept d process place (Some (Await events)) code e h = goes_past process.code place (Await events) code.ended e refl
  place_kept d process place _ code e h = h

  places_kept : (d : Elaborated) (processes : List Process) (threads : List Thread) → list_all (is_process d) processes ≡ true → AllZip HasPlace processes threads
      → AllZip HasPlace processes (map (woken test) (zip processes threads))
  places_kept d [] [] wf all = tt
  places_kept d [] (thread ∷ threads) wf all = absurd all
  places_kept d (process ∷ processes) [] wf all = absurd all
  places_kept d (process ∷ processes) (thread ∷ threads) wf all =
      let parts = and_parts (is_process d process) (list_all (is_process d) processes) wf in
      (by (test (process, thread)) parts.0, places_kept d processes threads parts.1 all.1)
    where
      by : (b : Bool) → is_process d process ≡ true
          → HasPlace process (if b then record { place = place_after (instr_of (process, thread)) thread.place; status = Active } else thread)
      by true is = place_kept d process thread.place (slice_get process.code thread.place) (coded d process is) refl all.0
      by false is = all.0

-- ---- a change wakes

has_monitor : (d : Elaborated) (sig : ℕ) (monitor : Option ℕ) → monitors d sig monitor ≡ true → is_some monitor ≡ true
has_monitor d sig None h = h
has_monitor d sig (Some show) h = refl

pub wake_held : (d : Elaborated) (sig : ℕ) (old new : List Bit) (s : State) → IsWellFormed d → Held d s → Held d (wake d sig old new s)
wake_held d sig old new s wf h = record {
  shapes = record {
    places = places_kept sig old new d d.processes s.threads wf.processes h.shapes.places;
    fits = h.shapes.fits;
    widths = h.shapes.widths;
    slot_count = h.shapes.slot_count;
    holds = h.shapes.holds;
    shows = h.shapes.shows;
    is_due = λ due. ⊎_elim h.shapes.is_due (has_monitor d sig s.monitor) (or_cases s.due (monitors d sig s.monitor) due);
  };
  queue =
      wake_up (mark_in s.threads s.slots) (mark_in (map (woken test) pairs) s.slots) s.time s.running s.active s.inactive s.nonblocking s.future s.strobes
      (map of_process (numbers_from test 0 pairs)) h.queue each;
}
  where
    pairs : List (Process × Thread)
    pairs = zip d.processes s.threads

    test : Process × Thread → Bool
    test = is_woken sig old new

    each : (x : Item) → Wakes (times x (map of_process (numbers_from test 0 pairs))) (mark_in s.threads s.slots x) (mark_in (map (woken test) pairs) s.slots x)
    each (of_process p) = each_wakes sig old new d.processes s.threads p 0 p h.shapes.places (omega arith)
    each (of_slot q) = sleeps (no_slot q _) refl

-- ---- an element changes

overwritten_length : (old bits : List Bit) (low width : ℕ) → length old ≡ width → low + length bits ≤ width → length (overwritten old low bits) ≡ width
overwritten_length old bits low width e inside =
    let whole = length-append (take low old) (bits ++ drop (low + length bits) old) in
    let rest = length-append bits (drop (low + length bits) old) in
    let front = length-take low old in
    let back = length-drop (low + length bits) old in
    omega (arith, whole, rest, front, back, e, inside)

fits_at : (d : Elaborated) (u : Update) (signal : Signal) → IsUpdate d u → slice_get d.signals u.sig ≡ Some signal → FitsIn u signal
fits_at d u signal is e = subst (λ o. IsSomeAnd o (FitsIn u)) e is

element_put : (u : Update) (signal : Signal) (elements : Elements) (old : List Bit) → FitsSignal signal elements → FitsIn u signal → old ≡ slice_index_or elements u.element []
    → FitsSignal signal (slice_set elements u.element (overwritten old u.low u.bits))
element_put u signal elements old fits is e = record {
  count = length-set elements u.element _ ∙ fits.count;
  widths =
      All-set (λ bits. length bits ≡ signal.width) elements u.element _
      (overwritten_length old u.bits u.low signal.width (ap length e ∙ fits.widths u.element [] (omega (arith, is.element, fits.count))) is.inside) fits.widths;
}

-- bits of an element are overwritten
pub element_held : (d : Elaborated) (u : Update) (s : State) → IsUpdate d u → Held d s → (new : List Bit) → new ≡ overwritten (bits_of s u.sig u.element) u.low u.bits
    → Held d (record s { values = slice_set s.values u.sig (slice_set (elements_of s u.sig) u.element new) })
element_held d u s is h new e = record {
  shapes = record {
    places = h.shapes.places;
    fits =
        all_zip_set FitsSignal d.signals s.values u.sig _ h.shapes.fits
        (λ signal at.
        subst (λ bits. FitsSignal signal (slice_set (elements_of s u.sig) u.element bits)) (sym e)
        (element_put u signal (elements_of s u.sig) (bits_of s u.sig u.element) (all_zip_at FitsSignal d.signals s.values u.sig signal [] h.shapes.fits at) (fits_at d u signal is at) refl));
    widths = h.shapes.widths;
    slot_count = h.shapes.slot_count;
    holds = h.shapes.holds;
    shows = h.shapes.shows;
    is_due = h.shapes.is_due;
  };
  queue = h.queue;
}

module _ (d : Elaborated) (wf : IsWellFormed d) where
  -- an update
  pub updated_held : (u : Update) (s : State) → IsUpdate d u → Held d s → Held d (updated d u s)
  unfolding updated
  updated_held u s is h =
      let old = bits_of s u.sig u.element in
      by (overwritten old u.low u.bits) (same_bits old (overwritten old u.low u.bits)) refl
    where
      old : List Bit
      old = bits_of s u.sig u.element

      by : (new : List Bit) (same : Bool) → new ≡ overwritten old u.low u.bits
          → Held d (if same then s else wake d u.sig old new (record s { values = slice_set s.values u.sig (slice_set (elements_of s u.sig) u.element new) }))
      by new true e = h
      by new false e = wake_held d u.sig old new _ wf (element_held d u s is h new e)

  pub updates_held : (updates : List Update) (s : State) → Updates d updates → Held d s → Held d (updated_all d updates s)
  updates_held [] s all h = h
  updates_held (u ∷ rest) s all h = updates_held rest (updated d u s) all.1 (updated_held u s all.0 h)
