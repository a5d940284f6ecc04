-- The words of a state are few, and each address is among them.
use Rattle.std.proofs.Common.{◌≡◌, ◌<◌, ◌≤◌, ℕ, zero, suc, ◌+◌, ◌-◌, ◌*◌, ◌/◌, ◌^◌, Bool, true, false, List, [], ◌∷◌, length, take, slice_get, Option, Some, None, refl, ◌∙◌, ap, ap₂, arith, lt-ltb, le-ltb, if◌then◌else◌}
use Rattle.std.proofs.lemmas.Bool.{and_parts, ltb-true, ltb-false, leb-true}
use Rattle.std.proofs.lemmas.List.Elements.{All-nil, All-cons}
use Rattle.std.proofs.lemmas.List.Sums.{sum_by-cons}
use Rattle.std.specs.Prelude.{nat_lt, nat_le, slice_index}
use Rattle.std.specs.List.{list_all, sum_by, All, cons_option}
use Rattle.std.specs.Option.{option_map}
use Rattle.vf_elaborated.specs.declared.design.Signal.{Signal}
use Rattle.vf_elaborated.specs.declared.design.Process.{Process}
use Rattle.vf_elaborated.specs.declared.code.Instr.{Instr}
use Rattle.vf_elaborated.specs.declared.code.Instr.TheVariants.{Set, Getc, Post, Drive, Count, Jump, Unless, Match, Delay, Await, Until, Show, Watch, Save, IncSave, Finish, Stop, Halt}
use Rattle.vf_elaborated.specs.declared.places.Places.{Places}
use Rattle.vf_elaborated.specs.Elaborated.{Elaborated}
use Rattle.vf_elaborated.specs.Shapes.{WIDEST}
use Rattle.vf_elaborated.specs.WellFormed.{IsWellFormed, is_process, is_code, is_ended, is_instr, is_assignment, is_target, is_piece, target_width, MOST_CODE}
use Rattle.vf_elaborated.specs.Layout.{value_size, signals_begin, drivers_begin, places_of, width_in, width_at, IsElement, count_in, address_of}
use Rattle.vf_elaborated.specs.Drivers.{driven_by, target_of, width_of, driver_widths}
use Rattle.vf_elaborated.specs.Addresses.{thread_at, driver_at, has_wide, slots_begin, slot_size, slot_at, link_at, word_count}
use Rattle.vf_elaborated.specs.Places.{starts_from, places_for, laid}
use Rattle.vf_elaborated.proofs.LayoutLemmas.{end_grows, signals_small, value_small, address_ends}

-- ---- drivers

-- the widths of the drivers of some processes
abbrev pub widths_in : List Process → List ℕ
widths_in processes = driver_widths (laid [] processes 0)

widths_few : (processes : List Process) → length (widths_in processes) ≤ length processes
widths_few [] = omega arith
widths_few (process ∷ rest) = by process.driver (widths_few rest)
  where
    by : (driver : Option ℕ) → length (widths_in rest) ≤ length rest
        → length (cons_option (option_map (λ d. width_of (target_of process)) driver) (widths_in rest)) ≤ suc (length rest)
    by None few = omega (arith, few)
    by (Some d) few = omega (arith, few)

sizes_small : (widths : List ℕ) → sum_by value_size widths ≤ 4 * length widths
sizes_small [] = omega arith
sizes_small (width ∷ rest) =
    let sum = sum_by-cons value_size width rest in
    let one = value_small width (nat_lt 64 width) in
    let few = sizes_small rest in
    omega (arith, sum, one, few)

-- where a value starts
pub start_is : (from : ℕ) (widths : List ℕ) (i : ℕ) → i < length widths → slice_index (starts_from from widths) i ≡ from + sum_by value_size (take i widths)
start_is from [] i below = absurd (omega (arith, below))
start_is from (width ∷ rest) zero below = omega arith
start_is from (width ∷ rest) (suc i) below =
    start_is (from + value_size width) rest i (omega (arith, below)) ∙ omega (arith, sum_by-cons value_size width (take i rest))

pub starts_length : (from : ℕ) (widths : List ℕ) → length (starts_from from widths) ≡ length widths
starts_length from [] = refl
starts_length from (width ∷ rest) = ap suc (starts_length (from + value_size width) rest)

-- a value ends before the end of all
ends_within : (widths : List ℕ) (i : ℕ) → i < length widths → sum_by value_size (take i widths) + value_size (slice_index widths i) ≤ sum_by value_size widths
ends_within [] i below = absurd (omega (arith, below))
ends_within (width ∷ rest) zero below = omega (arith, sum_by-cons value_size width rest)
ends_within (width ∷ rest) (suc i) below =
    let first = sum_by-cons value_size width (take i rest) in
    let whole = sum_by-cons value_size width rest in
    let more = ends_within rest i (omega (arith, below)) in
    omega (arith, first, whole, more)

-- ---- the target of a driver

code_narrow : (d : Elaborated) (code : ℕ) (instrs : List Instr) → list_all (is_instr d code) instrs ≡ true → width_of (driven_by (slice_get instrs 0)) ≤ WIDEST
code_narrow d code [] h = omega arith
code_narrow d code (instr ∷ rest) h = by instr (and_parts (is_instr d code instr) (list_all (is_instr d code) rest) h).0
  where
    by : (instr : Instr) → is_instr d code instr ≡ true → width_of (driven_by (Some instr)) ≤ WIDEST
    by (Drive target e) h =
        let assigned = (and_parts (is_assignment d.signals target e) _ h).0 in
        let fits = (and_parts (is_target d.signals target) _ assigned).0 in
        let width = (and_parts (list_all (is_piece d.signals) target.0) _ fits).1 in
        leb-true _ _ (and_parts (nat_le 1 (target_width target)) _ width).1
    by (Set target e) h = omega arith
    by (Getc target e) h = omega arith
    by (Post target e delay) h = omega arith
    by (Count sig e) h = omega arith
    by (Jump to) h = omega arith
    by (Unless e to) h = omega arith
    by (Match kind e list next) h = omega arith
    by (Delay e) h = omega arith
    by (Await events) h = omega arith
    by (Until e) h = omega arith
    by (Show kind show) h = omega arith
    by (Watch show) h = omega arith
    by Save h = omega arith
    by IncSave h = omega arith
    by (Finish n) h = omega arith
    by (Stop n) h = omega arith
    by Halt h = omega arith

abbrev pub IsNarrow : Process → Type 0
IsNarrow process = width_of (target_of process) ≤ WIDEST

drivers_narrow : (d : Elaborated) (processes : List Process) → list_all (is_process d) processes ≡ true → All IsNarrow processes
drivers_narrow d [] h = All-nil IsNarrow
drivers_narrow d (process ∷ rest) h =
    let parts = and_parts (is_process d process) (list_all (is_process d) rest) h in
    let code = (and_parts (is_code d process.code) _ parts.0).0 in
    let instrs = (and_parts (is_ended process.code) _ (and_parts (nat_le (length process.code) MOST_CODE) _ code).1).1 in
    All-cons IsNarrow process rest (code_narrow d (length process.code) process.code instrs) (drivers_narrow d rest parts.1)

pub all_narrow : (d : Elaborated) → IsWellFormed d → All IsNarrow d.processes
all_narrow d formed = drivers_narrow d d.processes formed.processes

-- ---- all words are few

pub slots_small : (d : Elaborated) → IsWellFormed d → slots_begin d + 10 * d.slots + 64 < 2 ^ 32
slots_small d formed =
    let few = signals_small (signals_begin d) d.signals formed.signals in
    let sizes = sizes_small (driver_widths d) in
    let drivers = widths_few d.processes in
    omega (arith, few, sizes, drivers, formed.few_signals, formed.few_processes, formed.few_elements, formed.slots.1)

slot_narrow : (wide : Bool) → (if wide then 10 else 8) ≤ 10
slot_narrow true = omega arith
slot_narrow false = omega arith

slot_long : (wide : Bool) → 8 ≤ (if wide then 10 else 8)
slot_long true = omega arith
slot_long false = omega arith

pub slots_end : (d : Elaborated) → slot_at d d.slots ≤ word_count d
unfolding word_count
slots_end d = omega arith

pub words_small : (d : Elaborated) → IsWellFormed d → word_count d < 2 ^ 32
unfolding word_count slot_at
words_small d formed =
    let few = slots_small d formed in
    let size = slots_by (slot_size d) d.slots (slot_narrow (has_wide d)) in
    omega (arith, few, size)
  where
    slots_by : (size n : ℕ) → size ≤ 10 → size * n ≤ 10 * n
    slots_by size n small = grind (arith, small)

-- the places are those of the parts alone
pub laid_alike : (d : Elaborated) → places_for (laid d.signals d.processes d.slots) ≡ places_for d
unfolding word_count slot_at
laid_alike d = refl

-- the places by their parts
made : ℕ → List ℕ → List ℕ → ℕ → Bool → ℕ → Places
made slots signals drivers begin wide size = record {
  signals = signals;
  drivers = drivers;
  slots = begin;
  wide = wide;
  words = 64 * ((begin + size * slots + 63) / 64);
}

pub places_made : (d : Elaborated) (signals drivers : List ℕ) (first begin : ℕ) (wide : Bool) (size : ℕ) → signals ≡ places_of d → first ≡ drivers_begin d
    → drivers ≡ starts_from first (driver_widths d) → begin ≡ first + sum_by value_size (driver_widths d) → wide ≡ has_wide d → size ≡ (if wide then 10 else 8)
    → record { signals = signals; drivers = drivers; slots = begin; wide = wide; words = 64 * ((begin + size * d.slots + 63) / 64) } ≡ places_for d
unfolding word_count slot_at made
places_made d signals drivers first begin wide size s f ds b w z =
    let starts = ds ∙ ap (λ at. starts_from at (driver_widths d)) f in
    let place = b ∙ ap (λ at. at + sum_by value_size (driver_widths d)) f in
    let room = z ∙ ap (λ (wide : Bool). if wide then 10 else 8) w in
    ap₂ (λ signals drivers. made d.slots signals drivers begin wide size) s starts
    ∙ ap₂ (λ begin wide. made d.slots (places_of d) (starts_from (drivers_begin d) (driver_widths d)) begin wide size) place w
    ∙ ap (λ size. made d.slots (places_of d) (starts_from (drivers_begin d) (driver_widths d)) (slots_begin d) (has_wide d) size) room

-- ---- each address is inside

pub front_inside : (d : Elaborated) → 16 ≤ word_count d
unfolding slot_at
front_inside d = omega (arith, slots_end d, end_grows (signals_begin d) d.signals)

pub thread_inside : (d : Elaborated) (p : ℕ) → p < length d.processes → thread_at p + 4 ≤ word_count d
unfolding slot_at
thread_inside d p below = omega (arith, slots_end d, end_grows (signals_begin d) d.signals, below)

pub address_inside : (d : Elaborated) (sig element : ℕ) → IsElement d sig element → address_of d sig element + value_size (width_at d sig) ≤ word_count d
unfolding slot_at
address_inside d sig element h = by (slice_get d.signals sig) refl h
  where
    by : (o : Option Signal) → slice_get d.signals sig ≡ o → element < count_in o → address_of d sig element + value_size (width_at d sig) ≤ word_count d
    by None is h = absurd (omega (arith, h))
    by (Some signal) is h =
        let ends = address_ends d sig element signal is h in
        let size = ap (λ o. value_size (width_in o)) is in
        omega (arith, slots_end d, ends, size)

pub driver_inside : (d : Elaborated) (driver : ℕ) → driver < length (driver_widths d)
    → driver_at d driver + value_size (slice_index (driver_widths d) driver) ≤ word_count d
unfolding slot_at driver_at
driver_inside d driver below = omega (arith, slots_end d, ends_within (driver_widths d) driver below)

pub slot_inside : (d : Elaborated) (q : ℕ) → q < d.slots → slot_at d q + slot_size d ≤ word_count d
unfolding slot_at
slot_inside d q below = let ends = slots_end d in let room = more (slot_size d) q d.slots below in omega (arith, ends, room)
  where
    more : (size q n : ℕ) → q < n → size * q + size ≤ size * n
    more size q n below = grind (arith, below)

pub link_of_process : (d : Elaborated) (p : ℕ) → p < length d.processes → link_at d p ≡ thread_at p + 2
unfolding link_at
link_of_process d p below = ap (λ b. if b then thread_at p + 2 else slot_at d (p - length d.processes) + 1) (lt-ltb p (length d.processes) below)

pub link_beyond : (d : Elaborated) (n : ℕ) → length d.processes ≤ n → link_at d n ≡ slot_at d (n - length d.processes) + 1
unfolding link_at
link_beyond d n beyond = ap (λ b. if b then thread_at n + 2 else slot_at d (n - length d.processes) + 1) (le-ltb n (length d.processes) beyond)

pub link_of_slot : (d : Elaborated) (q : ℕ) → link_at d (length d.processes + q) ≡ slot_at d q + 1
link_of_slot d q =
    let back : length d.processes + q - length d.processes ≡ q = omega arith in
    link_beyond d (length d.processes + q) (omega arith) ∙ ap (λ q. slot_at d q + 1) back

pub link_inside : (d : Elaborated) (n : ℕ) → n < length d.processes + d.slots → link_at d n < word_count d
link_inside d n below = by (nat_lt n (length d.processes)) refl
  where
    by : (b : Bool) → nat_lt n (length d.processes) ≡ b → link_at d n < word_count d
    by true e =
        let process = ltb-true n (length d.processes) e in
        omega (arith, link_of_process d n process, thread_inside d n process)
    by false e =
        let beyond = ltb-false n (length d.processes) e in
        let size = slot_long (has_wide d) in
        omega (arith, link_beyond d n beyond, slot_inside d (n - length d.processes) (omega (arith, below, beyond)), size)
