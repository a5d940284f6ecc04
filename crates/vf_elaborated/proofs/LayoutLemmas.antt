-- Where a signal's elements stand among the words, and what is read there.
use Rattle.std.proofs.Common.{◌≡◌, ◌<◌, ◌≤◌, ℕ, zero, suc, ◌+◌, ◌*◌, ◌^◌, Bool, true, false, ◌||◌, List, [], ◌∷◌, length, drop, slice_get, slice_index_or, Option, Some, None, refl, sym, ◌∙◌, ap, ap₂, subst, arith}
use Rattle.std.proofs.lemmas.Bool.{eqb-true, and_parts}
use Rattle.std.proofs.lemmas.List.Elements.{All-nil, All-cons}
use Rattle.std.proofs.Math.Seq.{drop-cons}
use Rattle.std.proofs.lemmas.Option.{slice_get-get_or}
use Rattle.std.proofs.lemmas.List.Sums.{sum_by-cons}
use Rattle.std.specs.Prelude.{nat_lt, nat_le, ◌==◌, if◌then◌else◌, slice_index}
use Rattle.std.specs.List.{list_all, sum_by, All, AllZip}
use Rattle.vf_fours.specs.Planes.{bits_of}
use Rattle.vf_fours.specs.Shapes.{length-tabulate}
use Rattle.vf_elaborated.specs.declared.design.Signal.{Signal}
use Rattle.vf_elaborated.specs.Elaborated.{Elaborated}
use Rattle.vf_elaborated.specs.Shapes.{FitsSignal, is_width}
use Rattle.vf_elaborated.specs.WellFormed.{IsWellFormed, is_signal, memory_elements}
use Rattle.vf_elaborated.specs.Layout.{value_size, signal_size, places_from, end_from, signals_begin, drivers_begin, places_of, count_in, width_in, address_of, value_at, elements_at, values_at}

-- ---- what is read

-- a value that is read has its width
value_length : (words : List ℕ) (width at : ℕ) → length (value_at words width at) ≡ width
unfolding value_at bits_of
value_length words width at = length-tabulate _ width

elements_length : (words : List ℕ) (width at n : ℕ) → length (elements_at words width at n) ≡ n
elements_length words width at zero = refl
elements_length words width at (suc n) = ap suc (elements_length words width (at + value_size width) n)

elements_fit : (words : List ℕ) (width at n : ℕ) → All (λ bits. length bits ≡ width) (elements_at words width at n)
elements_fit words width at zero = All-nil (λ bits. length bits ≡ width)
elements_fit words width at (suc n) =
    All-cons (λ bits. length bits ≡ width) (value_at words width at) _ (value_length words width at) (elements_fit words width (at + value_size width) n)

-- the values that are read fit their signals
pub values_fit : (words : List ℕ) (at : ℕ) (signals : List Signal) → AllZip FitsSignal signals (values_at words at signals)
values_fit words at [] = tt
values_fit words at (signal ∷ rest) = (
  record { count = elements_length words signal.width at signal.elements; widths = elements_fit words signal.width at signal.elements },
  values_fit words (at + signal_size signal) rest,
)

-- ---- the element at an address

element_is : (words : List ℕ) (width at n i : ℕ) → i < n → slice_index_or (elements_at words width at n) i [] ≡ value_at words width (at + i * value_size width)
element_is words width at zero i h = absurd (omega (arith, h))
element_is words width at (suc n) zero h = ap (value_at words width) (omega arith)
element_is words width at (suc n) (suc i) h =
    element_is words width (at + value_size width) n i (omega (arith, h)) ∙ ap (value_at words width) (omega arith)

-- what stands at a signal's place is the signal's elements
elements_are : (words : List ℕ) (from : ℕ) (signals : List Signal) (sig place : ℕ) (signal : Signal) → slice_get signals sig ≡ Some signal
    → slice_get (places_from from signals) sig ≡ Some place → slice_index_or (values_at words from signals) sig [] ≡ elements_at words signal.width place signal.elements
elements_are words from [] sig place signal s p = absurd (cc s)
elements_are words from (one ∷ rest) zero place signal s p =
    let same : one ≡ signal = cc s in
    let here : from ≡ place = cc p in
    ap₂ (λ (one : Signal) at. elements_at words one.width at one.elements) same here
elements_are words from (one ∷ rest) (suc sig) place signal s p = elements_are words (from + signal_size one) rest sig place signal s p

-- the value of an element
pub element_read : (words : List ℕ) (from : ℕ) (signals : List Signal) (sig place i : ℕ) (signal : Signal) → slice_get signals sig ≡ Some signal
    → slice_get (places_from from signals) sig ≡ Some place → i < signal.elements
    → slice_index_or (slice_index_or (values_at words from signals) sig []) i [] ≡ value_at words signal.width (place + i * value_size signal.width)
element_read words from signals sig place i signal s p h =
    ap (λ elements. slice_index_or elements i []) (elements_are words from signals sig place signal s p) ∙ element_is words signal.width place signal.elements i h

-- ---- the room of the signals

pub end_grows : (from : ℕ) (signals : List Signal) → from ≤ end_from from signals
end_grows from [] = omega arith
end_grows from (one ∷ rest) = let more = end_grows (from + signal_size one) rest in omega (arith, more)

-- the words of the first signal that is left end there, too
pub room_left : (signals : List Signal) (i at : ℕ) (signal : Signal) → i < length signals → signal ≡ slice_index_or signals i signal
    → at + signal_size signal ≤ end_from at (drop i signals)
room_left signals i at signal h is =
    let rest = drop (suc i) signals in
    subst (λ left. at + signal_size signal ≤ end_from at left) (ap (λ x. x ∷ rest) is ∙ sym (drop-cons signals i signal h))
    (end_grows (at + signal_size signal) rest)

-- the words of a signal end where all signals end, or below
pub place_fits : (from : ℕ) (signals : List Signal) (sig place : ℕ) (signal : Signal) → slice_get signals sig ≡ Some signal
    → slice_get (places_from from signals) sig ≡ Some place → place + signal_size signal ≤ end_from from signals
place_fits from [] sig place signal s p = absurd (cc s)
place_fits from (one ∷ rest) zero place signal s p =
    let same : one ≡ signal = cc s in
    let here : from ≡ place = cc p in
    subst (λ (at : ℕ). at ≤ end_from (from + signal_size one) rest) (ap₂ (λ at (s : Signal). at + signal_size s) here same)
    (end_grows (from + signal_size one) rest)
place_fits from (one ∷ rest) (suc sig) place signal s p = place_fits (from + signal_size one) rest sig place signal s p

pub places_length : (from : ℕ) (signals : List Signal) → length (places_from from signals) ≡ length signals
places_length from [] = refl
places_length from (signal ∷ rest) = ap suc (places_length (from + signal_size signal) rest)

size_by : (signal : Signal) (memory one : Bool) → signal.memory ≡ memory → (signal.elements == 1) ≡ one → (memory || one) ≡ true
    → signal.elements ≤ (if memory then signal.elements else 0) + 1
size_by signal true one m e h = omega arith
size_by signal false true m e h = let n = eqb-true signal.elements 1 e in omega (arith, n)
size_by signal false false m e h = absurd (cc h)

pub value_small : (width : ℕ) (wide : Bool) → (if wide then 4 else 2) ≤ 4
value_small width true = omega arith
value_small width false = omega arith

size_small : (signal : Signal) → is_signal signal ≡ true → signal_size signal ≤ 4 * (memory_elements signal + 1)
size_small signal h =
    let few = size_by signal signal.memory (signal.elements == 1) refl refl (and_parts (nat_le 1 signal.elements) _ (and_parts (is_width signal.width) _ h).1).1 in
    let small = value_small signal.width (nat_lt 64 signal.width) in
    grind (arith, few, small)

-- all signals together are not many words
pub signals_small : (from : ℕ) (signals : List Signal) → list_all is_signal signals ≡ true
    → end_from from signals ≤ from + 4 * (sum_by memory_elements signals + length signals)
signals_small from [] h = omega arith
signals_small from (one ∷ rest) h =
    let parts = and_parts (is_signal one) (list_all is_signal rest) h in
    let here = size_small one parts.0 in
    let there = signals_small (from + signal_size one) rest parts.1 in
    let sum = sum_by-cons memory_elements one rest in
    omega (arith, here, there, sum)

-- ---- addresses

below : {A : Type 0} (xs : List A) (i : ℕ) (x : A) → slice_get xs i ≡ Some x → i < length xs
below [] i x h = absurd (cc h)
below (y ∷ ys) zero x h = omega arith
below (y ∷ ys) (suc i) x h = let b = below ys i x h in omega (arith, b)

-- a signal with an element is there
pub there : (signals : List Signal) (sig element : ℕ) (o : Option Signal) → slice_get signals sig ≡ o → element < count_in o → sig < length signals
there signals sig element None e h = absurd (omega (arith, h))
there signals sig element (Some signal) e h = below signals sig signal e

place_is : (d : Elaborated) (sig : ℕ) → sig < length d.signals → slice_get (places_of d) sig ≡ Some (slice_index (places_of d) sig)
place_is d sig h = slice_get-get_or (places_of d) sig 0 (subst (λ n. sig < n) (sym (places_length (signals_begin d) d.signals)) h)

room : (element count : ℕ) (wide : Bool) → element < count
    → element * (if wide then 4 else 2) + (if wide then 4 else 2) ≤ count * (if wide then 4 else 2)
room element count true h = omega (arith, h)
room element count false h = omega (arith, h)

-- an element's words are before the drivers
pub address_small : (d : Elaborated) (sig element : ℕ) (signal : Signal) → slice_get d.signals sig ≡ Some signal → element < signal.elements
    → slice_index (places_of d) sig + (element * value_size signal.width + value_size signal.width) ≤ drivers_begin d
address_small d sig element signal s h =
    let place = slice_index (places_of d) sig in
    let fits = place_fits (signals_begin d) d.signals sig place signal s (place_is d sig (below d.signals sig signal s)) in
    let one = room element signal.elements (nat_lt 64 signal.width) h in
    omega (arith, fits, one)

pub address_ends : (d : Elaborated) (sig element : ℕ) (signal : Signal) → slice_get d.signals sig ≡ Some signal → element < signal.elements
    → address_of d sig element + value_size signal.width ≤ drivers_begin d
unfolding address_of
address_ends d sig element signal s h =
    let ends = address_small d sig element signal s h in
    let same = ap (λ o. element * value_size (width_in o)) s in
    omega (arith, ends, same)

-- the words before the drivers are few
pub drivers_small : (d : Elaborated) → IsWellFormed d → drivers_begin d < 2 ^ 32
drivers_small d formed =
    let few = signals_small (signals_begin d) d.signals formed.signals in
    let signals = formed.few_signals in
    let processes = formed.few_processes in
    let elements = formed.few_elements in
    omega (arith, few, signals, processes, elements)

-- what is read at an element's address is the element
pub address_read : (d : Elaborated) (words : List ℕ) (sig element : ℕ) (signal : Signal) → slice_get d.signals sig ≡ Some signal → element < signal.elements
    → slice_index_or (slice_index_or (values_at words (signals_begin d) d.signals) sig []) element [] ≡ value_at words signal.width (address_of d sig element)
unfolding address_of
address_read d words sig element signal s h =
    element_read words (signals_begin d) d.signals sig (slice_index (places_of d) sig) element signal s (place_is d sig (below d.signals sig signal s)) h
    ∙ ap (λ o. value_at words signal.width (slice_index (places_of d) sig + element * value_size (width_in o))) (sym s)
