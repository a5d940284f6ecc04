-- The parts of the words of a state: front, processes, values, drivers, slots, and how long each is.
use Rattle.std.proofs.Common.{◌≡◌, ℕ, suc, ◌+◌, ◌*◌, Bool, true, false, List, [], ◌∷◌, length, refl, ◌∙◌, ap, ap₂, arith, flat_map, if◌then◌else◌}
use Rattle.std.proofs.lemmas.List.{length-append}
use Rattle.std.proofs.lemmas.List.Elements.{All-head, All-tail}
use Rattle.std.specs.List.{All, AllZip, enumerate_from}
use Rattle.vf_fours.specs.declared.Bit.{Bit}
use Rattle.vf_elaborated.specs.declared.design.Signal.{Signal}
use Rattle.vf_elaborated.specs.Elaborated.{Elaborated}
use Rattle.vf_elaborated.specs.Values.{Elements}
use Rattle.vf_elaborated.specs.Shapes.{FitsSignal}
use Rattle.vf_elaborated.specs.Layout.{value_size, signal_size, end_from}
use Rattle.vf_elaborated.specs.Addresses.{is_wide, has_wide}
use Rattle.vf_scheduler.specs.State.{State, Thread}
use Rattle.vf_scheduler.specs.Words.{value_words, element_words, thread_words, slot_words, link_of}

-- the words of a value
abbrev pub own_words : List Bit → List ℕ
own_words bits = value_words (is_wide (length bits)) bits

by_length : (wide : Bool) (bits : List Bit) → length (value_words wide bits) ≡ (if wide then 4 else 2)
by_length true bits = refl
by_length false bits = refl

pub own_length : (bits : List Bit) → length (own_words bits) ≡ value_size (length bits)
own_length bits = by_length (is_wide (length bits)) bits

pub elements_length : (width : ℕ) (es : Elements) → All (λ bits. length bits ≡ width) es → length (element_words es) ≡ length es * value_size width
elements_length width [] all = omega arith
elements_length width (bits ∷ es) all =
    let P : List Bit → Type 0 = λ bits. length bits ≡ width in
    let first = own_length bits ∙ ap value_size (All-head P bits es all) in
    let rest = elements_length width es (All-tail P bits es all) in
    length-append (own_words bits) (element_words es) ∙ ap₂ (λ a b. a + b) first rest ∙ more (length es) (value_size width)
  where
    more : (n size : ℕ) → size + n * size ≡ suc n * size
    more n size = grind arith

pub signal_length : (signal : Signal) (es : Elements) → FitsSignal signal es → length (element_words es) ≡ signal_size signal
signal_length signal es fits = elements_length signal.width es fits.widths ∙ ap (λ n. n * value_size signal.width) fits.count

pub values_length : (from : ℕ) (signals : List Signal) (vs : List Elements) → AllZip FitsSignal signals vs
    → end_from from signals ≡ from + length (flat_map element_words vs)
values_length from [] [] fits = omega arith
values_length from [] (v ∷ vs) fits = absurd fits
values_length from (signal ∷ signals) [] fits = absurd fits
values_length from (signal ∷ signals) (v ∷ vs) fits =
    let first = signal_length signal v fits.0 in
    let rest = values_length (from + signal_size signal) signals vs fits.1 in
    let whole = length-append (element_words v) (flat_map element_words vs) in
    omega (arith, first, rest, whole)

pub threads_length : (links : ℕ → ℕ) (n : ℕ) (ts : List Thread) → length (flat_map (thread_words links) (enumerate_from n ts)) ≡ 4 * length ts
threads_length links n [] = refl
threads_length links n (t ∷ ts) = omega (arith, threads_length links (n + 1) ts)

-- ---- the words by their parts

module _ (d : Elaborated) (s : State) where
  abbrev pub threads_of : List ℕ
  threads_of = flat_map (thread_words (link_of d s)) (enumerate_from 0 s.threads)

  abbrev pub values_of : List ℕ
  values_of = flat_map element_words s.values

  abbrev pub drivers_of : List ℕ
  drivers_of = flat_map own_words s.drivers

  abbrev pub slots_of : List ℕ
  slots_of = flat_map (slot_words (has_wide d) (link_of d s)) (enumerate_from (length d.processes) s.slots)
