-- The words of a state hold its values.
use Rattle.std.proofs.Common.{◌≡◌, ℕ, zero, suc, ◌+◌, ◌*◌, ◌-◌, ◌/◌, ◌<◌, ◌≤◌, List, [], ◌∷◌, ◌++◌, length, replicate, refl, sym, ◌∙◌, ap, ap₂, subst, arith, flat_map, slice_get, slice_index, slice_index_or, Option, Some, None}
use Rattle.std.proofs.lemmas.List.{append_assoc, length-append}
use Rattle.std.proofs.lemmas.List.Elements.{All-head, All-tail}
use Rattle.std.proofs.lemmas.Option.{none-some, slice_get-get_or}
use Rattle.std.specs.List.{All, AllZip}
use Rattle.vf_base.specs.declared.write.TheConstants.{PAGE_WORDS}
use Rattle.vf_fours.specs.declared.Bit.{Bit}
use Rattle.vf_elaborated.specs.declared.design.Signal.{Signal}
use Rattle.vf_elaborated.specs.Elaborated.{Elaborated}
use Rattle.vf_elaborated.specs.Values.{Elements}
use Rattle.vf_elaborated.specs.Shapes.{FitsSignal}
use Rattle.vf_elaborated.specs.Layout.{value_size, signal_size, places_from, signals_begin, drivers_begin, places_of, width_in, count_in, width_at, IsElement, address_of, elements_at, values_at}
use Rattle.vf_elaborated.proofs.CallerLemmas.{there, places_length}
use Rattle.vf_scheduler.specs.State.{State, bits_of}
use Rattle.vf_scheduler.specs.Words.{front_words, link_of, element_words, used_words, words_of}
use Rattle.vf_layout.specs.Puts.{StandsAt}
use Rattle.vf_layout.specs.Laws.{Holds, WordsHoldTheValues}
use Rattle.vf_layout.proofs.PutLemmas.{stands_after, stands_left, stands_right}
use Rattle.vf_layout.proofs.ValueLemmas.{value_stands, has_value}
use Rattle.vf_layout.proofs.Parts.{own_words, own_length, signal_length, values_length, threads_length, threads_of, values_of, drivers_of, slots_of}

-- ---- elements

elements_stand : (words : List ℕ) (width at : ℕ) (es : Elements) → All (λ bits. length bits ≡ width) es → StandsAt words at (element_words es)
    → elements_at words width at (length es) ≡ es
elements_stand words width at [] all h = refl
elements_stand words width at (bits ∷ es) all h =
    let P : List Bit → Type 0 = λ bits. length bits ≡ width in
    let long = All-head P bits es all in
    let size = own_length bits ∙ ap value_size long in
    ap₂ (λ b bs. b ∷ bs) (value_stands words width at bits long (stands_left words at (own_words bits) (element_words es) h))
    (elements_stand words width (at + value_size width) es (All-tail P bits es all)
    (subst (λ n. StandsAt words (at + n) (element_words es)) size (stands_right words at (own_words bits) (element_words es) h)))

values_stand : (words : List ℕ) (at : ℕ) (signals : List Signal) (vs : List Elements) → AllZip FitsSignal signals vs → StandsAt words at (flat_map element_words vs)
    → values_at words at signals ≡ vs
values_stand words at [] [] fits h = refl
values_stand words at [] (v ∷ vs) fits h = absurd fits
values_stand words at (signal ∷ signals) [] fits h = absurd fits
values_stand words at (signal ∷ signals) (v ∷ vs) fits h =
    ap₂ (λ b bs. b ∷ bs)
    (ap (elements_at words signal.width at) (sym fits.0.count)
    ∙ elements_stand words signal.width at v fits.0.widths (stands_left words at (element_words v) (flat_map element_words vs) h))
    (values_stand words (at + signal_size signal) signals vs fits.1
    (subst (λ n. StandsAt words (at + n) (flat_map element_words vs)) (signal_length signal v fits.0) (stands_right words at (element_words v) (flat_map element_words vs) h)))

-- ---- one element

-- an element of some of a width
pub record OneStands (words : List ℕ) (width at : ℕ) (bits : List Bit) : Type 0 where
  pub long : length bits ≡ width
  pub stands : StandsAt words at (own_words bits)

one_stands : (words : List ℕ) (width at : ℕ) (es : Elements) (i : ℕ) → All (λ bits. length bits ≡ width) es → i < length es → StandsAt words at (element_words es)
    → OneStands words width (at + i * value_size width) (slice_index_or es i [])
one_stands words width at [] i all below h = absurd (omega (arith, below))
one_stands words width at (bits ∷ es) zero all below h = record {
  long = All-head (λ bits. length bits ≡ width) bits es all;
  stands = subst (λ n. StandsAt words n (own_words bits)) (omega arith) (stands_left words at (own_words bits) (element_words es) h);
}
one_stands words width at (bits ∷ es) (suc i) all below h =
    let P : List Bit → Type 0 = λ bits. length bits ≡ width in
    let size = own_length bits ∙ ap value_size (All-head P bits es all) in
    let rest =
    one_stands words width (at + value_size width) es i (All-tail P bits es all) (omega (arith, below))
    (subst (λ n. StandsAt words (at + n) (element_words es)) size (stands_right words at (own_words bits) (element_words es) h)) in
    record { long = rest.long; stands = subst (λ n. StandsAt words n (own_words (slice_index_or es i []))) (more at i (value_size width)) rest.stands }
  where
    more : (at i size : ℕ) → at + size + i * size ≡ at + suc i * size
    more at i size = grind arith

element_stands : (words : List ℕ) (from : ℕ) (signals : List Signal) (vs : List Elements) (sig element place : ℕ) (signal : Signal) → AllZip FitsSignal signals vs
    → StandsAt words from (flat_map element_words vs) → slice_get signals sig ≡ Some signal → slice_get (places_from from signals) sig ≡ Some place → element < signal.elements
    → OneStands words signal.width (place + element * value_size signal.width) (slice_index_or (slice_index_or vs sig []) element [])
element_stands words from [] vs sig element place signal fits h s p below = absurd (none-some signal s)
element_stands words from (one ∷ signals) [] sig element place signal fits h s p below = absurd fits
element_stands words from (one ∷ signals) (v ∷ vs) zero element place signal fits h s p below =
    let same : one ≡ signal = cc s in
    let here : from ≡ place = cc p in
    subst (λ (other : Signal). OneStands words other.width (place + element * value_size other.width) (slice_index_or v element [])) same
    (subst (λ at. OneStands words one.width (at + element * value_size one.width) (slice_index_or v element [])) here
    (one_stands words one.width from v element fits.0.widths
    (subst (λ n. element < n) (sym fits.0.count) (subst (λ (other : Signal). element < other.elements) (sym same) below))
    (stands_left words from (element_words v) (flat_map element_words vs) h)))
element_stands words from (one ∷ signals) (v ∷ vs) (suc sig) element place signal fits h s p below =
    element_stands words (from + signal_size one) signals vs sig element place signal fits.1
    (subst (λ n. StandsAt words (from + n) (flat_map element_words vs)) (signal_length one v fits.0) (stands_right words from (element_words v) (flat_map element_words vs) h))
    s p below

-- ---- a state

module _ (d : Elaborated) (s : State) (threads : length s.threads ≡ length d.processes) (fits : AllZip FitsSignal d.signals s.values) where
  abbrev before : List ℕ
  before = front_words d s ++ threads_of d s

  abbrev zeros : List ℕ
  zeros = let long = length (used_words d s) in replicate (PAGE_WORDS * ((long + (PAGE_WORDS - 1)) / PAGE_WORDS) - long) 0

  abbrev after : List ℕ
  after = (drivers_of d s ++ slots_of d s) ++ zeros

  -- the values stand between what is before them and what is after them
  parted : words_of d s ≡ before ++ (values_of d s ++ after)
  unfolding words_of
  parted =
      ap (λ list. front_words d s ++ list)
      (append_assoc (threads_of d s) (values_of d s ++ (drivers_of d s ++ slots_of d s)) zeros
      ∙ ap (λ list. threads_of d s ++ list) (append_assoc (values_of d s) (drivers_of d s ++ slots_of d s) zeros))

  begin : length before ≡ signals_begin d
  begin = omega (arith, threads_length (link_of d s) 0 s.threads, threads)

  pub all_stand : StandsAt (words_of d s) (signals_begin d) (values_of d s)
  all_stand =
      subst (λ words. StandsAt words (signals_begin d) (values_of d s)) (sym parted)
      (stands_left (before ++ (values_of d s ++ after)) (signals_begin d) (values_of d s) after (stands_after before (values_of d s ++ after) (signals_begin d) begin))

  long : drivers_begin d ≤ length (words_of d s)
  long =
      let whole = length-append before (values_of d s ++ after) in
      let part = length-append (values_of d s) after in
      let ends = values_length (signals_begin d) d.signals s.values fits in
      let same = ap length parted in
      omega (arith, whole, part, ends, begin, same)

  -- an element of a signal, by its address
  one : (sig element : ℕ) (o : Option Signal) → slice_get d.signals sig ≡ o → element < count_in o
      → OneStands (words_of d s) (width_in o) (slice_index (places_of d) sig + element * value_size (width_in o)) (bits_of s sig element)
  one sig element None e below = absurd (omega (arith, below))
  one sig element (Some signal) e below =
      element_stands (words_of d s) (signals_begin d) d.signals s.values sig element (slice_index (places_of d) sig) signal fits all_stand e
      (slice_get-get_or (places_of d) sig 0
      (subst (λ n. sig < n) (sym (places_length (signals_begin d) d.signals)) (there d.signals sig element (Some signal) e below)))
      below

  pub stands : (sig element : ℕ) → IsElement d sig element → OneStands (words_of d s) (width_at d sig) (address_of d sig element) (bits_of s sig element)
  unfolding address_of
  stands sig element is = one sig element (slice_get d.signals sig) refl is

  held : Holds d s
  unfolding words_of
  held = record {
    values = record {
      long = long;
      values = λ sig element is.
          let one = stands sig element is in
          has_value (words_of d s) (width_at d sig) (address_of d sig element) (bits_of s sig element) one.long one.stands;
    };
    scenes = λ past_end. λ j. record {
      values = values_stand (words_of d s) (signals_begin d) d.signals s.values fits all_stand j;
      time = s.time;
      past_end = past_end;
    };
  }

pub values_held : WordsHoldTheValues
values_held d s threads fits = held d s threads fits
