-- What a change of one value, of a signal's element or of a driver, does to the words.
use Rattle.std.proofs.Common.{◌≡◌, ℕ, zero, suc, ◌+◌, ◌*◌, ◌<◌, ◌≤◌, List, [], ◌∷◌, ◌++◌, length, map, take, Option, Some, None, refl, sym, ◌∙◌, ap, ap₂, subst, arith, flat_map, slice_get, slice_index, slice_index_or, slice_set, sum_by}
use Rattle.std.proofs.lemmas.List.{append_assoc, length-append}
use Rattle.std.proofs.lemmas.List.Elements.{All-get_or}
use Rattle.std.proofs.lemmas.Option.{none-some, slice_get-get_or}
use Rattle.std.specs.List.{AllZip}
use Rattle.vf_fours.specs.declared.Bit.{Bit}
use Rattle.vf_elaborated.specs.declared.design.Signal.{Signal}
use Rattle.vf_elaborated.specs.Elaborated.{Elaborated}
use Rattle.vf_elaborated.specs.Values.{Elements}
use Rattle.vf_elaborated.specs.Shapes.{FitsSignal}
use Rattle.vf_elaborated.specs.Layout.{value_size, signal_size, places_from, signals_begin, drivers_begin, places_of, width_in, count_in, width_at, IsElement, address_of}
use Rattle.vf_elaborated.specs.Addresses.{driver_at}
use Rattle.vf_elaborated.proofs.CallerLemmas.{there, places_length}
use Rattle.vf_scheduler.specs.State.{State, elements_of}
use Rattle.vf_scheduler.specs.Words.{element_words}
use Rattle.vf_layout.specs.Puts.{put_all}
use Rattle.vf_layout.specs.Addresses.{HasShape}
use Rattle.vf_layout.proofs.PutLemmas.{put_all_left, put_all_right}
use Rattle.vf_layout.proofs.Parts.{own_words, own_length, signal_length, values_length, threads_length}
use Rattle.vf_layout.proofs.Blocks.{bits_changed, even_places, place_within}
use Rattle.vf_layout.proofs.Image.{change_part, threads_in, values_in, drivers_in, slots_in, image}

-- ---- the words of signals, the first word at an address

-- words are written over others, from the address on
record Changes (from target : ℕ) (list old new : List ℕ) : Type 0 where
  at : ℕ
  place : from + at ≡ target
  writes : new ≡ put_all at list old
  within : at + length list ≤ length old

-- the elements of one signal
elements_change : (from : ℕ) (signal : Signal) (es : Elements) (element : ℕ) (bits : List Bit) → FitsSignal signal es → element < signal.elements → length bits ≡ signal.width
    → Changes from (from + element * value_size signal.width) (own_words bits) (element_words es) (element_words (slice_set es element bits))
elements_change from signal es element bits fits below long =
    let inside : element < length es = omega (arith, below, fits.count) in
    let same : length bits ≡ length (slice_index_or es element []) = long ∙ sym (All-get_or (λ bits. length bits ≡ signal.width) es element [] inside fits.widths) in
    let size : length (own_words bits) ≡ length (own_words (slice_index_or es element [])) = own_length bits ∙ ap value_size same ∙ sym (own_length (slice_index_or es element [])) in
    record {
      at = sum_by value_size (take element (map length es));
      place = ap (λ n. from + n) (even_places signal.width es element fits.widths inside);
      writes = bits_changed es element bits inside same;
      within = omega (arith, size, place_within es element inside);
    }

signals_change : (from : ℕ) (signals : List Signal) (vs : List Elements) (sig element place : ℕ) (signal : Signal) (bits : List Bit) → AllZip FitsSignal signals vs
    → slice_get signals sig ≡ Some signal → slice_get (places_from from signals) sig ≡ Some place → element < signal.elements → length bits ≡ signal.width
    → Changes from (place + element * value_size signal.width) (own_words bits) (flat_map element_words vs)
    (flat_map element_words (slice_set vs sig (slice_set (slice_index_or vs sig []) element bits)))
signals_change from [] vs sig element place signal bits fits s p below long = absurd (none-some signal s)
signals_change from (one ∷ signals) [] sig element place signal bits fits s p below long = absurd fits
signals_change from (one ∷ signals) (v ∷ vs) zero element place signal bits fits s p below long =
    let same : one ≡ signal = cc s in
    let here : from ≡ place = cc p in
    let width : one.width ≡ signal.width = ap (λ (x : Signal). x.width) same in
    let count : one.elements ≡ signal.elements = ap (λ (x : Signal). x.elements) same in
    let inner = elements_change from one v element bits fits.0 (omega (arith, below, count)) (long ∙ sym width) in
    let rest = flat_map element_words vs in
    record {
      at = inner.at;
      place = inner.place ∙ ap₂ (λ at w. at + element * value_size w) here width;
      writes = ap (λ list. list ++ rest) inner.writes ∙ sym (put_all_left inner.at (own_words bits) (element_words v) rest inner.within);
      within = omega (arith, inner.within, length-append (element_words v) rest);
    }
signals_change from (one ∷ signals) (v ∷ vs) (suc sig) element place signal bits fits s p below long =
    let size = signal_length one v fits.0 in
    let inner = signals_change (from + signal_size one) signals vs sig element place signal bits fits.1 s p below long in
    let rest = flat_map element_words vs in
    record {
      at = length (element_words v) + inner.at;
      place = omega (arith, size, inner.place);
      writes = ap (λ list. element_words v ++ list) inner.writes ∙ sym (put_all_right inner.at (own_words bits) (element_words v) rest);
      within = omega (arith, inner.within, length-append (element_words v) rest);
    }

-- ---- a state

module _ (d : Elaborated) (front : List ℕ) (long : length front ≡ 16) (s : State) (shape : HasShape d s) (links : ℕ → ℕ) where
  with_values : List Elements → List ℕ
  with_values vs = front ++ (threads_in links s ++ (flat_map element_words vs ++ (drivers_in s ++ slots_in d links s)))

  begin : length (front ++ threads_in links s) ≡ signals_begin d
  begin = omega (arith, long, length-append front (threads_in links s), threads_length links 0 s.threads, shape.threads)

  one : (sig element : ℕ) (bits : List Bit) (o : Option Signal) → slice_get d.signals sig ≡ o → element < count_in o → length bits ≡ width_in o
      → Changes (signals_begin d) (slice_index (places_of d) sig + element * value_size (width_in o)) (own_words bits) (values_in s)
      (flat_map element_words (slice_set s.values sig (slice_set (elements_of s sig) element bits)))
  one sig element bits None e below wide = absurd (omega (arith, below))
  one sig element bits (Some signal) e below wide =
      signals_change (signals_begin d) d.signals s.values sig element (slice_index (places_of d) sig) signal bits shape.values e
      (slice_get-get_or (places_of d) sig 0
      (subst (λ n. sig < n) (sym (places_length (signals_begin d) d.signals)) (there d.signals sig element (Some signal) e below)))
      below wide

  pub value_changed : (sig element : ℕ) (bits : List Bit) → IsElement d sig element → length bits ≡ width_at d sig
      → image d front links (record s { values = slice_set s.values sig (slice_set (elements_of s sig) element bits) })
      ≡ put_all (address_of d sig element) (own_words bits) (image d front links s)
  unfolding address_of with_values
  value_changed sig element bits is wide =
      let change = one sig element bits (slice_get d.signals sig) refl is wide in
      let new = slice_set s.values sig (slice_set (elements_of s sig) element bits) in
      let after = drivers_in s ++ slots_in d links s in
      let split = λ (part : List ℕ). sym (append_assoc front (threads_in links s) (part ++ after)) in
      change_part (with_values s.values) (with_values new) (front ++ threads_in links s) (values_in s) (flat_map element_words new) after change.at (signals_begin d) (own_words bits)
      (split (values_in s)) (split (flat_map element_words new)) begin change.writes change.within
      ∙ ap (λ place. put_all place (own_words bits) (image d front links s)) change.place

  -- ---- drivers

  with_drivers : List (List Bit) → List ℕ
  with_drivers drivers = front ++ (threads_in links s ++ (values_in s ++ (flat_map own_words drivers ++ slots_in d links s)))

  pub driver_changed : (driver : ℕ) (bits : List Bit) → driver < length s.drivers → length bits ≡ length (slice_index_or s.drivers driver [])
      → image d front links (record s { drivers = slice_set s.drivers driver bits }) ≡ put_all (driver_at d driver) (own_words bits) (image d front links s)
  unfolding driver_at with_drivers
  driver_changed driver bits below same =
      let new = slice_set s.drivers driver bits in
      let before = front ++ (threads_in links s ++ values_in s) in
      let ends = values_length (signals_begin d) d.signals s.values shape.values in
      let from : length before ≡ drivers_begin d =
      omega (arith, begin, ends, length-append front (threads_in links s), length-append front (threads_in links s ++ values_in s), length-append (threads_in links s) (values_in s)) in
      let split = λ (part : List ℕ). sym (append_assoc front (threads_in links s ++ values_in s) (part ++ slots_in d links s)
      ∙ ap (λ list. front ++ list) (append_assoc (threads_in links s) (values_in s) (part ++ slots_in d links s))) in
      let size : length (own_words bits) ≡ length (own_words (slice_index_or s.drivers driver [])) = own_length bits ∙ ap value_size same ∙ sym (own_length (slice_index_or s.drivers driver [])) in
      change_part (with_drivers s.drivers) (with_drivers new) before (drivers_in s) (flat_map own_words new) (slots_in d links s) (sum_by value_size (take driver (map length s.drivers)))
      (drivers_begin d) (own_words bits) (split (drivers_in s)) (split (flat_map own_words new)) from (bits_changed s.drivers driver bits below same)
      (omega (arith, size, place_within s.drivers driver below))
      ∙ ap (λ widths. put_all (drivers_begin d + sum_by value_size (take driver widths)) (own_words bits) (image d front links s)) shape.drivers
