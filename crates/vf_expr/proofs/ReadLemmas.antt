-- What is read at the address of an element.
use Rattle.std.proofs.Common.{◌≡◌, ℕ, zero, suc, ◌+◌, ◌^◌, ◌<◌, ◌≤◌, Bool, true, false, ◌&&◌, List, [], ◌∷◌, length, slice_get, slice_index_or, Option, Some, None, cond, refl, sym, ◌∙◌, ap, ap₂, subst, arith}
use Rattle.std.specs.Prelude.{nat_lt, nat_le, if◌then◌else◌}
use Rattle.std.specs.List.{list_all}
use Rattle.std.proofs.lemmas.Bool.{and_parts}
use Rattle.std.proofs.lemmas.Option.{slice_get_read}
use Rattle.vf_fours.specs.Bits.{FourState}
use Rattle.vf_elaborated.specs.declared.design.Signal.{Signal}
use Rattle.vf_elaborated.specs.Shapes.{is_width}
use Rattle.vf_elaborated.specs.Elaborated.{Elaborated}
use Rattle.vf_elaborated.specs.WellFormed.{IsWellFormed, is_signal}
use Rattle.vf_elaborated.specs.Layout.{value_size, value_at, drivers_begin, count_in, width_in, IsElement, address_of, HasValue, HoldsValues}
use Rattle.vf_elaborated.proofs.CallerLemmas.{there, address_ends, drivers_small, address_read}
use Rattle.vf_expr.specs.Reads.{Reaches, IsReadable, element_in, signed_in}

formed_at : (signals : List Signal) (sig : ℕ) (signal : Signal) → list_all is_signal signals ≡ true → slice_get signals sig ≡ Some signal → is_signal signal ≡ true
formed_at [] sig signal h s = absurd (cc s)
formed_at (one ∷ rest) zero signal h s = let same : one ≡ signal = cc s in ap is_signal (sym same) ∙ (and_parts (is_signal one) (list_all is_signal rest) h).0
formed_at (one ∷ rest) (suc sig) signal h s = formed_at rest sig signal (and_parts (is_signal one) (list_all is_signal rest) h).1 s

-- the planes of a value that ends below a bound
reaches_by : (words : List ℕ) (at end : ℕ) (wide : Bool) → at + (if wide then 4 else 2) ≤ end → end ≤ length words → end < 2 ^ 32
    → (at + (if wide then 2 else 0) < length words) × (at + (if wide then 2 else 0) < 2 ^ 32)
    × (at + 1 + (if wide then 2 else 0) < length words) × (at + 1 + (if wide then 2 else 0) < 2 ^ 32)
reaches_by words at end true ends long few = (omega (arith, ends, long), omega (arith, ends, few), omega (arith, ends, long), omega (arith, ends, few))
reaches_by words at end false ends long few = (omega (arith, ends, long), omega (arith, ends, few), omega (arith, ends, long), omega (arith, ends, few))

module _ (d : Elaborated) (words : List ℕ) (sig element : ℕ) (signal : Signal) (s : slice_get d.signals sig ≡ Some signal) where
  readable : IsWellFormed d → IsElement d sig element → HoldsValues d words → IsReadable words signal (address_of d sig element)
  readable formed there held =
      let inside : element < signal.elements = subst (λ o. element < count_in o) s there in
      let at = address_of d sig element in
      let r = reaches_by words at (drivers_begin d) (nat_lt 64 signal.width) (address_ends d sig element signal s inside) held.long (drivers_small d formed) in
      record {
        width = (and_parts (is_width signal.width) _ (formed_at d.signals sig signal formed.signals s)).0;
        ones = record { inside = r.0; small = r.1 };
        unknown = record { inside = r.2; small = r.3 };
        fits = subst (λ o. HasValue words (width_in o) at) s (held.values sig element there);
      }

  -- the value there is the element
  value_is : IsElement d sig element → record { bits = value_at words signal.width (address_of d sig element); signed = signal.signed } ≡ element_in d words sig element
  value_is there =
      let inside : element < signal.elements = subst (λ o. element < count_in o) s there in
      ap₂ (λ bits signed. record { bits = bits; signed = signed }) (sym (address_read d words sig element signal s inside)) (ap signed_in (sym s))

-- the signal that the code has read
pub signal_is : (d : Elaborated) (sig element : ℕ) (signal : Signal) → IsElement d sig element → signal ≡ slice_index_or d.signals sig signal → slice_get d.signals sig ≡ Some signal
signal_is d sig element signal h is = slice_get_read d.signals (length d.signals) sig signal refl (there d.signals sig element _ refl h) is

pub value_readable : (d : Elaborated) (words : List ℕ) (sig element at : ℕ) (signal : Signal) → IsWellFormed d → IsElement d sig element → HoldsValues d words
    → signal ≡ slice_index_or d.signals sig signal → at ≡ address_of d sig element → IsReadable words signal at
value_readable d words sig element at signal formed h held is a =
    subst (λ at. IsReadable words signal at) (sym a) (readable d words sig element signal (signal_is d sig element signal h is) formed h held)

pub value_read : (d : Elaborated) (words : List ℕ) (sig element at : ℕ) (signal : Signal) (value : FourState) → IsElement d sig element
    → signal ≡ slice_index_or d.signals sig signal → at ≡ address_of d sig element → value ≡ record { bits = value_at words signal.width at; signed = signal.signed }
    → value ≡ element_in d words sig element
value_read d words sig element at signal value h is a v =
    v ∙ ap (λ at. record { bits = value_at words signal.width at; signed = signal.signed }) a ∙ value_is d words sig element signal (signal_is d sig element signal h is) h
