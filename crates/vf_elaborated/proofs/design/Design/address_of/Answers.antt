use Rattle.std.proofs.Common.{◌≡◌, ℕ, ◌+◌, ◌*◌, ◌^◌, ◌<◌, length, Some, slice_get, slice_index_or, refl, sym, ◌∙◌, ap, ap₂, subst, arith}
use Rattle.std.specs.Prelude.{slice_index}
use Rattle.std.proofs.lemmas.Option.{slice_get_read}
use Rattle.vf_elaborated.specs.declared.design.Signal.{Signal}
use Rattle.vf_elaborated.specs.declared.places.Places.{Places}
use Rattle.vf_elaborated.specs.Elaborated.{Elaborated}
use Rattle.vf_elaborated.specs.Inner.{elaborated_of}
use Rattle.vf_elaborated.specs.Layout.{IsElement, count_in, width_in, value_size, places_of, address_of}
use Rattle.vf_elaborated.proofs.LayoutLemmas.{there, address_small, drivers_small, places_length}
use Rattle.vf_elaborated.proofs.design.Design.address_of.Goals as goal

-- what is known of the element, of the design as it is kept
module _ (c : goal.After-value_size) where
  abbrev d : Elaborated
  d = elaborated_of c.self.inside

  abbrev sig : ℕ
  sig = c.args.sig.0

  abbrev signal : Signal
  signal = c.index-as_slice-sig.result

  required : IsElement d sig c.args.element
  required = subst (λ e. IsElement e sig c.args.element) (sym c.self.view_is) c.requires

  signal_is : slice_get d.signals sig ≡ Some signal
  signal_is =
      slice_get_read d.signals (length d.signals) sig signal refl (there d.signals sig c.args.element _ refl required)
      (c.index-as_slice-sig.is ∙ ap (λ xs. slice_index_or xs sig signal) c.as_slice.ensures)

  small : slice_index (places_of d) sig + (c.args.element * value_size signal.width + value_size signal.width) < 2 ^ 32
  small =
      let inside = address_small d sig c.args.element signal signal_is (subst (λ o. c.args.element < count_in o) signal_is required) in
      let few = drivers_small d c.self.invariant.formed in
      omega (arith, inside, few)

  place_is : slice_index_or c.as_slice-2.result.now sig 0 ≡ slice_index (places_of d) sig
  place_is = ap (λ xs. slice_index_or xs sig 0) (c.as_slice-2.ensures ∙ ap (λ (p : Places). p.signals) c.self.invariant.places)

  offset_is : c.args.element * c.value_size.result ≡ c.args.element * value_size signal.width
  offset_is = ap (λ n. c.args.element * n) c.value_size.ensures

pub bounds-as_slice-sig-2 : goal.bounds-as_slice-sig-2
bounds-as_slice-sig-2 c =
    let d = elaborated_of c.self.inside in
    let required = subst (λ e. IsElement e c.args.sig.0 c.args.element) (sym c.self.view_is) c.requires in
    subst (λ n. c.args.sig.0 < n) (sym (ap length (c.as_slice-2.ensures ∙ ap (λ (p : Places). p.signals) c.self.invariant.places) ∙ places_length _ d.signals))
    (there d.signals c.args.sig.0 c.args.element _ refl required)

pub overflow_mul-result : goal.overflow_mul-result
overflow_mul-result c = let s = small c in let o = offset_is c in omega (arith, s, o)

pub overflow_add-result : goal.overflow_add-result
overflow_add-result c = let s = small c in let o = offset_is c in let p = place_is c in omega (arith, s, o, p)

pub returns : goal.returns
unfolding address_of
returns c =
    ap₂ (λ a b. a + b) (place_is c) (offset_is c ∙ ap (λ o. c.args.element * value_size (width_in o)) (sym (signal_is c)))
    ∙ ap (λ e. address_of e (sig c) c.args.element) c.self.view_is
