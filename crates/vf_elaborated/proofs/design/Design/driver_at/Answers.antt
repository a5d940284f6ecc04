use Rattle.std.proofs.Common.{◌<◌, length, slice_index_or, sym, ◌∙◌, ap, subst}
use Rattle.vf_elaborated.specs.declared.places.Places.{Places}
use Rattle.vf_elaborated.specs.Elaborated.{Elaborated}
use Rattle.vf_elaborated.specs.Inner.{elaborated_of}
use Rattle.vf_elaborated.specs.Layout.{drivers_begin}
use Rattle.vf_elaborated.specs.Drivers.{driver_widths}
use Rattle.vf_elaborated.specs.Addresses.{driver_at}
use Rattle.vf_elaborated.proofs.AddressLemmas.{start_is, starts_length}
use Rattle.vf_elaborated.proofs.design.Design.driver_at.Goals as goal

pub bounds-as_slice-driver : goal.bounds-as_slice-driver
bounds-as_slice-driver c =
    let d = elaborated_of c.self.inside in
    let required = subst (λ (e : Elaborated). c.args.driver < length (driver_widths e)) (sym c.self.view_is) c.requires in
    subst (λ n. c.args.driver < n)
    (sym (ap length (c.as_slice.ensures ∙ ap (λ (p : Places). p.drivers) c.self.invariant.places) ∙ starts_length (drivers_begin d) (driver_widths d))) required

pub returns : goal.returns
unfolding driver_at
returns c =
    let d = elaborated_of c.self.inside in
    let required = subst (λ (e : Elaborated). c.args.driver < length (driver_widths e)) (sym c.self.view_is) c.requires in
    ap (λ xs. slice_index_or xs c.args.driver 0) (c.as_slice.ensures ∙ ap (λ (p : Places). p.drivers) c.self.invariant.places)
    ∙ start_is (drivers_begin d) (driver_widths d) c.args.driver required ∙ ap (λ e. driver_at e c.args.driver) c.self.view_is
