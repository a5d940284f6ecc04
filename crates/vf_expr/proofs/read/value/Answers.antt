use Rattle.std.proofs.Common.{◌≡◌, ◌∙◌, ap, subst}
use Rattle.std.specs.Prelude.{slice_index_or}
use Rattle.vf_elaborated.specs.Elaborated.{Elaborated}
use Rattle.vf_elaborated.specs.WellFormed.{IsWellFormed}
use Rattle.vf_expr.proofs.ReadLemmas.{value_readable, value_read}
use Rattle.vf_expr.proofs.read.value.Goals as goal

pub value_from-requires : goal.value_from-requires
value_from-requires g c =
    let signal = c.index-as_slice-sig.result in
    let signals = c.as_slice.ensures ∙ ap (λ (d : Elaborated). d.signals) c.design.view_is in
    value_readable c.args.design.now _ c.args.sig.0 c.args.element _ signal (subst IsWellFormed c.design.view_is c.design.invariant.formed) c.requires.element c.requires.held
    (c.index-as_slice-sig.is ∙ ap (λ xs. slice_index_or xs c.args.sig.0 signal) signals) c.address_of.ensures

pub returns : goal.returns
returns g c =
    let signal = c.index-as_slice-sig.result in
    let signals = c.as_slice.ensures ∙ ap (λ (d : Elaborated). d.signals) c.design.view_is in
    value_read c.args.design.now _ c.args.sig.0 c.args.element _ signal c.value_from.result c.requires.element
    (c.index-as_slice-sig.is ∙ ap (λ xs. slice_index_or xs c.args.sig.0 signal) signals) c.address_of.ensures c.value_from.ensures
