use Rattle.std.proofs.Common.{◌≡◌, ◌+◌, ◌*◌, ◌<◌, sym, ◌∙◌, ap, ap₂, subst, arith, if◌then◌else◌}
use Rattle.vf_elaborated.specs.declared.places.Places.{Places}
use Rattle.vf_elaborated.specs.Elaborated.{Elaborated}
use Rattle.vf_elaborated.specs.Inner.{elaborated_of}
use Rattle.vf_elaborated.specs.Addresses.{slot_at}
use Rattle.vf_elaborated.proofs.AddressLemmas.{slot_inside, words_small}
use Rattle.vf_elaborated.proofs.design.Design.slot_at.Goals as goal

-- the address as it is computed
at_is : (c : goal.After-slot_size) → c.self.inside.places.slots + c.slot_size.result * c.args.slot ≡ slot_at (elaborated_of c.self.inside) c.args.slot
unfolding slot_at
at_is c =
    ap₂ (λ begin size. begin + size * c.args.slot) (ap (λ (p : Places). p.slots) c.self.invariant.places)
    (c.slot_size.ensures ∙ ap (λ (p : Places). if p.wide then 10 else 8) c.self.invariant.places)

pub overflow_mul-result : goal.overflow_mul-result
overflow_mul-result c =
    let d = elaborated_of c.self.inside in
    let required = subst (λ (e : Elaborated). c.args.slot < e.slots) (sym c.self.view_is) c.requires in
    omega (arith, at_is c, slot_inside d c.args.slot required, words_small d c.self.invariant.formed)

pub overflow_add-result : goal.overflow_add-result
overflow_add-result c =
    let d = elaborated_of c.self.inside in
    let required = subst (λ (e : Elaborated). c.args.slot < e.slots) (sym c.self.view_is) c.requires in
    omega (arith, at_is c, slot_inside d c.args.slot required, words_small d c.self.invariant.formed)

pub returns : goal.returns
returns c = at_is c ∙ ap (λ e. slot_at e c.args.slot) c.self.view_is
