use Rattle.std.proofs.Common.{◌≡◌, ◌∙◌, ap, arith, subst, length}
use Rattle.vf_fours.specs.Bits.{FourState}
use Rattle.vf_elaborated.specs.WellFormed.{IsWellFormed}
use Rattle.vf_layout.proofs.CallerLemmas.{ones_below, unknown_below}
use Rattle.vf_queue.proofs.SlotLemmas.{slot_some}
use Rattle.vf_queue.proofs.DueLemmas.{update_small, width_in, fits_in, sig_word, element_word, place_word, ones_plane, unknown_plane, same_update, bits_in}
use Rattle.vf_queue.proofs.due.update_in.Goals as goal

pub slot_word-place-requires-clause-at : goal.slot_word-place-requires-clause-at
slot_word-place-requires-clause-at g c = omega (arith, slot_some c.args.design.now)

pub overflow_cast-result : goal.overflow_cast-result
overflow_cast-result g c =
    let d = c.args.design.now in
    let held = c.requires.holds in
    let small = update_small d held.update (subst IsWellFormed c.design.view_is c.design.invariant.formed) held.fits in
    omega (arith, small.sig, sig_word d _ c.args.slot held.update held.stands, c.slot_word.ensures)

pub overflow_cast-result-2 : goal.overflow_cast-result-2
overflow_cast-result-2 g c =
    let d = c.args.design.now in
    let held = c.requires.holds in
    let small = update_small d held.update (subst IsWellFormed c.design.view_is c.design.invariant.formed) held.fits in
    omega (arith, small.element, element_word d _ c.args.slot held.update held.stands, c.slot_word-2.ensures)

pub overflow_cast-result-3 : goal.overflow_cast-result-3
overflow_cast-result-3 g c =
    let d = c.args.design.now in
    let held = c.requires.holds in
    let small = update_small d held.update (subst IsWellFormed c.design.view_is c.design.invariant.formed) held.fits in
    omega (arith, small.low, small.most, place_word d _ c.args.slot held.update held.stands, c.slot_word-place.ensures)

pub new-requires-clause-some : goal.new-requires-clause-some
new-requires-clause-some g c =
    let d = c.args.design.now in
    let held = c.requires.holds in
    let small = update_small d held.update (subst IsWellFormed c.design.view_is c.design.invariant.formed) held.fits in
    omega (arith, small.some, small.most, place_word d _ c.args.slot held.update held.stands, c.slot_word-place.ensures)

pub new-requires-clause-most : goal.new-requires-clause-most
new-requires-clause-most g c =
    let d = c.args.design.now in
    let held = c.requires.holds in
    let small = update_small d held.update (subst IsWellFormed c.design.view_is c.design.invariant.formed) held.fits in
    omega (arith, small.most, place_word d _ c.args.slot held.update held.stands, c.slot_word-place.ensures)

pub new-requires-clause-ones_fit : goal.new-requires-clause-ones_fit
new-requires-clause-ones_fit g c =
    let d = c.args.design.now in
    let held = c.requires.holds in
    let small = update_small d held.update (subst IsWellFormed c.design.view_is c.design.invariant.formed) held.fits in
    let width : length held.update.bits ≡ _ = width_in _ held.update.low (length held.update.bits) (c.slot_word-place.ensures ∙ place_word d _ c.args.slot held.update held.stands) small.most in
    fits_in _ _ _ _ width (c.plane-ones.ensures ∙ ones_plane d _ c.args.slot held.update held.stands) (ones_below held.update.bits)

pub new-requires-clause-unknown_fit : goal.new-requires-clause-unknown_fit
new-requires-clause-unknown_fit g c =
    let d = c.args.design.now in
    let held = c.requires.holds in
    let small = update_small d held.update (subst IsWellFormed c.design.view_is c.design.invariant.formed) held.fits in
    let width : length held.update.bits ≡ _ = width_in _ held.update.low (length held.update.bits) (c.slot_word-place.ensures ∙ place_word d _ c.args.slot held.update held.stands) small.most in
    fits_in _ _ _ _ width (c.plane-unknown.ensures ∙ unknown_plane d _ c.args.slot held.update held.stands) (unknown_below held.update.bits)

pub returns : goal.returns
returns g c = λ u fits stands.
    let d = c.args.design.now in
    let q = c.args.slot in
    let small = update_small d u (subst IsWellFormed c.design.view_is c.design.invariant.formed) fits in
    let place = c.slot_word-place.ensures ∙ place_word d _ q u stands in
    same_update _ u (c.slot_word.ensures ∙ sig_word d _ q u stands) (c.slot_word-2.ensures ∙ element_word d _ q u stands) (omega (arith, place, small.most))
    (ap (λ (v : FourState). v.bits) c.new.ensures
    ∙ bits_in u _ _ _ (width_in _ u.low (length u.bits) place small.most) (c.plane-ones.ensures ∙ ones_plane d _ q u stands) (c.plane-unknown.ensures ∙ unknown_plane d _ q u stands))
