use Rattle.std.proofs.Common.{ℕ, ◌<◌, List, length, slice_index, ap, arith, subst}
use Rattle.vf_design.specs.Program.{Program}
use Rattle.vf_design.specs.Turn.{HoldsState}
use Rattle.vf_kernel.proofs.state.State.read.Goals as goal

-- the place that the words hold is in the code
place_below : (p : Program) (words : List ℕ) → HoldsState p words → slice_index words 16 < length p.code
place_below p words h = subst (λ (ws : List ℕ). slice_index ws 16 < length p.code) h.2 h.1.place

pub overflow_cast-result : goal.overflow_cast-result
overflow_cast-result g c =
    let place = place_below c.args.design.now (g.W.Words.contents c.args.words.now) c.requires in
    let most = c.design.invariant.code.most in
    let same = ap (λ (p : Program). length p.code) c.design.view_is in
    omega (arith, c.read.ensures, place, most, same)
