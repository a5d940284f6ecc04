use Rattle.std.proofs.Common.{◌≡◌, ◌<◌, length, Some, slice_get, refl, sym, ◌∙◌, ap, arith, subst}
use Rattle.std.proofs.lemmas.Option.{slice_get_read}
use Rattle.std.proofs.lemmas.Result.{IfOk-weaker}
use Rattle.vf_machine.proofs.CallerLemmas.{stimulus_of_bytes}
use Rattle.vf_design.specs.Program.{Program}
use Rattle.vf_design.specs.State.{State}
use Rattle.vf_design.specs.Step.{instruction}
use Rattle.vf_kernel.specs.State.{state_of}
use Rattle.vf_kernel.proofs.TurnLemmas.{told}
use Rattle.vf_kernel.proofs.kernel.turn.Goals as goal

pub returns-in-Running : goal.returns-in-Running
returns-in-Running g c =
    let p = c.args.design.now in
    let read = state_of c.read-state.result in
    let code = c.design.inside.code.items in
    let seen = c.design.view_is in
    IfOk-weaker c.perform.result _ _
    (λ x tells s sound e.
    let same : read ≡ s = c.read-state.ensures.state s sound e in
    let below : read.place < length code =
    subst (λ (q : Program). read.place < length q.code) (sym seen) (subst (λ (t : State). t.place < length p.code) (sym same) sound.place) in
    let here : instruction p read ≡ Some c.index-instr.result.now =
    ap (λ (q : Program). slice_get q.code read.place) (sym seen) ∙ slice_get_read code (length code) read.place c.index-instr.result.now refl below c.index-instr.ensures in
    told p c.args.stim.now c.args.limits.now c.args.header.now s read c.perform.new.into same c.read-state.ensures.formed
    (stimulus_of_bytes c.args.stim.now (λ at. omega (arith, c.type_inv.stim at))) sound (tells p here))
    c.perform.ensures
