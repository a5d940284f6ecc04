use Rattle.std.proofs.Common.{◌≡◌, ◌∙◌, IfOk, Result, Ok, Err, ap, arith}
use Rattle.vf_base.specs.declared.run.Header.{Header}
use Rattle.vf_base.specs.declared.run.Limits.{Limits}
use Rattle.vf_jobs.specs.Setup.{Conditions}
use Rattle.vf_image.specs.Simulators.{IsSimulator}
use Rattle.vf_run.proofs.StopLemmas.{reads_within, next_is}
use Rattle.vf_run.proofs.run.next_turn.Goals as goal

pub turn-requires-clause-reads : goal.turn-requires-clause-reads
turn-requires-clause-reads g c =
    let s = c.args.sim.now in
    let sim : IsSimulator s = c.header.ensures.kept in
    let few = reads_within s sim in
    let reads = ap (λ (h : Header). h.reads) c.header.ensures.header in
    let most = ap (λ (l : Limits). l.turns) c.requires.limits in
    let high = c.requires.range.turns.1 in
    omega (arith, few, reads, most, high)

weaker : {X E : Type 0} {P Q : X → Type 0} (r : Result X E) → ((x : X) → P x → Q x) → IfOk r P → IfOk r Q
weaker (Ok x) f p = f x p
weaker (Err e) f p = tt

pub returns : goal.returns
returns g c =
    let s = c.args.sim.now in
    let sim : IsSimulator s = c.header.ensures.kept in
    let setup : c.deref.result.now ≡ s.setup = c.deref.ensures ∙ c.setup.ensures in
    let design = ap (λ (x : Conditions). x.design) (c.behind-setup.view_is ∙ setup) in
    weaker c.turn.result (λ _ said. next_is s _ _ _ _ c.turn.new.into sim design c.stimulus.ensures c.requires.limits c.header.ensures.header said) c.turn.ensures
