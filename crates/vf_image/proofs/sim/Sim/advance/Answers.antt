use Rattle.std.proofs.Common.{suc, ◌≡◌, ◌∙◌, ◌++◌, false, length, map, Result, Ok, Err, OnOk, sym, ap, subst}
use Rattle.std.specs.Arc.{arc_value}
use Rattle.std.specs.Result.{is_err}
use Rattle.vf_frames.specs.Numbers.{rises}
use Rattle.vf_pages.specs.Writes.{address}
use Rattle.vf_pages.specs.Calls.{Wrote, OnRefusal, IsShort, IsUnmade}
use Rattle.vf_image.specs.Runs.{IsAt, GoesPast, touched_in}
use Rattle.vf_image.specs.Simulators.{Simulator, IsNext}
use Rattle.vf_image.proofs.StepLemmas.{next_writes, at_next, saves_next, sound_next}
use Rattle.vf_image.proofs.CountLemmas.{refused_counted}
use Rattle.vf_image.proofs.sim.Sim.advance.Goals as goal

ok_from : {A E : Type 0} {P : Type 0} (r : Result A E) → is_err r ≡ false → OnOk r P → P
ok_from (Ok x) h p = p
ok_from (Err e) h p = absurd cc

pub write_all-requires-clause-writes : goal.write_all-requires-clause-writes
write_all-requires-clause-writes g c =
    let next = subst (λ (s : Simulator). IsNext s c.args.turn.now) (sym c.self.view_is) c.requires.next in
    ap (λ ws. rises 0 (length c.self.inside.pages.zero) (map address ws)) c.deref.ensures.value
    ∙ next_writes _ c.args.turn.now c.self.invariant.0 next

pub invariant_of-self-in-Ok : goal.invariant_of-self-in-Ok
invariant_of-self-in-Ok g c =
    let sim = c.self.invariant.0 in
    let next = subst (λ (s : Simulator). IsNext s c.args.turn.now) (sym c.self.view_is) c.requires.next in
    let past = subst (λ (s : Simulator). GoesPast s.setup s.job s.header.turns) (sym c.self.view_is) c.requires.goes_past in
    let wrote = subst (λ ws. Wrote ws c.self.inside.pages c.write_all.new.self) c.deref.ensures.value c.in-Ok.ensures.ok in
    let text : c.append.new.text ≡ c.self.inside.text ++ c.args.turn.now.text =
    ok_from c.append.result (sym c.is_err.ensures.value ∙ c.if-is_err.false) c.append.ensures.ok ∙ ap (λ more. c.self.inside.text ++ more) c.bytes.ensures in (
      record {
        setup = sim.setup;
        job = sim.job;
        saved = c.save_of-self-inside.ensures ∙ saves_next _ c.args.turn.now c.write_all.new.self sim next c.requires.goes_on past wrote;
        sound = sound_next _ c.args.turn.now c.write_all.new.self sim next c.requires.goes_on past wrote;
        at = subst (λ bytes. IsAt (arc_value c.self.inside.setup) c.self.inside.job c.args.turn.now.header.turns c.args.turn.now.header bytes c.write_all.new.self) (sym text)
            (at_next _ c.args.turn.now c.write_all.new.self sim next c.requires.goes_on past wrote);
      },
      c.self.invariant.1,
    )

pub returns-after-self-clause-number : goal.returns-after-self-clause-number
returns-after-self-clause-number g c =
    let next = subst (λ (s : Simulator). IsNext s c.args.turn.now) (sym c.self.view_is) c.requires.next in
    let refused = subst (λ ws. OnRefusal c.in-Err.refusal (λ k. IsShort k ws c.self.inside.pages c.write_all.new.self) (IsUnmade c.self.inside.pages c.write_all.new.self))
    c.deref.ensures.value c.in-Err.ensures.refused in
    subst (λ (s : Simulator). OnRefusal c.in-Err.refusal (λ k. k ≡ touched_in s.setup s.job (suc s.header.turns)) (Unit {0})) c.self.view_is
    (refused_counted _ c.args.turn.now c.in-Err.refusal c.write_all.new.self c.self.invariant.0 next c.in-Err.ensures.sorted refused)
