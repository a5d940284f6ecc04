use Rattle.std.proofs.Common.{◌∙◌, refl, ap, ap₂, arith}
use Rattle.vf_base.specs.Count.{Count}
use Rattle.vf_frames.proofs.CallerLemmas.{keeps-then, pool-then}
use Rattle.vf_image.specs.Runs.{limits_for}
use Rattle.vf_run.proofs.StopLemmas.{stops_since, kept_same, kept_then, token_then}
use Rattle.vf_run.proofs.run.go.Goals as goal

pub turns-init : goal.turns-init
turns-init g c = record {
  setup = refl;
  job = refl;
  token = kept_same _;
  forward = omega arith;
  steps = omega arith;
  parts = refl;
  kept = λ others accounts. accounts;
  pool = record { name = refl; told = refl };
}

pub returns-in-Some-clause-stop : goal.returns-in-Some-clause-stop
returns-in-Some-clause-stop g c = stops_since _ _ _ _ _ c.in-Some.stop c.turns.invariant.kept c.turns.invariant.token c.in-Some.ensures.some

pub returns-in-Some-clause-token : goal.returns-in-Some-clause-token
returns-in-Some-clause-token g c = token_then c.in-Some.stop _ _ _ c.turns.invariant.token c.in-Some.ensures.token

pub returns-in-Some-clause-steps : goal.returns-in-Some-clause-steps
returns-in-Some-clause-steps g c = omega (arith, c.turns.invariant.steps, c.in-Some.ensures.stayed, c.count_end.ensures.steps)

pub returns-in-Some-clause-forward : goal.returns-in-Some-clause-forward
returns-in-Some-clause-forward g c = omega (arith, c.turns.invariant.forward, c.in-Some.ensures.stayed)

pub returns-in-Some-clause-kept : goal.returns-in-Some-clause-kept
returns-in-Some-clause-kept g c = keeps-then _ _ _ _ _ _ c.turns.invariant.kept c.in-Some.ensures.kept

pub returns-in-Some-clause-pool : goal.returns-in-Some-clause-pool
returns-in-Some-clause-pool g c = pool-then _ _ _ _ _ _ c.turns.invariant.pool c.in-Some.ensures.pool

pub count_end-requires-clause-room : goal.count_end-requires-clause-room
count_end-requires-clause-room g c =
    let same = ap₂ (λ s j. (limits_for s j).turns) c.turns.invariant.setup c.turns.invariant.job in
    omega (arith, c.turns.invariant.steps, c.turns.invariant.forward, c.in-Some.ensures.within, c.in-Some.ensures.stayed, same, c.requires.room)

pub tick-requires : goal.tick-requires
tick-requires g c =
    let same = ap₂ (λ s j. (limits_for s j).turns) c.turns.invariant.setup c.turns.invariant.job in
    omega (arith, c.turns.invariant.steps, c.in_default.ensures.less, same, c.requires.room)

pub turns-smaller : goal.turns-smaller
turns-smaller g c =
    let same = ap₂ (λ s j. (limits_for s j).turns) c.turns.invariant.setup c.turns.invariant.job in
    omega (arith, c.in_default.ensures.less, c.in_default.ensures.none, same)

pub turns-preserved : goal.turns-preserved
turns-preserved g c =
    let on = c.in_default.ensures in
    record {
      setup = on.setup ∙ c.turns.invariant.setup;
      job = on.job ∙ c.turns.invariant.job;
      token = kept_then _ _ _ c.turns.invariant.token on.token_kept;
      forward = omega (arith, c.turns.invariant.forward, on.none);
      steps = omega (arith, c.turns.invariant.steps, on.none, ap (λ (n : Count). n.count) c.tick.ensures);
      parts = ap (λ (n : Count). n.parts) c.tick.ensures ∙ c.turns.invariant.parts;
      kept = keeps-then _ _ _ _ _ _ c.turns.invariant.kept on.kept;
      pool = pool-then _ _ _ _ _ _ c.turns.invariant.pool on.pool;
    }

pub returns-in-Some-clause-within : goal.returns-in-Some-clause-within
returns-in-Some-clause-within g c =
    let same = ap₂ (λ s j. (limits_for s j).turns) c.turns.invariant.setup c.turns.invariant.job in
    omega (arith, c.in-Some.ensures.within, same)
