use Rattle.std.proofs.Common.{◌≡◌, ◌+◌, ◌-◌, ◌≤◌, [], ◌∷◌}
use Rattle.vf_frames.specs.Holders.{Keeps, SamePool}
use Rattle.vf_image.specs.Runs.{limits_for}
use Rattle.vf_run.specs.Stops.{HasKept}
use Rattle.vf_run.proofs.run.go.Given as goal

-- as far as the run has come
abbrev pub invariant-turns : goal.invariant-turns
invariant-turns g l = record {
  setup : l.sim.setup ≡ l.fn.sim.setup;
  job : l.sim.job ≡ l.fn.sim.job;
  token : HasKept l.fn.sim.pages.holder l.sim.pages.holder;
  forward : l.fn.sim.header.turns ≤ l.sim.header.turns;
  steps : l.steps.count + l.fn.sim.header.turns ≡ l.fn.steps.count + l.sim.header.turns;
  parts : l.steps.parts ≡ l.fn.steps.parts;
  kept : Keeps (g.F.Frames.numbers l.fn.pool) (l.fn.sim.pages.holder ∷ []) (g.F.Frames.numbers l.pool) (l.sim.pages.holder ∷ []);
  pool : SamePool (g.F.Frames.name l.fn.pool) (g.F.Frames.numbers l.fn.pool) (g.F.Frames.name l.pool) (g.F.Frames.numbers l.pool);
}

abbrev pub decreases-turns : goal.decreases-turns
decreases-turns g l = (limits_for l.fn.sim.setup l.fn.sim.job).turns - l.sim.header.turns
