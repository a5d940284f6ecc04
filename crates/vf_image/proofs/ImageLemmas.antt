-- Images of save points.
use Rattle.std.proofs.Common.{◌≡◌, ℕ, ◌<◌, ◌∙◌, length, None, refl, sym, ap, subst}
use Rattle.vf_base.specs.declared.names.Job.TheVariants.{Reach}
use Rattle.vf_base.specs.declared.names.NodeNo.{NodeNo}
use Rattle.vf_jobs.specs.Jobs.{node_of}
use Rattle.vf_image.specs.Runs.{last_save, AreSound, IsRunAt, Stands}
use Rattle.vf_image.specs.Simulators.{Simulator, IsSimulator}
use Rattle.vf_image.specs.Images.{Checkpoint, IsImage, full}
use Rattle.vf_image.specs.Runs.{IsSavedAt}

pub node_is : (node : NodeNo) (n : ℕ) → node.0 ≡ n → node ≡ record { 0 = n }
node_is node n e = λ i. record { 0 = e i }

-- the simulator at its save point, kept whole
kept_whole : (s : Simulator) (node : NodeNo) → IsSimulator s → s.job ≡ Reach node → node.0 ≡ node_of s.job → IsSavedAt s.setup node s.header.turns
    → IsImage (record { setup = s.setup; node = node; base = None; header = s.header; text = s.text; saved = s.saved; pages = s.pages })
kept_whole s node sim reach is saved = record {
  setup = sim.setup;
  node = subst (λ n. n < length s.setup.plan) (sym is) sim.job;
  at_save = saved;
  saved = sim.saved ∙ ap (λ job. last_save s.setup job s.header.turns) reach;
  sound = subst (λ job. AreSound s.setup job s.header.turns) reach sim.sound;
  run = subst (λ job. IsRunAt s.setup job s.header.turns s.header s.text) reach sim.at.run;
  held = full refl (subst (λ job. Stands s.setup job s.header.turns s.pages) reach sim.at.stands);
}

pub full_image : (s : Simulator) (i : Checkpoint) → IsSimulator s → s.job ≡ Reach (record { 0 = node_of s.job }) → IsSavedAt s.setup (record { 0 = node_of s.job }) s.header.turns
    → i.setup ≡ s.setup → i.node.0 ≡ node_of s.job → i.base ≡ None → i.header ≡ s.header → i.text ≡ s.text → i.saved ≡ s.saved → i.pages ≡ s.pages → IsImage i
full_image s i sim reach at_save setup node base header text saved pages =
    subst IsImage (λ t. record { setup = sym setup t; node = record { 0 = sym node t }; base = sym base t; header = sym header t; text = sym text t; saved = sym saved t; pages = sym pages t })
    (kept_whole s (record { 0 = node_of s.job }) sim reach refl at_save)
