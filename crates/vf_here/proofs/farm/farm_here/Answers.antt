use Rattle.std.proofs.Common.{◌∙◌, sym, ap}
use Rattle.std.specs.Arc.{arc_value}
use Rattle.vf_frames.specs.declared.holder.Holder.{Holder}
use Rattle.vf_frames.specs.declared.holder.Name.{Name}
use Rattle.vf_frames.specs.Plain.{pool_name, pool_numbers, token_seen}
use Rattle.vf_jobs.specs.Setup.{Conditions}
use Rattle.vf_here.proofs.WorkLemmas.{idle_first, has_run}
use Rattle.vf_here.proofs.farm.farm_here.Goals as goal

pub run_all-requires-clause-idle : goal.run_all-requires-clause-idle
run_all-requires-clause-idle g c =
    idle_first (pool_name c.in_ok-pool.pool) (pool_numbers c.in_ok-pool.pool) c.in_ok-book.book (token_seen c.in_ok-pool.hand) (arc_value c.args.setup.now)
    c.in_ok-book.ensures.account c.in_ok-book.ensures.images (ap (λ (x : Name). x.frames) c.in_ok-pool.ensures.name ∙ c.budget.ensures.budget ∙ ap (λ (x : Conditions). x.budget) c.deref.ensures)
    (ap (λ (x : Holder). x.name) c.in_ok-pool.ensures.seen ∙ sym c.in_ok-pool.ensures.name) (ap (λ (x : Holder). x.frames) c.in_ok-pool.ensures.seen) c.in_ok-pool.ensures.accounts

pub returns-clause-farm : goal.returns-clause-farm
returns-clause-farm g c =
    has_run (arc_value c.args.setup.now) c.in_ok-book.book.account c.run_all.new.book.account c.strip.result c.args.steps.now c.run_all.new.steps c.in_ok-book.ensures.account c.run_all.ensures.setup
    c.strip.ensures.records c.run_all.ensures.kept c.run_all.ensures.over c.run_all.ensures.idle.tight c.run_all.ensures.turns
