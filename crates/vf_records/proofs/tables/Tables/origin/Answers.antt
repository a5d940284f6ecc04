use Rattle.std.proofs.Common.{◌≡◌, ◌<◌, ◌∙◌, ℕ, List, Option, Some, option_map, drop, length, slice_get, refl, sym, ap, ap₂, subst, arith}
use Rattle.std.proofs.lemmas.Option.{slice_get_read}
use Rattle.vf_base.specs.declared.names.Job.{Job}
use Rattle.vf_base.specs.declared.run.Header.{Header}
use Rattle.vf_base.specs.declared.run.Limits.{Limits}
use Rattle.vf_plan.specs.declared.plan.Node.{Node}
use Rattle.vf_plan.specs.Rules.{IsPlan}
use Rattle.vf_plan.proofs.CallerLemmas.{path-at}
use Rattle.vf_jobs.proofs.CallerLemmas.{descends}
use Rattle.vf_jobs.specs.Jobs.{first_fitting, node_no, node_of}
use Rattle.vf_jobs.specs.Limits.{limits_of}
use Rattle.vf_jobs.specs.Setup.{Conditions}
use Rattle.vf_journal.specs.Records.{image_of}
use Rattle.vf_journal.specs.Effects.{origin_of}
use Rattle.vf_records.specs.Account.{farm_of, solo_of}
use Rattle.vf_records.specs.Tables.{records_of}
use Rattle.vf_records.proofs.tables.Tables.origin.Goals as goal

pub returns-in-Reach : goal.returns-in-Reach
returns-in-Reach c =
    let s = c.args.setup.now in
    let nodes : List Node = s.plan in
    let held : ℕ → Option Header = λ n. option_map (solo_of s).counts (image_of (records_of c.args.self.now) (node_no n)) in
    let plan : IsPlan nodes = subst (λ (s : Conditions). IsPlan s.plan) c.setup.view_is c.setup.invariant.setup.plan in
    let node = c.in-Reach.node in
    let less : node.0 < length nodes = subst (λ (j : Job). node_of j < length nodes) c.in-Reach.is c.requires.node in
    let inside = c.plan.inside.nodes.items in
    let whole : inside ≡ nodes = c.plan.view_is ∙ ap (λ (s : Conditions). s.plan) c.setup.view_is in
    let long = ap length whole in
    let below : node.0 < length inside = omega (arith, long, less) in
    let here : slice_get nodes node.0 ≡ Some c.index.result.now =
    ap (λ (ns : List Node). slice_get ns node.0) (sym whole) ∙ slice_get_read inside (length inside) node.0 c.index.result.now refl below c.index.ensures in
    let down = descends nodes plan node.0 c.index.result.now here in
    c.nearest.ensures
    ∙ ap₂ (λ (l : Limits) (ns : List ℕ). option_map node_no (first_fitting l held ns)) (c.limits_of-limits.ensures.limits ∙ ap (limits_of s.limits nodes) c.in-Reach.is)
    (sym (ap (drop 1) (path-at nodes node.0 c.index.result.now here down)))
    ∙ sym (ap (origin_of (farm_of s) (solo_of s) (records_of c.args.self.now)) c.in-Reach.is)
