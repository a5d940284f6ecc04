use Rattle.std.proofs.Common.{◌≡◌, ◌<◌, ◌∙◌, ℕ, if◌then◌else◌, List, Option, Some, IfSome, option_map, length, slice_get, refl, sym, ap, subst, arith}
use Rattle.std.proofs.lemmas.Option.{slice_get_read}
use Rattle.vf_base.specs.declared.names.NodeNo.{NodeNo}
use Rattle.vf_base.specs.declared.run.Header.{Header}
use Rattle.vf_plan.specs.declared.plan.Node.{Node}
use Rattle.vf_plan.specs.Rules.{IsPlan}
use Rattle.vf_jobs.proofs.CallerLemmas.{descends}
use Rattle.vf_jobs.specs.Jobs.{first_fitting, node_no}
use Rattle.vf_jobs.specs.Setup.{Conditions}
use Rattle.vf_journal.specs.Records.{image_of}
use Rattle.vf_records.specs.Account.{solo_of}
use Rattle.vf_records.specs.Tables.{records_of}
use Rattle.vf_records.proofs.ReadyLemmas.{above, height, higher, still_within, nearest_here, standing}
use Rattle.vf_records.proofs.tables.Tables.nearest.Goals as goal

pub returns-then-serves : goal.returns-then-serves
returns-then-serves c =
    let nodes : List Node = c.args.setup.now.plan in
    let held : ℕ → Option Header = λ n. option_map (solo_of c.args.setup.now).counts (image_of (records_of c.args.self.now) (node_no n)) in
    let plan : IsPlan nodes = subst (λ (s : Conditions). IsPlan s.plan) c.setup.view_is c.setup.invariant.setup.plan in
    let node = c.in-Some.node in
    let less : node.0 < length nodes = subst (λ o. IfSome o (λ (p : NodeNo). p.0 < length nodes)) c.in-Some.is c.nodes.invariant.there in
    let stands = standing nodes node.0 less in
    let limits = c.args.limits in
    sym (ap (option_map node_no) (c.nodes.invariant.same ∙ ap (λ o. first_fitting limits held (above nodes o)) c.in-Some.is
    ∙ nearest_here nodes limits held node stands.0 stands.1 (descends nodes plan node.0 stands.0 stands.1)
    ∙ ap (λ b. if b then Some node.0 else first_fitting limits held (above nodes stands.0.parent)) (sym c.serves.ensures ∙ c.if-serves.true)))

pub nodes-smaller : goal.nodes-smaller
nodes-smaller c =
    let nodes : List Node = c.args.setup.now.plan in
    let plan : IsPlan nodes = subst (λ (s : Conditions). IsPlan s.plan) c.setup.view_is c.setup.invariant.setup.plan in
    let node = c.in-Some.node in
    let less : node.0 < length nodes = subst (λ o. IfSome o (λ (p : NodeNo). p.0 < length nodes)) c.in-Some.is c.nodes.invariant.there in
    let inside = c.plan.inside.nodes.items in
    let whole : inside ≡ nodes = c.plan.view_is ∙ ap (λ (s : Conditions). s.plan) c.setup.view_is in
    let long = ap length whole in
    let below : node.0 < length inside = omega (arith, long, less) in
    let here : slice_get nodes node.0 ≡ Some c.index.result.now =
    ap (λ (ns : List Node). slice_get ns node.0) (sym whole) ∙ slice_get_read inside (length inside) node.0 c.index.result.now refl below c.index.ensures in
    subst (λ (o : Option NodeNo). height c.index.result.now.parent < height o) (sym c.in-Some.is)
    (higher c.index.result.now.parent node.0 (descends nodes plan node.0 c.index.result.now here))

pub nodes-preserved : goal.nodes-preserved
nodes-preserved c =
    let nodes : List Node = c.args.setup.now.plan in
    let held : ℕ → Option Header = λ n. option_map (solo_of c.args.setup.now).counts (image_of (records_of c.args.self.now) (node_no n)) in
    let plan : IsPlan nodes = subst (λ (s : Conditions). IsPlan s.plan) c.setup.view_is c.setup.invariant.setup.plan in
    let node = c.in-Some.node in
    let less : node.0 < length nodes = subst (λ o. IfSome o (λ (p : NodeNo). p.0 < length nodes)) c.in-Some.is c.nodes.invariant.there in
    let inside = c.plan.inside.nodes.items in
    let whole : inside ≡ nodes = c.plan.view_is ∙ ap (λ (s : Conditions). s.plan) c.setup.view_is in
    let long = ap length whole in
    let below : node.0 < length inside = omega (arith, long, less) in
    let here : slice_get nodes node.0 ≡ Some c.index.result.now =
    ap (λ (ns : List Node). slice_get ns node.0) (sym whole) ∙ slice_get_read inside (length inside) node.0 c.index.result.now refl below c.index.ensures in
    let down = descends nodes plan node.0 c.index.result.now here in
    let limits = c.args.limits in
    record {
      there = still_within c.index.result.now.parent node.0 (length nodes) less down;
      same = c.nodes.invariant.same ∙ ap (λ o. first_fitting limits held (above nodes o)) c.in-Some.is
          ∙ nearest_here nodes limits held node c.index.result.now here down
          ∙ ap (λ b. if b then Some node.0 else first_fitting limits held (above nodes c.index.result.now.parent)) (sym c.serves.ensures ∙ c.if-serves.false);
    }
