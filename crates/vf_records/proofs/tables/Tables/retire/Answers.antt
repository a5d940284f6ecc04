use Rattle.std.proofs.Common.{◌≡◌, ◌+◌, ◌<◌, ◌≤◌, ◌∙◌, true, false, Bool, Option, IfSome, length, refl, sym, ap, subst, arith}
use Rattle.vf_base.specs.declared.names.NodeNo.{NodeNo}
use Rattle.vf_plan.specs.Rules.{IsPlan}
use Rattle.vf_jobs.specs.Jobs.{node_no}
use Rattle.vf_jobs.specs.Setup.{Conditions}
use Rattle.vf_jobs.specs.Subtree.{is_below}
use Rattle.vf_jobs.proofs.CallerLemmas.{stands_before}
use Rattle.vf_journal.specs.Effects.{is_retired}
use Rattle.vf_records.specs.Account.{farm_of, solo_of, node_before}
use Rattle.vf_records.specs.Tables.{records_of}
use Rattle.vf_records.proofs.ReadyLemmas.{height}
use Rattle.vf_records.proofs.FollowLemmas.{AreRetired, retired_first, retired_one, retired_to}
use Rattle.vf_records.proofs.ServeLemmas.{below_self, none_between, next_up}
use Rattle.vf_records.proofs.tables.Tables.retire.Goals as goal

not_so : (b : Bool) → (b ≡ true → ⊥) → b ≡ false
not_so true h = absurd (h refl)
not_so false h = refl

pub nodes-init : goal.nodes-init
nodes-init c =
    let s = c.args.setup.now in
    let plan : IsPlan s.plan = subst (λ (s : Conditions). IsPlan s.plan) c.setup.view_is c.setup.invariant.setup.plan in
    record {
      there = c.requires.last;
      on = λ h. (let first = c.requires.node in let same : c.args.node.0 ≡ c.args.last.0 = omega (arith, h, first) in
          ap (is_below s.plan c.args.last.0) same ∙ below_self s.plan plan c.args.last.0 c.requires.last);
      retired = retired_to s (solo_of s).counts c.args.self.now c.requires.tables c.args.self.now (c.args.last.0 + 1) (length s.plan) (omega (arith, c.requires.last))
          (retired_first s (solo_of s).counts c.args.self.now c.requires.tables)
          (λ n low high. not_so (is_retired (farm_of s) (records_of c.args.self.now) (node_no n)) (λ gone. let most = stands_before s.plan n c.args.node.0 plan (c.requires.way n gone (λ first most. omega (arith, low, most))) in let node = c.requires.node in omega (arith, low, most, node)));
    }

pub retire_one-requires-clause-tables : goal.retire_one-requires-clause-tables
retire_one-requires-clause-tables c = c.nodes.invariant.retired.tables

pub retire_one-requires-clause-node : goal.retire_one-requires-clause-node
retire_one-requires-clause-node c = subst (λ o. IfSome o (λ (a : NodeNo). a.0 < length c.args.setup.now.plan)) c.in-Some.is c.nodes.invariant.there

pub node_before-at-requires : goal.node_before-at-requires
node_before-at-requires c =
    let less : c.in-Some.here.0 < length c.args.setup.now.plan = subst (λ o. IfSome o (λ (a : NodeNo). a.0 < length c.args.setup.now.plan)) c.in-Some.is c.nodes.invariant.there in
    let same = ap (λ (s : Conditions). length s.plan) c.setup.view_is in
    omega (arith, less, same)

pub nodes-preserved : goal.nodes-preserved
nodes-preserved c =
    let s = c.args.setup.now in
    let plan : IsPlan s.plan = subst (λ (s : Conditions). IsPlan s.plan) c.setup.view_is c.setup.invariant.setup.plan in
    let first = c.args.self.now in
    let here = c.in-Some.here in
    let node = c.args.node in
    let less : here.0 < length s.plan = subst (λ o. IfSome o (λ (a : NodeNo). a.0 < length s.plan)) c.in-Some.is c.nodes.invariant.there in
    let on : here.0 ≤ node.0 → is_below s.plan here.0 node.0 ≡ true = subst (λ o. IfSome o (λ (a : NodeNo). a.0 ≤ node.0 → is_below s.plan a.0 node.0 ≡ true)) c.in-Some.is c.nodes.invariant.on in
    let is : c.node_before-at.result ≡ node_before s.plan node.0 here.0 = c.node_before-at.ensures ∙ ap (λ (s : Conditions). node_before s.plan node.0 here.0) c.setup.view_is in
    let up = next_up s.plan plan node.0 here.0 less on in
    let so_far : AreRetired s (solo_of s).counts first c.nodes.self (here.0 + 1) = subst (λ o. AreRetired s (solo_of s).counts first c.nodes.self (height o)) c.in-Some.is c.nodes.invariant.retired in
    let one = retired_one s (solo_of s).counts first c.requires.tables c.nodes.self c.retire_one.new.self here.0 so_far c.retire_one.ensures.records c.retire_one.ensures.journal c.retire_one.ensures.tables in
    let lower = up.lower in
    record {
      there = subst (λ o. IfSome o (λ (a : NodeNo). a.0 < length s.plan)) (sym is) up.there;
      on = subst (λ o. IfSome o (λ (a : NodeNo). a.0 ≤ node.0 → is_below s.plan a.0 node.0 ≡ true)) (sym is) up.on;
      retired = subst (λ (o : Option NodeNo). AreRetired s (solo_of s).counts first c.retire_one.new.self (height o)) (sym is)
          (retired_to s (solo_of s).counts first c.requires.tables c.retire_one.new.self (height (node_before s.plan node.0 here.0)) here.0 (omega (arith, lower)) one
          (λ n low high. not_so (is_retired (farm_of s) (records_of first) (node_no n)) (λ gone. none_between s.plan plan node.0 here.0 less on n low high (λ less_n. c.requires.way n gone (λ first most. omega (arith, first, less_n))))));
    }

pub nodes-smaller : goal.nodes-smaller
nodes-smaller c =
    let s = c.args.setup.now in
    let plan : IsPlan s.plan = subst (λ (s : Conditions). IsPlan s.plan) c.setup.view_is c.setup.invariant.setup.plan in
    let here = c.in-Some.here in
    let node = c.args.node in
    let less : here.0 < length s.plan = subst (λ o. IfSome o (λ (a : NodeNo). a.0 < length s.plan)) c.in-Some.is c.nodes.invariant.there in
    let on : here.0 ≤ node.0 → is_below s.plan here.0 node.0 ≡ true = subst (λ o. IfSome o (λ (a : NodeNo). a.0 ≤ node.0 → is_below s.plan a.0 node.0 ≡ true)) c.in-Some.is c.nodes.invariant.on in
    let is : c.node_before-at.result ≡ node_before s.plan node.0 here.0 = c.node_before-at.ensures ∙ ap (λ (s : Conditions). node_before s.plan node.0 here.0) c.setup.view_is in
    let lower = (next_up s.plan plan node.0 here.0 less on).lower in
    let was : height c.nodes.at ≡ here.0 + 1 = ap height c.in-Some.is in
    let now : height c.node_before-at.result ≡ height (node_before s.plan node.0 here.0) = ap height is in
    omega (arith, lower, was, now)
