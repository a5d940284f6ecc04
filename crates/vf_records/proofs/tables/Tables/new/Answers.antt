use Rattle.std.proofs.Common.{◌∙◌, ◌<◌, ℕ, List, Option, None, length, map, sym, ap, subst, rules, arith, get_or}
use Rattle.std.proofs.lemmas.Grind.{common_steps}
use Rattle.vf_journal.specs.declared.entry.Told.{Told}
use Rattle.vf_plan.specs.declared.plan.Node.{Node}
use Rattle.vf_plan.specs.Rules.{IsPlan}
use Rattle.vf_jobs.specs.Jobs.{node_of}
use Rattle.vf_jobs.specs.Setup.{Conditions}
use Rattle.vf_journal.specs.Holding.{AreDistinct}
use Rattle.vf_records.specs.declared.row.HeldImage.{HeldImage}
use Rattle.vf_records.specs.Tables.{held_of, pins_in}
use Rattle.vf_records.specs.Counts.{jobs_below, over_below, AreEnded}
use Rattle.vf_records.proofs.CountLemmas.{none_over}
use Rattle.vf_records.proofs.EventLemmas.{shown_first, none_imaged, same_all}
use Rattle.vf_records.proofs.tables.Tables.new.Goals as goal

pub returns-clause-records : goal.returns-clause-records
returns-clause-records c =
    shown_first c.in_ok-layout.layout.jobs.items c.in_ok-layout.layout.places.items c.in_ok-kinds.kinds.items c.in_ok-progress.progress.items c.in_ok-told.told.items c.in_ok-held.held.items
    c.len-count.result c.len.result c.in_ok-kinds.ensures c.in_ok-progress.ensures c.in_ok-told.ensures c.in_ok-held.ensures.items

pub returns-clause-kept : goal.returns-clause-kept
returns-clause-kept c = record {
  layout = search rules;
  progress = grind (arith, common_steps);
  told = grind (arith, common_steps);
  quiet = λ k left. ap (λ (os : List (Option Told)). get_or os k None) c.in_ok-told.ensures ∙ same_all c.len-count.result k None;
  kinds = grind (arith, common_steps);
  first = search rules;
  counted = search rules;
  within = search rules;
  imaged = none_imaged c.in_ok-held.held.items c.in_ok-images.images.items c.len-2.result c.in_ok-held.ensures.items c.in_ok-images.ensures;
  images = grind (arith, common_steps);
  apart = subst (λ (hs : List HeldImage). AreDistinct (map held_of hs)) (sym c.in_ok-held.ensures.items) tt;
  pinned = λ n inside.
      ap (λ (ks : List ℕ). get_or ks n 0) c.in_ok-pins.ensures ∙ same_all c.len-3.result n 0
      ∙ sym (ap (λ (hs : List HeldImage). pins_in hs n) c.in_ok-held.ensures.items);
  pins = grind (arith, common_steps);
  numbered = record {
    all_long = c.in_ok-all.ensures.length ∙ ap (λ (ns : List Node). length ns) c.nodes.ensures.nodes;
    done_long = grind (arith, common_steps);
    all_counted = λ n. c.in_ok-all.ensures.counted n ∙ ap (λ (ns : List Node). jobs_below ns n c.in_ok-layout.layout.jobs.items) c.nodes.ensures.nodes;
    done_counted = λ n.
        ap (λ (ks : List ℕ). get_or ks n 0) c.in_ok-done.ensures ∙ same_all c.len-4.result n 0
        ∙ sym (ap (over_below c.args.setup.now.plan n c.in_ok-layout.layout.jobs.items) c.in_ok-progress.ensures ∙ none_over c.args.setup.now.plan n c.in_ok-layout.layout.jobs.items c.len-count.result);
  };
  ended = subst (λ (ns : List Node). AreEnded ns c.in_ok-layout.layout.jobs.items c.in_ok-ends.ends.items) c.nodes-2.ensures.nodes c.in_ok-ends.ensures.ended;
  ends = c.in_ok-ends.ensures.length ∙ ap (λ (ns : List Node). length ns) c.nodes-2.ensures.nodes;
  room = grind (arith, common_steps);
}

pub counted-requires-clause-plan : goal.counted-requires-clause-plan
counted-requires-clause-plan c = subst IsPlan (sym c.nodes.ensures.nodes) c.nodes.ensures.kept.plan

pub counted-requires-clause-within : goal.counted-requires-clause-within
counted-requires-clause-within c = λ i job e. subst (λ (ns : List Node). node_of job < length ns) (sym c.nodes.ensures.nodes) (subst (λ (s : Conditions). node_of job < length s.plan) c.setup.view_is (c.in_ok-layout.ensures.within i job e))

pub ends_of-requires-clause-plan : goal.ends_of-requires-clause-plan
ends_of-requires-clause-plan c = subst IsPlan (sym c.nodes-2.ensures.nodes) c.nodes-2.ensures.kept.plan

pub ends_of-requires-clause-within : goal.ends_of-requires-clause-within
ends_of-requires-clause-within c = λ i job e. subst (λ (ns : List Node). node_of job < length ns) (sym c.nodes-2.ensures.nodes) (subst (λ (s : Conditions). node_of job < length s.plan) c.setup.view_is (c.in_ok-layout.ensures.within i job e))
