use Rattle.std.proofs.Common.{◌≡◌, ◌+◌, ◌∙◌, ℕ, List, Some, refl, sym, ap, slice_get, get_or, length, take, arith}
use Rattle.std.proofs.lemmas.List.{length-replicate}
use Rattle.std.proofs.lemmas.Option.{slice_get_read}
use Rattle.vf_jobs.specs.Subtree.{is_below}
use Rattle.vf_records.specs.Counts.{one, jobs_below}
use Rattle.vf_records.proofs.CountLemmas.{counted_next, one_most, below_most, taken_most, none_below, take_none, take_all}
use Rattle.vf_records.proofs.EventLemmas.{same_all}
use Rattle.vf_records.proofs.counts.counted.Goals as goal

pub loop-at-init : goal.loop-at-init
loop-at-init c = record {
  long = ap length c.in_ok-counts.ensures ∙ length-replicate (length c.args.nodes.now) 0;
  counted = λ n.
      ap (λ (ks : List ℕ). get_or ks n 0) c.in_ok-counts.ensures ∙ same_all (length c.args.nodes.now) n 0 ∙ none_below c.args.nodes.now n
      ∙ ap (jobs_below c.args.nodes.now n) (sym (take_none c.args.jobs.now.items));
}

pub count_up-requires-clause-at : goal.count_up-requires-clause-at
count_up-requires-clause-at c =
    let jobs = c.args.jobs.now.items in
    let job = c.index.result.now in
    let here : slice_get jobs c.loop-at.at ≡ Some job = slice_get_read jobs (length jobs) c.loop-at.at job refl (omega arith) c.index.ensures in
    let within = c.requires.within c.loop-at.at job here in
    omega (arith, within, c.node_of.ensures)

pub loop-at-preserved : goal.loop-at-preserved
loop-at-preserved c =
    let nodes = c.args.nodes.now in
    let jobs = c.args.jobs.now.items in
    let job = c.index.result.now in
    let here : slice_get jobs c.loop-at.at ≡ Some job = slice_get_read jobs (length jobs) c.loop-at.at job refl (omega arith) c.index.ensures in
    record {
      long = c.count_up.ensures.length;
      counted = λ n.
          c.count_up.ensures.counted n
          (let is = c.loop-at.invariant.counted n in
          let most = below_most nodes n (take c.loop-at.at jobs) in
          let taken = taken_most jobs c.loop-at.at in
          let step = one_most (is_below nodes n c.node_of.result.0) in
          omega (arith, is, most, taken, step, c.args.jobs.now.ok.0))
          ∙ ap (λ m. get_or c.loop-at.counts.items n 0 + one (is_below nodes n m)) c.node_of.ensures
          ∙ counted_next nodes n jobs c.loop-at.at job (get_or c.loop-at.counts.items n 0) here (c.loop-at.invariant.counted n);
    }

pub returns-clause-counted : goal.returns-clause-counted
returns-clause-counted c = λ n.
    let jobs = c.args.jobs.now.items in
    c.loop-at.invariant.counted n ∙ ap (jobs_below c.args.nodes.now n) (take_all jobs c.loop-at.at (omega arith))
