use Rattle.std.proofs.Common.{◌≡◌, Some, None, refl, sym, subst, get_or, slice_get, length}
use Rattle.std.proofs.lemmas.Option.{slice_get_read}
use Rattle.vf_jobs.specs.Tables.{IsGreatest}
use Rattle.vf_jobs.proofs.LimitLemmas.{taken_in, passed_by}
use Rattle.vf_jobs.proofs.limits.take_in.Goals as goal

pub returns-then-node : goal.returns-then-node
returns-then-node c =
    let nodes = c.args.nodes.now in
    let node = c.index-nodes-at.result in
    let before = c.args.tops.now.items in
    let here : slice_get nodes c.args.at ≡ Some node = slice_get_read nodes (length nodes) c.args.at node refl c.requires.at c.index-nodes-at.is in
    record {
      long = c.raise.ensures.length;
      each = λ n h. subst (IsGreatest c.args.given nodes c.args.at n) (sym (c.raise.ensures.raised n))
          (taken_in c.args.given nodes c.args.at node here n (get_or before n None) (c.requires.tops.each n h) c.limits_of_test.result c.limits_of_test.ensures c.if-node.true);
    }

pub returns-else-node : goal.returns-else-node
returns-else-node c =
    let nodes = c.args.nodes.now in
    let node = c.index-nodes-at.result in
    let here : slice_get nodes c.args.at ≡ Some node = slice_get_read nodes (length nodes) c.args.at node refl c.requires.at c.index-nodes-at.is in
    record {
      long = c.requires.tops.long;
      each = λ n h. passed_by c.args.given nodes c.args.at node here n (get_or c.args.tops.now.items n None) (c.requires.tops.each n h) c.if-node.false;
    }
