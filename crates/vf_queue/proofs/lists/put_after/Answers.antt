use Rattle.std.proofs.Common.{ap, ◌+◌}
use Rattle.std.proofs.lemmas.Result.{on_ok_weaker}
use Rattle.vf_queue.proofs.ListLemmas.{after_put}
use Rattle.vf_queue.proofs.lists.put_after.Goals as goal

pub returns : goal.returns
returns g c =
    let base = g.W.Words.contents c.args.words.now in
    on_ok_weaker c.put_link-2.result
    (λ linked. after_put c.args.design.now base _ _ _ c.args.other c.args.number _ _ c.link-next.ensures (ap (λ n. n + 1) c.from.ensures)
    (c.in_ok-put_link.ensures base c.requires.long) (linked base c.requires.long))
    c.put_link-2.ensures
