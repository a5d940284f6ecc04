use Rattle.std.proofs.Common.{arith, ap, ◌+◌}
use Rattle.std.proofs.lemmas.Result.{on_ok_weaker}
use Rattle.vf_elaborated.proofs.CallerLemmas.{front_inside}
use Rattle.vf_queue.proofs.ListLemmas.{first_put}
use Rattle.vf_queue.proofs.lists.put_first.Goals as goal

pub returns : goal.returns
returns g c =
    let d = c.args.design.now in
    let base = g.W.Words.contents c.args.words.now in
    on_ok_weaker c.put_link.result
    (λ linked. first_put d base _ _ _ c.args.number _ _ c.front-head.ensures (ap (λ n. n + 1) c.from.ensures)
    (c.put_front.ensures base (omega (arith, front_inside d, c.requires.long))) (linked base c.requires.long))
    c.put_link.ensures
