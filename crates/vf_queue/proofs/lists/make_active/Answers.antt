use Rattle.std.proofs.Common.{arith}
use Rattle.vf_elaborated.proofs.CallerLemmas.{front_inside}
use Rattle.vf_queue.proofs.ListLemmas.{all_moved}
use Rattle.vf_queue.proofs.lists.make_active.Goals as goal

pub returns : goal.returns
returns g c =
    let inside = front_inside c.args.design.now in
    let base = g.W.Words.contents c.args.words.now in
    all_moved base _ _ _ _ _ c.args.at _ _ c.front-head.ensures c.front-tail.ensures (c.put_front.ensures base (omega (arith, inside, c.requires.long)))
    (c.put_front-2.ensures base (omega (arith, inside, c.requires.long))) (c.put_front-3.ensures base (omega (arith, inside, c.requires.at, c.requires.long)))
    (c.put_front-4.ensures base (omega (arith, inside, c.requires.at, c.requires.long)))
