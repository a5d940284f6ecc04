use Rattle.std.proofs.Common.{◌∙◌, arith, refl, sym}
use Rattle.vf_elaborated.proofs.CallerLemmas.{front_inside}
use Rattle.vf_queue.proofs.ListLemmas.{first_taken}
use Rattle.vf_queue.proofs.lists.take.Goals as goal

pub returns : goal.returns
returns g c =
    let d = c.args.design.now in
    let base = g.W.Words.contents c.args.words.now in (
      sym c.front.ensures ∙ c.event-number.ensures,
      first_taken d base _ _ _ _ c.args.at c.event-number.result _ _ c.args.tailed _ c.front.ensures c.event-number.ensures c.link-next.ensures refl
          (c.clear_tail.ensures base (omega (arith, front_inside d, c.requires.at, c.requires.long)))
          (c.put_front.ensures base (omega (arith, front_inside d, c.requires.at, c.requires.long))) (c.in_ok-put_link.ensures base c.requires.long),
    )
