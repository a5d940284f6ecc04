use Rattle.std.proofs.Common.{arith, ap, sym, ◌∙◌, ◌+◌, subst}
use Rattle.std.proofs.lemmas.Result.{on_ok_weaker}
use Rattle.vf_elaborated.proofs.CallerLemmas.{front_inside}
use Rattle.vf_queue.specs.Writing.{Leads}
use Rattle.vf_queue.proofs.ListLemmas.{leads_to, join_first, join_last}
use Rattle.vf_queue.proofs.lists.join.Goals as goal

pub returns-then-head-eq0 : goal.returns-then-head-eq0
returns-then-head-eq0 g c =
    let inside = front_inside c.args.design.now in
    let base = g.W.Words.contents c.args.words.now in
    join_first c.args.design.now base _ _ _ c.args.at c.args.number c.front-head.result _ c.front-head.ensures c.if-head-eq0.true
    (ap (λ n. n + 1) c.from-to_it.ensures) (c.put_front.ensures base (omega (arith, inside, c.requires.at, c.requires.long)))
    (c.put_front-then-head-eq0.ensures base (omega (arith, inside, c.requires.at, c.requires.long)))

pub event-requires : goal.event-requires
event-requires g c =
    subst (Leads c.args.design.now) (sym c.front-tail.ensures)
    (c.requires.tail (λ none. c.if-head-eq0.false (c.front-head.ensures ∙ none)))

pub put_link-requires : goal.put_link-requires
put_link-requires g c =
    record { number = leads_to c.args.design.now c.event.result c.front-tail.result (event-requires g c.before) c.event.ensures }

pub returns : goal.returns
returns g c =
    let d = c.args.design.now in
    let base = g.W.Words.contents c.args.words.now in
    on_ok_weaker c.put_link.result
    (λ linked. join_last d base _ _ _ c.args.at c.args.number c.front-head.result c.front-tail.result c.event.result _ c.front-head.ensures c.if-head-eq0.false
    c.front-tail.ensures c.event.ensures (ap (λ n. n + 1) c.from-to_it.ensures) (c.put_front.ensures base (omega (arith, front_inside d, c.requires.at, c.requires.long)))
    (linked base c.requires.long))
    c.put_link.ensures
