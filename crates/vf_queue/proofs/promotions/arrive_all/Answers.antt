use Rattle.std.proofs.Common.{◌+◌, ◌∙◌, ap, arith, sym, slice_index}
use Rattle.vf_elaborated.specs.Addresses.{FUTURE, link_at}
use Rattle.vf_layout.proofs.CallerLemmas.{sound_written}
use Rattle.vf_queue.proofs.HoldLemmas.{long}
use Rattle.vf_queue.proofs.PromotionLemmas.{some_future, none_came, next_came, none_later, next_later, no_future, future_gone, first_time, numbered}
use Rattle.vf_queue.proofs.promotions.arrive_all.Goals as goal

pub loop-init : goal.loop-init
loop-init g c = λ s sound rises holds. none_came c.args.design.now _ c.args.at s _ sound rises holds

pub front-next-requires-clause-long : goal.front-next-requires-clause-long
front-next-requires-clause-long g c =
    let d = c.args.design.now in
    let way = c.loop.invariant c.requires.state c.requires.sound c.requires.rises c.requires.holds in
    long d _ _ way.state (sound_written d way.state way.sound_is).shape way.holds

pub event-requires : goal.event-requires
event-requires g c =
    let d = c.args.design.now in
    let way = c.loop.invariant c.requires.state c.requires.sound c.requires.rises c.requires.holds in
    let some = some_future d way.state way.sound_is _ (c.front-next.ensures ∙ ap (λ words. slice_index words FUTURE) way.holds.words) c.if-next-eq0.false in
    record { to = _; below = some.below; is = some.leads }

pub time-requires-clause-number : goal.time-requires-clause-number
time-requires-clause-number g c =
    let d = c.args.design.now in
    let way = c.loop.invariant c.requires.state c.requires.sound c.requires.rises c.requires.holds in
    let some = some_future d way.state way.sound_is _ (c.front-next.ensures ∙ ap (λ words. slice_index words FUTURE) way.holds.words) c.if-next-eq0.false in
    omega (arith, some.below, some.leads, c.event.ensures)

pub time-requires-clause-long : goal.time-requires-clause-long
time-requires-clause-long g c =
    let d = c.args.design.now in
    let way = c.loop.invariant c.requires.state c.requires.sound c.requires.rises c.requires.holds in
    long d _ _ way.state (sound_written d way.state way.sound_is).shape way.holds

pub arrive_one-requires : goal.arrive_one-requires
arrive_one-requires g c =
    let d = c.args.design.now in
    let way = c.loop.invariant c.requires.state c.requires.sound c.requires.rises c.requires.holds in
    let some = some_future d way.state way.sound_is _ (c.front-next.ensures ∙ ap (λ words. slice_index words FUTURE) way.holds.words) c.if-next-eq0.false in
    record { state = way.state; sound = way.sound_is; holds = way.holds; first = some.first; rest = some.rest; future = some.is }

pub returns-then-next-eq0 : goal.returns-then-next-eq0
returns-then-next-eq0 g c = λ s sound rises holds.
    let d = c.args.design.now in
    let way = c.loop.invariant s sound rises holds in
    none_later d _ c.args.at s _ _ way (no_future d way.state way.sound_is _ (c.front-next.ensures ∙ ap (λ words. slice_index words FUTURE) way.holds.words) c.if-next-eq0.true)

pub returns-then-time-at : goal.returns-then-time-at
returns-then-time-at g c = λ s sound rises holds.
    let d = c.args.design.now in
    let way = c.loop.invariant s sound rises holds in
    let some = some_future d way.state way.sound_is _ (c.front-next.ensures ∙ ap (λ words. slice_index words FUTURE) way.holds.words) c.if-next-eq0.false in
    let n = c.event.result in
    let time =
    first_time d way.state way.sound_is some.first some.linked n _ (numbered d _ _ _ c.event.ensures some.leads)
    (c.time.ensures ∙ ap (λ words. slice_index words (link_at d n + 1)) way.holds.words) in
    next_later d _ c.args.at s _ _ way some.first some.rest some.is (λ same. c.if-time-at.true (time ∙ same))

pub loop-preserved : goal.loop-preserved
loop-preserved g c = λ s sound rises holds.
    let d = c.args.design.now in
    let way = c.loop.invariant s sound rises holds in
    let some = some_future d way.state way.sound_is _ (c.front-next.ensures ∙ ap (λ words. slice_index words FUTURE) way.holds.words) c.if-next-eq0.false in
    let n = c.event.result in
    let time =
    first_time d way.state way.sound_is some.first some.linked n _ (numbered d _ _ _ c.event.ensures some.leads)
    (c.time.ensures ∙ ap (λ words. slice_index words (link_at d n + 1)) way.holds.words) in
    next_came d _ c.args.at s _ _ _ way some.first some.rest some.is (sym time ∙ c.if-time-at.false)
    (c.in_ok-arrive_one.ensures way.state some.first some.rest way.sound_is some.is way.holds)

pub returns : goal.returns
returns g c = λ s sound rises holds.
    let d = c.args.design.now in
    let way = c.loop.invariant s sound rises holds in
    none_later d _ c.args.at s _ _ way (future_gone d _ c.args.at s sound _ _ way (omega (arith, c.loop-test.false, c.event_count-end.ensures)))
