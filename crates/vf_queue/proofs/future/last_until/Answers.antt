use Rattle.std.proofs.Common.{◌+◌, ◌∙◌, ap, arith, slice_index}
use Rattle.vf_elaborated.specs.Addresses.{FUTURE, link_at}
use Rattle.vf_layout.proofs.CallerLemmas.{sound_written}
use Rattle.vf_queue.proofs.HoldLemmas.{long}
use Rattle.vf_queue.proofs.ListLemmas.{leads_to}
use Rattle.vf_queue.proofs.FutureLemmas.{begun, at_end, at_later, one_passed, exhausted, leads_on}
use Rattle.vf_queue.proofs.future.last_until.Goals as goal

pub front-next-requires-clause-long : goal.front-next-requires-clause-long
front-next-requires-clause-long g c =
    let underway = c.requires in
    long c.args.design.now _ _ underway.state (sound_written c.args.design.now underway.state underway.sound).shape underway.holds

pub loop-init : goal.loop-init
loop-init g c = λ s sound holds. begun c.args.design.now s c.args.at sound _ (c.front-next.ensures ∙ ap (λ words. slice_index words FUTURE) holds.words)

pub returns-then-next-eq0 : goal.returns-then-next-eq0
returns-then-next-eq0 g c = λ s sound holds. at_end c.args.design.now s c.args.at sound _ _ _ (c.loop.invariant s sound holds) c.if-next-eq0.true

pub event-number-requires : goal.event-number-requires
event-number-requires g c =
    let underway = c.requires in
    leads_on c.args.design.now underway.state c.args.at underway.sound _ _ _ (c.loop.invariant underway.state underway.sound underway.holds) c.if-next-eq0.false

pub time-requires-clause-number : goal.time-requires-clause-number
time-requires-clause-number g c =
    let underway = c.requires in
    leads_to c.args.design.now c.event-number.result c.loop.next
    (leads_on c.args.design.now underway.state c.args.at underway.sound _ _ _ (c.loop.invariant underway.state underway.sound underway.holds) c.if-next-eq0.false)
    c.event-number.ensures

pub time-requires-clause-long : goal.time-requires-clause-long
time-requires-clause-long g c =
    let underway = c.requires in
    long c.args.design.now _ _ underway.state (sound_written c.args.design.now underway.state underway.sound).shape underway.holds

pub returns-then-at-time : goal.returns-then-at-time
returns-then-at-time g c =
    λ s sound holds.
    let at = c.event-number.result in
    at_later c.args.design.now s c.args.at sound _ _ _ (c.loop.invariant s sound holds) at _ c.event-number.ensures
    (c.time.ensures ∙ ap (λ words. slice_index words (link_at c.args.design.now at + 1)) holds.words) c.if-at-time.true

pub link-next-requires-clause-number : goal.link-next-requires-clause-number
link-next-requires-clause-number g c =
    let underway = c.requires in
    leads_to c.args.design.now c.event-number.result c.loop.next
    (leads_on c.args.design.now underway.state c.args.at underway.sound _ _ _ (c.loop.invariant underway.state underway.sound underway.holds) c.if-next-eq0.false)
    c.event-number.ensures

pub link-next-requires-clause-long : goal.link-next-requires-clause-long
link-next-requires-clause-long g c =
    let underway = c.requires in
    long c.args.design.now _ _ underway.state (sound_written c.args.design.now underway.state underway.sound).shape underway.holds

pub loop-preserved : goal.loop-preserved
loop-preserved g c = λ s sound holds.
    let at = c.event-number.result in
    one_passed c.args.design.now s c.args.at sound _ _ _ (c.loop.invariant s sound holds) at _ _ c.event-number.ensures
    (c.time.ensures ∙ ap (λ words. slice_index words (link_at c.args.design.now at + 1)) holds.words) (omega (arith, c.if-at-time.false))
    (c.link-next.ensures ∙ ap (λ words. slice_index words (link_at c.args.design.now at)) holds.words)

pub returns : goal.returns
returns g c = λ s sound holds. exhausted c.args.design.now s c.args.at sound _ _ _ (c.loop.invariant s sound holds) (omega (arith, c.loop-test.false, c.event_count-end.ensures))
