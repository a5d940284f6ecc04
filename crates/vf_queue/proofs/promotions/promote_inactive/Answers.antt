use Rattle.std.proofs.Common.{◌∙◌, ap, arith, slice_index}
use Rattle.vf_elaborated.specs.Addresses.{INACTIVE}
use Rattle.vf_layout.proofs.CallerLemmas.{sound_written}
use Rattle.vf_queue.proofs.HoldLemmas.{long}
use Rattle.vf_queue.proofs.PromotionLemmas.{none_promoted, one_promoted, all_promoted, some_inactive, no_inactive, inactive_gone}
use Rattle.vf_queue.proofs.promotions.promote_inactive.Goals as goal

pub loop-init : goal.loop-init
loop-init g c = λ s sound holds. none_promoted c.args.design.now _ s _ sound holds

pub front-requires-clause-long : goal.front-requires-clause-long
front-requires-clause-long g c =
    let d = c.args.design.now in
    let way = c.loop.invariant c.requires.state c.requires.sound c.requires.holds in
    long d _ _ way.state (sound_written d way.state way.sound_is).shape way.holds

pub promote_one-requires : goal.promote_one-requires
promote_one-requires g c =
    let d = c.args.design.now in
    let way = c.loop.invariant c.requires.state c.requires.sound c.requires.holds in
    let some = some_inactive d way.state way.sound_is _ (c.front.ensures ∙ ap (λ words. slice_index words INACTIVE) way.holds.words) c.if-front-eq0.false in
    record { state = way.state; sound = way.sound_is; holds = way.holds; first = some.first; rest = some.rest; inactive = some.is }

pub loop-preserved : goal.loop-preserved
loop-preserved g c = λ s sound holds.
    let d = c.args.design.now in
    let base = g.W.Words.contents c.args.words.now in
    let way = c.loop.invariant s sound holds in
    let some = some_inactive d way.state way.sound_is _ (c.front.ensures ∙ ap (λ words. slice_index words INACTIVE) way.holds.words) c.if-front-eq0.false in
    one_promoted d base s _ _ _ way some.first some.rest some.is (c.in_ok-promote_one.ensures way.state some.first some.rest way.sound_is some.is way.holds)

pub returns-then-front-eq0 : goal.returns-then-front-eq0
returns-then-front-eq0 g c = λ s sound holds.
    let d = c.args.design.now in
    let way = c.loop.invariant s sound holds in
    all_promoted d _ s _ _ way (no_inactive d way.state way.sound_is _ (c.front.ensures ∙ ap (λ words. slice_index words INACTIVE) way.holds.words) c.if-front-eq0.true)

pub returns : goal.returns
returns g c = λ s sound holds.
    let d = c.args.design.now in
    let way = c.loop.invariant s sound holds in
    all_promoted d _ s _ _ way (inactive_gone d _ s sound _ _ way (omega (arith, c.loop-test.false, c.event_count-end.ensures)))
