use Rattle.std.proofs.Common.{◌≡◌, ◌+◌, ◌∙◌, ap, arith, subst, sym, slice_index, map}
use Rattle.vf_elaborated.specs.Addresses.{FUTURE, link_at}
use Rattle.vf_elaborated.proofs.CallerLemmas.{front_inside}
use Rattle.vf_scheduler.specs.State.{State}
use Rattle.vf_scheduler.specs.Posting.{time_of}
use Rattle.vf_scheduler.specs.Turning.{advanced}
use Rattle.vf_scheduler.specs.Sound.{Rises}
use Rattle.vf_layout.proofs.CallerLemmas.{sound_written, front_written}
use Rattle.vf_queue.specs.Holding.{Holds}
use Rattle.vf_queue.specs.Promotions.{came_all}
use Rattle.vf_queue.proofs.HoldLemmas.{long, held_by}
use Rattle.vf_queue.proofs.PromotionLemmas.{first_future, first_time, numbered, rises_from, goes_on_at}
use Rattle.vf_queue.proofs.promotions.advance.Goals as goal

pub front-requires-clause-long : goal.front-requires-clause-long
front-requires-clause-long g c =
    let d = c.args.design.now in
    long d _ _ c.requires.state (sound_written d c.requires.state c.requires.sound).shape c.requires.holds

pub event-first-requires : goal.event-first-requires
event-first-requires g c =
    let d = c.args.design.now in
    let h = c.requires in
    let first = first_future d h.state h.sound h.first h.rest h.future in
    record { to = _; below = first.below; is = c.front.ensures ∙ (ap (λ words. slice_index words FUTURE) h.holds.words ∙ first.leads) }

pub time-at-requires-clause-number : goal.time-at-requires-clause-number
time-at-requires-clause-number g c =
    let d = c.args.design.now in
    let h = c.requires in
    let first = first_future d h.state h.sound h.first h.rest h.future in
    omega (arith, first.below, first.leads, c.front.ensures, ap (λ words. slice_index words FUTURE) h.holds.words, c.event-first.ensures)

pub time-at-requires-clause-long : goal.time-at-requires-clause-long
time-at-requires-clause-long g c =
    let d = c.args.design.now in
    long d _ _ c.requires.state (sound_written d c.requires.state c.requires.sound).shape c.requires.holds

pub arrive_all-requires : goal.arrive_all-requires
arrive_all-requires g c =
    let d = c.args.design.now in
    let h = c.requires in
    let first = first_future d h.state h.sound h.first h.rest h.future in
    let n = c.event-first.result in
    let time =
    first_time d h.state h.sound h.first first.linked n _
    (numbered d _ _ _ c.event-first.ensures (c.front.ensures ∙ (ap (λ words. slice_index words FUTURE) h.holds.words ∙ first.leads)))
    (c.time-at.ensures ∙ ap (λ words. slice_index words (link_at d n + 1)) h.holds.words) in
    record {
      state = h.state;
      sound = h.sound;
      holds = h.holds;
      rises = subst (λ at. Rises at (map (time_of h.state) h.state.future)) (sym time) (rises_from d h.state h.sound h.first h.rest h.future);
    }

pub returns : goal.returns
returns g c = λ s x rest sound active nonblocking future holds.
    let d = c.args.design.now in
    let base = g.W.Words.contents c.args.words.now in
    let first = first_future d s sound x rest future in
    let n = c.event-first.result in
    let at = c.time-at.result in
    let time : at ≡ time_of s x =
    first_time d s sound x first.linked n _
    (numbered d _ _ _ c.event-first.ensures (c.front.ensures ∙ (ap (λ words. slice_index words FUTURE) holds.words ∙ first.leads)))
    (c.time-at.ensures ∙ ap (λ words. slice_index words (link_at d n + 1)) holds.words) in
    let came = c.in_ok-arrive_all.ensures s sound (subst (λ at. Rises at (map (time_of s) s.future)) (sym time) (rises_from d s sound x rest future)) holds in
    let size = long d base _ s (sound_written d s sound).shape holds in
    let next : State = record (came_all at s) { time = at } in
    let put = held_by d base _ _ _ (came_all at s) next (c.put_front.ensures base (omega (arith, front_inside d, size))) came ((front_written d (came_all at s)).time at) in
    subst (λ at. Holds d base c.put_front.new.patch (advanced at s)) time (subst (Holds d base c.put_front.new.patch) (goes_on_at s at active nonblocking) put)
