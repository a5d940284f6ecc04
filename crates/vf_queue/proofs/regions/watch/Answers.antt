use Rattle.std.proofs.Common.{◌+◌, Some, true, ap, sym, arith, slice_set}
use Rattle.vf_elaborated.specs.Addresses.{MONITOR, DUE}
use Rattle.vf_elaborated.proofs.CallerLemmas.{front_inside}
use Rattle.vf_scheduler.specs.Words.{words_of}
use Rattle.vf_layout.proofs.CallerLemmas.{sound_written}
use Rattle.vf_queue.proofs.WriteLemmas.{then_write}
use Rattle.vf_queue.proofs.HoldLemmas.{long, held_by}
use Rattle.vf_queue.proofs.regions.watch.Goals as goal

pub returns : goal.returns
unfolding words_of
returns g c s holds =
    let d = c.args.design.now in
    let base = g.W.Words.contents c.args.words.now in
    let size = long d base _ c.requires.state (sound_written d c.requires.state c.requires.sound).shape c.requires.holds in
    held_by d base _ _ _ s (record s { monitor = Some c.args.show; due = true })
    (then_write base _ _ _ _ _ (c.put_front.ensures base (omega (arith, front_inside d, size)))
    (c.put_front-2.ensures base (omega (arith, front_inside d, size))))
    holds (ap (λ n. slice_set (slice_set (words_of d s) MONITOR (n + 1)) DUE 1) (sym c.from.ensures))
