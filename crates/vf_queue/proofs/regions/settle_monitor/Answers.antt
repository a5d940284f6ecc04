use Rattle.std.proofs.Common.{false, arith}
use Rattle.vf_elaborated.proofs.CallerLemmas.{front_inside}
use Rattle.vf_layout.proofs.CallerLemmas.{sound_written, front_written}
use Rattle.vf_queue.proofs.HoldLemmas.{long, held_by}
use Rattle.vf_queue.proofs.regions.settle_monitor.Goals as goal

pub returns : goal.returns
returns g c s holds =
    let d = c.args.design.now in
    let base = g.W.Words.contents c.args.words.now in
    let size = long d base _ c.requires.state (sound_written d c.requires.state c.requires.sound).shape c.requires.holds in
    held_by d base _ _ _ s _ (c.put_front.ensures base (omega (arith, front_inside d, size))) holds ((front_written d s).due false)
