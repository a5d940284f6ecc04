use Rattle.vf_layout.proofs.CallerLemmas.{sound_written, regions_move}
use Rattle.vf_queue.proofs.HoldLemmas.{long, held_by}
use Rattle.vf_queue.proofs.regions.promote_updates.Goals as goal

pub make_active-requires-clause-long : goal.make_active-requires-clause-long
make_active-requires-clause-long g c =
    let d = c.args.design.now in
    long d _ _ c.requires.state (sound_written d c.requires.state c.requires.sound).shape c.requires.holds

pub returns : goal.returns
returns g c s sound none quiet holds =
    let d = c.args.design.now in
    held_by d (g.W.Words.contents c.args.words.now) _ _ _ s _ c.make_active.ensures holds ((regions_move d s none).nonblocking quiet)
