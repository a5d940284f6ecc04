use Rattle.std.proofs.Common.{length, ◌<◌, refl, ap, arith}
use Rattle.vf_frames.specs.declared.holder.Name.{Name}
use Rattle.vf_frames.specs.Plain.{token_seen}
use Rattle.vf_frames.proofs.SetLemmas.{below-frames_in}
use Rattle.vf_frames.proofs.CountLemmas.{one_if-has, number-held, counts-swap, counts-gain}
use Rattle.vf_frames.proofs.plain.PlainPoolFrames.hold.Goals as goal

pub raise-requires : goal.raise-requires
raise-requires c =
    omega (arith, below-frames_in _ _ _ c.requires.there, ap (λ (n : Name). n.frames) c.requires.from_name, c.args.self.now.sized)

pub insert-requires : goal.insert-requires
insert-requires c =
    omega (arith, below-frames_in _ _ _ c.requires.there, ap (λ (n : Name). n.frames) c.requires.from_name, ap (λ (n : Name). n.frames) c.requires.name)

pub returns-clause-kept : goal.returns-clause-kept
returns-clause-kept c = λ others a.
    let from = token_seen c.args._from.now in
    let before = token_seen c.args.holder.now in
    let frame = c.args.frame.0 in
    let within : frame < length c.args.self.now.tally =
    omega (arith, below-frames_in _ _ _ c.requires.there, ap (λ (n : Name). n.frames) c.requires.from_name, c.args.self.now.sized) in
    let held = number-held _ frame _ a within (omega (arith, one_if-has frame from c.requires.there)) in
    rw (c.raise.ensures.raised held.0 held.1)
    (counts-swap _ _ from others
    (counts-gain _ frame before _ _ (counts-swap _ from before others a) within (record { absent = c.requires.absent; each = c.insert.ensures.each }) refl))
