use Rattle.std.proofs.Common.{length, ◌<◌, refl, ap, arith}
use Rattle.vf_frames.specs.declared.holder.Name.{Name}
use Rattle.vf_frames.specs.Plain.{token_seen}
use Rattle.vf_frames.proofs.SetLemmas.{below-frames_in}
use Rattle.vf_frames.proofs.CountLemmas.{one_if-has, number-held, counts-lose}
use Rattle.vf_frames.proofs.plain.PlainPoolFrames.release.Goals as goal

pub lower-requires : goal.lower-requires
lower-requires c =
    omega (arith, below-frames_in _ _ _ c.requires.there, ap (λ (n : Name). n.frames) c.requires.name, c.args.self.now.sized)

pub remove-requires : goal.remove-requires
remove-requires c = c.requires.there

pub returns-clause-kept : goal.returns-clause-kept
returns-clause-kept c = λ others a.
    let before = token_seen c.args.holder.now in
    let frame = c.args.frame.0 in
    let within : frame < length c.args.self.now.tally =
    omega (arith, below-frames_in _ _ _ c.requires.there, ap (λ (n : Name). n.frames) c.requires.name, c.args.self.now.sized) in
    let held = number-held _ frame _ a within (omega (arith, one_if-has frame before c.requires.there)) in
    rw (c.lower.ensures.lowered held.0)
    (counts-lose _ frame before _ others a within held.0 (record { present = c.requires.there; each = c.remove.ensures.each }) refl)
