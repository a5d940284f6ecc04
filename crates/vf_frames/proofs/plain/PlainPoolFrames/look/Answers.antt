use Rattle.std.proofs.Common.{slice_index, sym, ap, ◌∙◌, arith, eqb-true, eq-eqb}
use Rattle.vf_frames.specs.declared.holder.Name.{Name}
use Rattle.vf_frames.proofs.SetLemmas.{below-frames_in}
use Rattle.vf_frames.proofs.plain.PlainPoolFrames.look.Goals as goal

pub is_one-requires : goal.is_one-requires
is_one-requires c =
    omega (arith, below-frames_in _ _ _ c.requires.there, ap (λ (n : Name). n.frames) c.requires.name, c.args.self.now.sized)

pub returns-clause-alone : goal.returns-clause-alone
returns-clause-alone c = λ others a.
    let number = slice_index c.args.self.now.tally c.args.frame.0 in
    let within = below-frames_in _ _ _ c.requires.there in
    let named = ap (λ (n : Name). n.frames) c.requires.name in
    let counted = a.each c.args.frame.0 (omega (arith, within, named, c.args.self.now.sized)) in
    (λ t. sym counted ∙ eqb-true number 1 (sym c.is_one.ensures ∙ t), λ one. c.is_one.ensures ∙ eq-eqb number 1 (counted ∙ one))
