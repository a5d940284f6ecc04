use Rattle.std.proofs.Common.{◌≡◌, ℕ, ◌≤◌, true, slice_index, refl, ap, arith}
use Rattle.vf_frames.specs.declared.holder.Name.{Name}
use Rattle.vf_frames.specs.Numbers.{has}
use Rattle.vf_frames.specs.FrameSets.{frames_in}
use Rattle.vf_frames.specs.Plain.{token_seen}
use Rattle.vf_frames.proofs.SetLemmas.{below-frames_in}
use Rattle.vf_frames.proofs.CountLemmas.{one_if-has}
use Rattle.vf_frames.proofs.plain.PlainPoolFrames.claim.Goals as goal

pub returns-in_default-clause-full : goal.returns-in_default-clause-full
returns-in_default-clause-full c = λ others a.
    let set = c.args.holder.now.frames in
    let tally = c.args.self.now.tally in
    let named = ap (λ (n : Name). n.frames) c.requires in
    let sized = c.args.self.now.sized in
    let honest : (f : ℕ) → has f (frames_in set.limit set.words.items) ≡ true → 1 ≤ slice_index tally f = λ f there.
    let within = below-frames_in set.limit set.words.items f there in
    omega (arith, a.each f (omega (arith, within, named, sized)), one_if-has f (token_seen c.args.holder.now) there) in
    (λ _ f below. omega (arith, a.each f (omega (arith, sized)), c.in_default.ensures.full honest f (omega (arith, sized))), λ _. refl)
