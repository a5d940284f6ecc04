use Rattle.std.proofs.Common.{◌≡◌, ◌==◌, true, [], ◌∷◌, ◌++◌, ap, ap₂, ◌∙◌, refl, arith, eq-eqb}
use Rattle.std.proofs.lemmas.Bool.{or_left}
use Rattle.vf_frames.specs.Numbers.{has}
use Rattle.vf_frames.specs.declared.holder.Name.{Name}
use Rattle.vf_pages.specs.Views.{pages_of}
use Rattle.vf_pages.proofs.Entries.{rises-has}
use Rattle.vf_pages.proofs.Frames.{pages-last}
use Rattle.vf_pages.proofs.gather.add_fresh.Goals as goal

pub returns-clause-ok : goal.returns-clause-ok
returns-clause-ok g c =
    let after = g.F.Frames.seen c.claim.new.holder in
    let claimed = c.in-Some.ensures.some in
    let frame = c.in-Some.frame.0 in
    let there : has frame after.frames ≡ true = claimed.frames.each frame ∙ or_left (frame == frame) _ (eq-eqb frame frame refl) in
    let bound = rises-has 0 after.name.frames frame after.frames (g.met.F.Frames.rising c.claim.new.holder) there in
    let named = ap (λ (n : Name). n.frames) claimed.rest.name in
    record {
      frame = frame;
      is = pages-last _ _ _ c.push_reserved.ensures.items ∙ ap₂ (λ es ws. pages_of es ++ record { page = c.args.page; frame = frame; words = ws } ∷ []) c.in-Ok-reserve.ensures.items (c.in-Ok.ensures ∙ c.written_words.ensures);
      within = omega (arith, bound.1, named);
      claimed = claimed;
      unheld = λ others a. c.in-Some.ensures.free others a;
    }
