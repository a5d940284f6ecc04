use Rattle.std.proofs.Common.{List, sym, ap, subst, ◌∙◌}
use Rattle.vf_pages.specs.Pages.{Page}
use Rattle.vf_pages.specs.Views.{pages_of}
use Rattle.vf_frames.proofs.CallerLemmas.{rest-then, keeps-then, pool-then, no-win-then}
use Rattle.vf_pages.proofs.Bases.{Released_so_far, step-kept, step-gone}
use Rattle.vf_pages.proofs.base.release_unchanged.Goals as goal

pub loop-one-preserved-then-is_in_base : goal.loop-one-preserved-then-is_in_base
loop-one-preserved-then-is_in_base g c =
    let inv = c.loop-one.invariant in
    let here = subst (λ (es : List Page). Released_so_far (pages_of c.args.base.now) (pages_of c.args.held.now) es (g.F.Frames.seen c.loop-one.token).frames) (ap pages_of c.in-Some.ensures.cases.0) inv.frames in
    record {
      frames = step-gone _ _ _ _ _ _ here (sym c.is_in_base.ensures ∙ c.if-is_in_base.true) c.release.ensures.released.frames;
      rest = rest-then _ _ _ inv.rest c.release.ensures.released.rest;
      notes = no-win-then _ _ _ inv.notes c.release.ensures.released.notes;
      kept = keeps-then _ _ _ _ _ _ inv.kept c.release.ensures.kept;
      pool = pool-then _ _ _ _ _ _ inv.pool c.release.ensures.pool;
    }

pub loop-one-preserved : goal.loop-one-preserved
loop-one-preserved g c =
    let inv = c.loop-one.invariant in
    let here = subst (λ (es : List Page). Released_so_far (pages_of c.args.base.now) (pages_of c.args.held.now) es (g.F.Frames.seen c.loop-one.token).frames) (ap pages_of c.in-Some.ensures.cases.0) inv.frames in
    record {
      frames = step-kept _ _ _ _ _ here (sym c.is_in_base.ensures ∙ c.if-is_in_base.false);
      rest = inv.rest;
      notes = inv.notes;
      kept = inv.kept;
      pool = inv.pool;
    }
