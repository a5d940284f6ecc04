use Rattle.std.proofs.Common.{sym, ap, ◌∙◌, arith}
use Rattle.vf_frames.specs.Numbers.{rises}
use Rattle.vf_pages.specs.Pages.{pages_in, frames_in, occurs, page_limit}
use Rattle.vf_pages.specs.Views.{page_of, pages_of}
use Rattle.vf_pages.specs.Puts.{puts, frame_count}
use Rattle.vf_frames.proofs.CallerLemmas.{rest-then, keeps-then, pool-then, no-win-then}
use Rattle.vf_pages.proofs.Frames.{pages-last, occurs-last, rises-last}
use Rattle.vf_pages.proofs.Puts.{put-rises, put-occurs, puts-snoc}
use Rattle.vf_pages.proofs.Goes.{owned-has}
use Rattle.vf_pages.proofs.install.put_pages.Goals as goal

pub release_old-requires-clause-there : goal.release_old-requires-clause-there
release_old-requires-clause-there g c = λ o is.
    owned-has (pages_of c.loop-one.held.items) _ _ c.in-Some.one.page.0 o c.loop-one.invariant.owns (sym c.put_page-old.ensures.old ∙ is)

pub loop-one-preserved : goal.loop-one-preserved
loop-one-preserved g c =
    let inv = c.loop-one.invariant in
    let one = c.in-Some.one in
    let held = pages_of c.loop-one.held.items in
    let left = pages_of c.pop.new.self.items in
    let last = pages-last _ _ one c.in-Some.ensures.items in
    let ends = rises-last 0 page_limit left (page_of one) (ap (λ es. rises 0 page_limit (pages_in es)) (sym last) ∙ inv.fresh) in
    record {
      pages = ap (puts left) c.put_page-old.ensures.put ∙ sym (puts-snoc left (page_of one) held) ∙ ap (λ es. puts es held) (sym last) ∙ inv.pages;
      sorted = ap (λ es. rises 0 page_limit (pages_in es)) c.put_page-old.ensures.put ∙ put-rises 0 page_limit (page_of one) held inv.sorted (omega arith) ends.1;
      fresh = ends.0;
      owns = λ f.
          let placed = ap (λ es. occurs f (frames_in es)) c.put_page-old.ensures.put in
          let old = ap (frame_count f) c.put_page-old.ensures.old in
          omega (arith, inv.owns f, placed, old, put-occurs 0 page_limit f (page_of one) held inv.sorted, occurs-last f _ _ one c.in-Some.ensures.items, c.release_old.ensures.frames f);
      room = omega (arith, inv.room, c.put_page-old.ensures.len, c.put_page-old.ensures.capacity, c.in-Some.ensures.cases);
      rest = rest-then _ _ _ inv.rest c.release_old.ensures.rest;
      notes = no-win-then _ _ _ inv.notes c.release_old.ensures.notes;
      kept = keeps-then _ _ _ _ _ _ inv.kept c.release_old.ensures.kept;
      pool = pool-then _ _ _ _ _ _ inv.pool c.release_old.ensures.pool;
    }
