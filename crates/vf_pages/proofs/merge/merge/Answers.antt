use Rattle.std.proofs.Common.{◌≡◌, List, [], ◌++◌, refl, sym, ap, ◌∙◌, arith}
use Rattle.std.specs.Prelude.{reverse}
use Rattle.std.proofs.lemmas.List.{nil_from_length, map-append}
use Rattle.vf_frames.specs.Numbers.{rises}
use Rattle.vf_pages.specs.declared.held.Held.{Held}
use Rattle.vf_pages.specs.Pages.{pages_in, frames_in, occurs, page_limit}
use Rattle.vf_pages.specs.Views.{page_of, pages_of}
use Rattle.vf_pages.specs.Puts.{puts}
use Rattle.vf_frames.proofs.CallerLemmas.{rest-then, keeps-then, pool-then, no-win-then}
use Rattle.vf_pages.proofs.Frames.{pages-last, occurs-last, occurs-entry, has-from, rises-last}
use Rattle.vf_pages.proofs.Merging.{rises-front, reverse-last, occurs-both, occurs-between, puts-rises}
use Rattle.vf_pages.proofs.merge.merge.Goals as goal

pub release_old-requires-clause-there : goal.release_old-requires-clause-there
release_old-requires-clause-there g c = λ o is.
    let held = pages_of c.loop-one.held.items in
    let rest = pages_of (reverse c.loop-one.behind.items) in
    let found = sym c.take_page-old.ensures.old ∙ is in
    has-from o.frame _ (omega (arith, c.loop-one.invariant.owns o.frame, occurs-entry c.in-Some.one.page.0 held o found, occurs-both o.frame held rest))

pub loop-one-preserved : goal.loop-one-preserved
loop-one-preserved g c =
    let inv = c.loop-one.invariant in
    let one = page_of c.in-Some.one in
    let taken = c.take_page-old.ensures in
    let held = pages_of c.take_page-old.new.held.items in
    let before = pages_of c.loop-one.held.items in
    let left = pages_of c.pop.new.self.items in
    let rest = pages_of (reverse c.take_page-old.new.behind.items) in
    let rest_before = pages_of (reverse c.loop-one.behind.items) in
    let last = pages-last _ _ c.in-Some.one c.in-Some.ensures.items in
    let rising = ap (λ es. rises 0 page_limit (pages_in es)) (sym last) ∙ inv.fresh in
    let pushed = ap (λ (hs : List Held). pages_of (reverse hs)) c.push_reserved.ensures.items ∙ reverse-last c.take_page-old.new.behind.items c.in-Some.one in
    record {
      pages = ap (λ xs. puts left held ++ xs) pushed ∙ taken.puts left one refl (rises-front 0 page_limit left one rising).0 ∙ ap (λ es. puts es before ++ rest_before) (sym last) ∙ inv.pages;
      sorted = taken.sorted;
      fresh = (rises-last 0 page_limit left one rising).0;
      owns = λ f.
          let placed = ap (λ xs. occurs f (frames_in (held ++ xs))) pushed in
          omega (arith, inv.owns f, placed, occurs-between f held one rest, taken.frames f, occurs-last f _ _ c.in-Some.one c.in-Some.ensures.items, c.release_old.ensures.frames f);
      room = omega (arith, inv.room, taken.len, taken.held_capacity, c.in-Some.ensures.cases, c.push_reserved.ensures.len);
      behind = omega (arith, inv.behind, taken.len, taken.behind_capacity, c.in-Some.ensures.cases, c.push_reserved.ensures.len, c.push_reserved.ensures.capacity);
      rest = rest-then _ _ _ inv.rest c.release_old.ensures.rest;
      notes = no-win-then _ _ _ inv.notes c.release_old.ensures.notes;
      kept = keeps-then _ _ _ _ _ _ inv.kept c.release_old.ensures.kept;
      pool = pool-then _ _ _ _ _ _ inv.pool c.release_old.ensures.pool;
    }

pub returns-clause-sorted : goal.returns-clause-sorted
returns-clause-sorted g c =
    let held = c.loop-one.held.items in
    let behind = c.loop-one.behind.items in
    let none : c.loop-one.fresh.items ≡ [] = nil_from_length c.loop-one.fresh.items (omega (arith, c.loop-one.fresh.ok, c.in_default.ensures.cases)) in
    let joined = ap pages_of c.append_reversed.ensures ∙ map-append page_of held (reverse behind) in
    let whole = joined ∙ ap (λ (hs : List Held). puts (pages_of hs) (pages_of held) ++ pages_of (reverse behind)) (sym none) ∙ c.loop-one.invariant.pages in
    ap (λ es. rises 0 page_limit (pages_in es)) whole ∙ puts-rises 0 page_limit (pages_of c.args.fresh.items) (pages_of c.args.held.now.items) c.requires.fresh c.requires.sorted
