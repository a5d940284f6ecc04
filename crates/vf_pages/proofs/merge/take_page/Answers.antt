use Rattle.std.proofs.Common.{◌≡◌, ◌≢◌, ◌+◌, List, [], ◌∷◌, ◌++◌, refl, sym, ap, ◌∙◌, arith}
use Rattle.std.specs.Prelude.{reverse}
use Rattle.std.proofs.lemmas.List.{nil_from_length, append_assoc}
use Rattle.vf_frames.specs.Numbers.{rises}
use Rattle.vf_pages.specs.declared.held.Held.{Held}
use Rattle.vf_pages.specs.Pages.{entry, pages_in, frames_in, occurs, page_limit}
use Rattle.vf_pages.specs.Views.{page_of, pages_of}
use Rattle.vf_pages.specs.Puts.{put, puts}
use Rattle.vf_pages.proofs.Frames.{pages-last, rises-last}
use Rattle.vf_pages.proofs.Merging.{rises-wider, rises-front, rises-to, put-last, put-over, taken, reverse-last, puts-move, entry-front, entry-above, entry-end, occurs-between}
use Rattle.vf_pages.proofs.merge.take_page.Goals as goal

pub returns-then-one-page-clause-puts : goal.returns-then-one-page-clause-puts
returns-then-one-page-clause-puts c = λ es e is r.
    let held = pages_of c.loop-one.held.items in
    let rest = pages_of (reverse c.loop-one.behind.items) in
    let last = pages-last _ _ c.in-Some.one c.in-Some.ensures.items in
    let below = rises-to page_limit c.args.page held _ _ last c.loop-one.invariant.sorted (omega (arith, c.if-one-page.true)) in
    ap (λ (hs : List Held). puts es (pages_of hs) ++ e ∷ rest) (c.push_reserved.ensures.items ∙ sym c.in-Some.ensures.items)
    ∙ taken c.args.page held held rest _ _ es e c.loop-one.invariant.puts is r (put-last 0 e held (ap (λ n. rises 0 n (pages_in held)) is ∙ below))

pub returns-then-one-page-clause-old : goal.returns-then-one-page-clause-old
returns-then-one-page-clause-old c =
    let held = pages_of c.loop-one.held.items in
    let last = pages-last _ _ c.in-Some.one c.in-Some.ensures.items in
    let below = rises-to page_limit c.args.page held _ _ last c.loop-one.invariant.sorted (omega (arith, c.if-one-page.true)) in
    sym (sym c.loop-one.invariant.entry ∙ entry-above c.args.page 0 c.args.page held below (omega arith))

pub returns-then-one-page-clause-frames : goal.returns-then-one-page-clause-frames
returns-then-one-page-clause-frames c = λ f.
    let rest = pages_of (reverse c.loop-one.behind.items) in
    let same = ap (λ (hs : List Held). occurs f (frames_in (pages_of hs ++ rest))) (c.push_reserved.ensures.items ∙ sym c.in-Some.ensures.items) in
    omega (arith, same, ap (λ es. occurs f (frames_in es)) (c.loop-one.invariant.puts [] refl))

pub returns-then-one-page-2-clause-puts : goal.returns-then-one-page-2-clause-puts
returns-then-one-page-2-clause-puts c = λ es e is r.
    let one = c.in-Some.one in
    let held = pages_of c.loop-one.held.items in
    let left = pages_of c.pop.new.self.items in
    let rest = pages_of (reverse c.loop-one.behind.items) in
    let last = pages-last _ _ one c.in-Some.ensures.items in
    let front = rises-front 0 page_limit left (page_of one) (ap (λ es. rises 0 page_limit (pages_in es)) (sym last) ∙ c.loop-one.invariant.sorted) in
    let at : e.page ≡ one.page.0 = omega (arith, c.if-one-page-2.true, is) in
    taken c.args.page held left rest _ _ es e c.loop-one.invariant.puts is r
    (ap (put e) last ∙ put-over 0 e left (page_of one) (ap (λ n. rises 0 n (pages_in left)) at ∙ front.0) at)

pub returns-then-one-page-2-clause-old : goal.returns-then-one-page-2-clause-old
returns-then-one-page-2-clause-old c =
    let one = c.in-Some.one in
    let left = pages_of c.pop.new.self.items in
    let last = pages-last _ _ one c.in-Some.ensures.items in
    let front = rises-front 0 page_limit left (page_of one) (ap (λ es. rises 0 page_limit (pages_in es)) (sym last) ∙ c.loop-one.invariant.sorted) in
    let at : c.args.page ≡ one.page.0 = omega (arith, c.if-one-page-2.true) in
    sym (ap (entry c.args.page) last ∙ entry-end c.args.page left (page_of one) (ap (λ n. rises 0 n (pages_in left)) at ∙ front.0) at) ∙ c.loop-one.invariant.entry

pub returns-then-one-page-2-clause-frames : goal.returns-then-one-page-2-clause-frames
returns-then-one-page-2-clause-frames c = λ f.
    let one = page_of c.in-Some.one in
    let left = pages_of c.pop.new.self.items in
    let rest = pages_of (reverse c.loop-one.behind.items) in
    let last = pages-last _ _ c.in-Some.one c.in-Some.ensures.items in
    let joined = ap (λ es. occurs f (frames_in (es ++ rest))) last ∙ ap (λ es. occurs f (frames_in es)) (append_assoc left (one ∷ []) rest) in
    omega (arith, joined, occurs-between f left one rest, ap (λ es. occurs f (frames_in es)) (c.loop-one.invariant.puts [] refl))

pub returns-then-one-page-2-clause-sorted : goal.returns-then-one-page-2-clause-sorted
returns-then-one-page-2-clause-sorted c =
    let left = pages_of c.pop.new.self.items in
    let last = pages-last _ _ c.in-Some.one c.in-Some.ensures.items in
    (rises-last 0 page_limit left (page_of c.in-Some.one) (ap (λ es. rises 0 page_limit (pages_in es)) (sym last) ∙ c.loop-one.invariant.sorted)).0

pub loop-one-preserved : goal.loop-one-preserved
loop-one-preserved c =
    let inv = c.loop-one.invariant in
    let one = page_of c.in-Some.one in
    let left = pages_of c.pop.new.self.items in
    let rest = pages_of (reverse c.loop-one.behind.items) in
    let last = pages-last _ _ c.in-Some.one c.in-Some.ensures.items in
    let ne : c.args.page ≢ one.page = omega (arith, c.if-one-page-2.false) in
    record {
      puts = λ es r.
          ap (λ (hs : List Held). puts es left ++ pages_of (reverse hs)) c.push_reserved-in-Some.ensures.items
          ∙ ap (λ xs. puts es left ++ xs) (reverse-last c.loop-one.behind.items c.in-Some.one)
          ∙ puts-move es left rest one (rises-wider 0 (c.args.page + 1) one.page (pages_in es) r (omega (arith, c.if-one-page.false, c.if-one-page-2.false)))
          ∙ ap (λ ps. puts es ps ++ rest) (sym last) ∙ inv.puts es r;
      sorted = (rises-last 0 page_limit left one (ap (λ es. rises 0 page_limit (pages_in es)) (sym last) ∙ inv.sorted)).0;
      entry = sym (entry-front c.args.page left one ne) ∙ ap (entry c.args.page) (sym last) ∙ inv.entry;
      len = omega (arith, inv.len, c.in-Some.ensures.cases, c.push_reserved-in-Some.ensures.len);
      held_capacity = c.pop.ensures.capacity ∙ inv.held_capacity;
      behind_capacity = c.push_reserved-in-Some.ensures.capacity ∙ inv.behind_capacity;
    }

pub returns-clause-puts : goal.returns-clause-puts
returns-clause-puts c = λ es e is r.
    let held = c.loop-one.held.items in
    let rest = pages_of (reverse c.loop-one.behind.items) in
    let none : held ≡ [] = nil_from_length held (omega (arith, c.loop-one.held.ok, c.in_default.ensures.cases)) in
    let none-left : c.pop.new.self.items ≡ [] = nil_from_length c.pop.new.self.items (omega (arith, c.pop.new.self.ok, c.in_default.ensures.cases)) in
    ap (λ (hs : List Held). puts es (pages_of hs) ++ e ∷ rest) none-left
    ∙ taken c.args.page (pages_of held) [] rest _ _ es e c.loop-one.invariant.puts is r (ap (λ (hs : List Held). put e (pages_of hs)) none)
