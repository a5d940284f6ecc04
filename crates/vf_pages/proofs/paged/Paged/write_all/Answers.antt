use Rattle.std.proofs.Common.{◌≡◌, ℕ, List, [], ◌∷◌, refl, sym, ap, ◌∙◌, subst, cond}
use Rattle.std.specs.Arc.{arc_value}
use Rattle.std.proofs.lemmas.Result.{on_ok_weaker}
use Rattle.vf_frames.specs.Numbers.{has, rises}
use Rattle.vf_frames.specs.Calls.{NoWin}
use Rattle.vf_frames.specs.Holders.{Accounts}
use Rattle.vf_frames.proofs.CallerLemmas.{notes-none}
use Rattle.vf_pages.specs.Pages.{Page, Pages, pages_in, frames_in, occurs, page_limit}
use Rattle.vf_pages.specs.Views.{pages_of}
use Rattle.vf_pages.specs.Calls.{Wrote, WroteAmong, OnRefusal, IsShort, ShortAmong, IsUnmade}
use Rattle.vf_pages.proofs.Goes.{err-weaker}
use Rattle.vf_pages.proofs.Tables.{table-numbers}
use Rattle.vf_pages.proofs.Results.{pages-in_place, frames-in_place, wrote, wrote-among}
use Rattle.vf_pages.proofs.OnePage.{wrote-noted, among-noted, refused-noted, refused-among-noted}
use Rattle.vf_pages.proofs.paged.Paged.write_all.Goals as goal

-- where one page was written at once

pub returns-then-write_alone-clause-held : goal.returns-then-write_alone-clause-held
returns-then-write_alone-clause-held g c = λ f.
    ap (λ es. occurs f (frames_in es)) c.if-write_alone.ensures.pages
    ∙ ap (occurs f) (frames-in_place c.args.writes.now [] (pages_of c.self.inside.held.items))
    ∙ c.self.invariant.1 f ∙ ap (λ fs. cond {A = ℕ} (has f fs) 1 0) (sym c.write_alone.ensures.noted.frames)

pub invariant_of-self : goal.invariant_of-self
invariant_of-self g c =
    let pages = pages_of c.self.inside.held.items in (
      ap (λ es. rises 0 page_limit (pages_in es)) c.if-write_alone.ensures.pages
          ∙ ap (rises 0 page_limit) (pages-in_place c.args.writes.now [] pages) ∙ c.self.invariant.0,
      λ f. ap (λ es. occurs f (frames_in es)) c.if-write_alone.ensures.pages
          ∙ ap (occurs f) (frames-in_place c.args.writes.now [] pages)
          ∙ c.self.invariant.1 f ∙ ap (λ fs. cond {A = ℕ} (has f fs) 1 0) (sym c.write_alone.ensures.noted.frames),
      table-numbers c.self.inside.places.items pages (pages_of c.write_alone.new.held.items)
          (sym (ap pages_in c.if-write_alone.ensures.pages ∙ pages-in_place c.args.writes.now [] pages)) c.self.invariant.2,
      c.self.invariant.3,
    )

pub returns-then-write_alone-clause-ok : goal.returns-then-write_alone-clause-ok
returns-then-write_alone-clause-ok g c =
    let zero = (arc_value c.self.inside.zero).items in
    let pages = pages_of c.self.inside.held.items in
    let ws = c.args.writes.now in
    let start = g.F.Frames.seen c.self.inside.token in
    let now = g.F.Frames.seen c.write_alone.new.token in
    let new : Pages = record { zero = zero; pages = pages_of c.write_alone.new.held.items; holder = now } in
    subst (λ (m : Pages). Wrote ws m new) c.self.view_is
    (subst (λ (es : List Page). Wrote ws (record { zero = zero; pages = pages; holder = start }) (record { zero = zero; pages = es; holder = now })) (sym c.if-write_alone.ensures.pages)
    (wrote zero pages ws _ start _ now [] now (c.if-write_alone.ensures.gathered zero) (record { misses = refl; parts = refl; name = refl }) (notes-none NoWin now.notes refl)))

pub returns-then-write_alone-clause-ok_among : goal.returns-then-write_alone-clause-ok_among
returns-then-write_alone-clause-ok_among g c = λ others k.
    let zero = (arc_value c.self.inside.zero).items in
    let pages = pages_of c.self.inside.held.items in
    let ws = c.args.writes.now in
    let start = g.F.Frames.seen c.self.inside.token in
    let now = g.F.Frames.seen c.write_alone.new.token in
    let new : Pages = record { zero = zero; pages = pages_of c.write_alone.new.held.items; holder = now } in
    let accounts = subst (λ (m : Pages). Accounts (g.F.Frames.numbers c.args.pool.now) (m.holder ∷ others)) (sym c.self.view_is) k in
    subst (λ (m : Pages). WroteAmong ws m new others) c.self.view_is
    (subst (λ (es : List Page). WroteAmong ws (record { zero = zero; pages = pages; holder = start }) (record { zero = zero; pages = es; holder = now }) others) (sym c.if-write_alone.ensures.pages)
    (wrote-among zero pages ws _ start _ now [] now (c.if-write_alone.ensures.gathered zero) others accounts))

-- where pages were changed in the general way, after notes that may have come

pub returns-clause-ok : goal.returns-clause-ok
returns-clause-ok g c =
    let zero = (arc_value c.self.inside.zero).items in
    let ws = c.args.writes.now in
    let start = g.F.Frames.seen c.self.inside.token in
    let now = g.F.Frames.seen c.write_alone.new.token in
    let new : Pages = record { zero = zero; pages = pages_of c.change_pages.new.held.items; holder = g.F.Frames.seen c.change_pages.new.token } in
    on_ok_weaker c.change_pages.result
    (λ wrote. subst (λ (m : Pages). Wrote ws m new) c.self.view_is
    (wrote-noted ws zero _ start now c.write_alone.ensures.noted new
    (subst (λ (es : List Page). Wrote ws (record { zero = zero; pages = es; holder = now }) new) c.if-write_alone.ensures.pages wrote)))
    c.change_pages.ensures.ok

pub returns-clause-ok_among : goal.returns-clause-ok_among
returns-clause-ok_among g c =
    let zero = (arc_value c.self.inside.zero).items in
    let ws = c.args.writes.now in
    let start = g.F.Frames.seen c.self.inside.token in
    let now = g.F.Frames.seen c.write_alone.new.token in
    let new : Pages = record { zero = zero; pages = pages_of c.change_pages.new.held.items; holder = g.F.Frames.seen c.change_pages.new.token } in
    on_ok_weaker c.change_pages.result
    (λ wrote. λ others k.
    let accounts = subst (λ (m : Pages). Accounts (g.F.Frames.numbers c.args.pool.now) (m.holder ∷ others)) (sym c.self.view_is) k in
    subst (λ (m : Pages). WroteAmong ws m new others) c.self.view_is
    (among-noted ws zero _ start now c.write_alone.ensures.noted new others
    (subst (λ (es : List Page). WroteAmong ws (record { zero = zero; pages = es; holder = now }) new others) c.if-write_alone.ensures.pages
    (wrote others (c.write_alone.ensures.kept others accounts)))))
    c.change_pages.ensures.ok_among

pub returns-clause-refused : goal.returns-clause-refused
returns-clause-refused g c =
    let zero = (arc_value c.self.inside.zero).items in
    let ws = c.args.writes.now in
    let start = g.F.Frames.seen c.self.inside.token in
    let now = g.F.Frames.seen c.write_alone.new.token in
    let new : Pages = record { zero = zero; pages = pages_of c.change_pages.new.held.items; holder = g.F.Frames.seen c.change_pages.new.token } in
    err-weaker c.change_pages.result _ _ c.change_pages.ensures.refused
    (λ why said. subst (λ (m : Pages). OnRefusal why (λ k. IsShort k ws m new) (IsUnmade m new)) c.self.view_is
    (refused-noted ws zero _ start now c.write_alone.ensures.noted new why
    (subst (λ (es : List Page). OnRefusal why (λ k. IsShort k ws (record { zero = zero; pages = es; holder = now }) new) (IsUnmade (record { zero = zero; pages = es; holder = now }) new))
    c.if-write_alone.ensures.pages said)))

pub returns-clause-refused_among : goal.returns-clause-refused_among
returns-clause-refused_among g c =
    let zero = (arc_value c.self.inside.zero).items in
    let ws = c.args.writes.now in
    let start = g.F.Frames.seen c.self.inside.token in
    let now = g.F.Frames.seen c.write_alone.new.token in
    err-weaker c.change_pages.result _ _ c.change_pages.ensures.refused_among
    (λ why said. λ others k.
    let accounts = subst (λ (m : Pages). Accounts (g.F.Frames.numbers c.args.pool.now) (m.holder ∷ others)) (sym c.self.view_is) k in
    subst (λ (m : Pages). OnRefusal why (λ k. ShortAmong k ws m others) (Unit {0})) c.self.view_is
    (refused-among-noted ws zero _ start now c.write_alone.ensures.noted others why
    (subst (λ (es : List Page). OnRefusal why (λ k. ShortAmong k ws (record { zero = zero; pages = es; holder = now }) others) (Unit {0}))
    c.if-write_alone.ensures.pages (said others (c.write_alone.ensures.kept others accounts)))))
