use Rattle.std.proofs.Common.{◌≡◌, [], ◌∷◌, ◌∙◌, length, ap, ap₂, subst, arith}
use Rattle.vf_frames.specs.Holders.{Keeps}
use Rattle.vf_pages.specs.Pages.{Pages, entry, or_entry}
use Rattle.vf_pages.specs.Views.{pages_of}
use Rattle.vf_pages.proofs.Tables.{both-fit, table-fits}
use Rattle.vf_pages.proofs.Shuffles.{keeps-fork-over}
use Rattle.vf_pages.proofs.paged.Paged.fork_over.Goals as goal

pub returns-clause-kept : goal.returns-clause-kept
returns-clause-kept g c =
    let from = g.F.Frames.seen c.args.from.now in
    let from' = g.F.Frames.seen c.open.new.from in
    let new' = g.F.Frames.seen c.hold_over.new.token in
    let before = g.F.Frames.numbers c.args.pool.now in
    let after = g.F.Frames.numbers c.hold_over.new.pool in
    subst (λ (m : Pages). Keeps before (m.holder ∷ c.args.base.now.holder ∷ from ∷ []) after (m.holder ∷ c.args.base.now.holder ∷ from' ∷ new' ∷ [])) c.self.view_is
    (subst (λ (m : Pages). Keeps before (g.F.Frames.seen c.self.inside.token ∷ m.holder ∷ from ∷ []) after (g.F.Frames.seen c.self.inside.token ∷ m.holder ∷ from' ∷ new' ∷ [])) c.base.view_is
    (keeps-fork-over before _ after (g.F.Frames.seen c.self.inside.token) (g.F.Frames.seen c.base.inside.token) from from' _ new' c.in_ok-token.ensures.kept c.hold_over.ensures.kept))

pub note_places-requires-clause-fits : goal.note_places-requires-clause-fits
note_places-requires-clause-fits g c =
    let own = pages_of c.self.inside.held.items in
    let base = pages_of c.base.inside.held.items in
    let is_own : pages_of c.in_ok-own.own.items ≡ own = c.in_ok-own.ensures ∙ ap pages_of c.deref.ensures.value in
    let is_base : pages_of c.in_ok-held.held.items ≡ base = c.in_ok-held.ensures.pages ∙ ap pages_of c.deref-2.ensures.value in
    both-fit (length c.in_ok-places.places.items) (pages_of c.hold_over.new.held.items) own base
    (λ p. c.hold_over.ensures.pages p ∙ ap₂ (λ xs ys. or_entry (entry p xs) (entry p ys)) is_own is_base)
    (λ p there. let fits = table-fits c.self.inside.places.items own c.self.invariant.2 p there in omega (arith, fits, c.in_ok-places.ensures.len, c.max.ensures, c.len-2.ensures, c.len-3.ensures))
    (λ p there. let fits = table-fits c.base.inside.places.items base c.base.invariant.2 p there in omega (arith, fits, c.in_ok-places.ensures.len, c.max.ensures, c.len-2.ensures, c.len-3.ensures))

pub note_places-requires-clause-known : goal.note_places-requires-clause-known
note_places-requires-clause-known g c = λ p some. absurd (omega (arith, c.in_ok-places.ensures.none p, some))
