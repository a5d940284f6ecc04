use Rattle.std.proofs.Common.{arith}
use Rattle.vf_pages.specs.Views.{pages_of}
use Rattle.vf_pages.proofs.Tables.{left-fits, table-fits}
use Rattle.vf_pages.proofs.paged.Paged.keep_changed.Goals as goal

pub note_places-requires-clause-fits : goal.note_places-requires-clause-fits
note_places-requires-clause-fits g c =
    let held = pages_of c.self.inside.held.items in
    let fits = left-fits _ (pages_of c.drop_unchanged.new.held.items) _ held c.drop_unchanged.ensures.pages (table-fits c.self.inside.places.items held c.self.invariant.2) in
    λ p there. omega (arith, fits p there, c.forget_places.ensures.len)

pub note_places-requires-clause-known : goal.note_places-requires-clause-known
note_places-requires-clause-known g c = λ p some. absurd (omega (arith, c.forget_places.ensures.none p, some))
