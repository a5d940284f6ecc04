use Rattle.std.proofs.Common.{ap, arith, subst, length}
use Rattle.std.proofs.lemmas.List.{length-map}
use Rattle.vf_pages.specs.Pages.{Pages, IsSorted, pages_in, frame_number, page_limit}
use Rattle.vf_pages.specs.Views.{pages_of}
use Rattle.vf_pages.proofs.Entries.{rises-length, rises-has}
use Rattle.vf_pages.proofs.Lookups.{length-pages, length-numbers}
use Rattle.vf_pages.proofs.Counting.{held-within, held-exactly}
use Rattle.vf_pages.proofs.paged.Paged.pages.Goals as goal

pub overflow_cast-result : goal.overflow_cast-result
overflow_cast-result g c =
    let held = c.self.inside.held.items in
    omega (arith, c.len.ensures, rises-length 0 page_limit (pages_in (pages_of held)) c.self.invariant.0 (omega arith), length-numbers (pages_of held), length-pages held)

pub returns-clause-budget : goal.returns-clause-budget
returns-clause-budget g c =
    let held = c.self.inside.held.items in
    let seen = g.F.Frames.seen c.self.inside.token in
    let within = held-within seen.name.frames (pages_of held) seen.frames c.self.invariant.1
    (λ f there. (rises-has 0 seen.name.frames f seen.frames (g.met.F.Frames.rising c.self.inside.token) there).1) in
    omega (arith, c.len.ensures, within, length-map (pages_of held) frame_number, length-pages held, ap (λ (m : Pages). m.holder.name.frames) c.self.view_is)

pub returns-clause-sorted : goal.returns-clause-sorted
returns-clause-sorted g c = subst (λ (m : Pages). IsSorted m.pages) c.self.view_is c.self.invariant.0

pub returns-clause-frames : goal.returns-clause-frames
returns-clause-frames g c =
    let held = c.self.inside.held.items in
    let seen = g.F.Frames.seen c.self.inside.token in
    let same = held-exactly seen.name.frames (pages_of held) seen.frames c.self.invariant.1 (g.met.F.Frames.rising c.self.inside.token) in
    omega (arith, same, length-map (pages_of held) frame_number, ap (λ (m : Pages). length m.holder.frames) c.self.view_is, ap (λ (m : Pages). length m.pages) c.self.view_is)
