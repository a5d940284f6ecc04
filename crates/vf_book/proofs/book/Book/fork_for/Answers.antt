use Rattle.std.proofs.Common.{◌≡◌, ◌∙◌, ◌∷◌, ◌<◌, length, Option, refl, sym, subst}
use Rattle.vf_base.specs.declared.names.NodeNo.{NodeNo}
use Rattle.vf_journal.specs.declared.entry.Entry.TheVariants.{Start}
use Rattle.vf_jobs.specs.Jobs.{node_of}
use Rattle.vf_jobs.specs.Setup.{Conditions}
use Rattle.vf_records.specs.declared.next.Next.TheVariants as nexts
use Rattle.vf_records.specs.Account.{next_job_of}
use Rattle.vf_records.proofs.CallerLemmas.{next_planned, next_ready}
use Rattle.vf_book.specs.Book.{BookView, Appends, holders}
use Rattle.vf_book.specs.Attempts.{Starts}
use Rattle.vf_book.specs.Forks.{StandsAtOrigin}
use Rattle.vf_book.proofs.HolderLemmas.{are_of-renamed}
use Rattle.vf_book.proofs.CallLemmas.{made_of, inside_images, outside_appends, outside_keeps_hand, serves_after}
use Rattle.vf_book.proofs.StartLemmas.{planned_inside, source_of, started, started_book}
use Rattle.vf_book.proofs.book.Book.fork_for.Goals as goal

pub origin-origin-requires : goal.origin-origin-requires
origin-origin-requires g c =
    planned_inside c.self.inside.records.setup.plan c.args.job
    (next_planned c.self.inside.records c.args.job (subst (λ (v : BookView). next_job_of v.account ≡ nexts.Job c.args.job) (sym c.self.view_is) c.requires.next))

pub start_from-requires-clause-source : goal.start_from-requires-clause-source
start_from-requires-clause-source g c =
    source_of c.self.inside.records c.self.inside.images.items c.self.invariant c.known.ensures c.args.job c.origin-origin.result
    (planned_inside c.self.inside.records.setup.plan c.args.job
    (next_planned c.self.inside.records c.args.job (subst (λ (v : BookView). next_job_of v.account ≡ nexts.Job c.args.job) (sym c.self.view_is) c.requires.next)))
    c.origin-origin.ensures

pub start_from-requires-clause-images : goal.start_from-requires-clause-images
start_from-requires-clause-images g c = inside_images c.self.inside.records c.self.inside.images.items c.args.self.now c.self.view_is (g.F.Frames.name c.args.pool.now) c.requires.pool.images

pub start_from-requires-clause-job : goal.start_from-requires-clause-job
start_from-requires-clause-job g c =
    subst (λ (s : Conditions). node_of c.args.job < length s.plan) (sym c.setup-setup.ensures)
    (planned_inside c.self.inside.records.setup.plan c.args.job
    (next_planned c.self.inside.records c.args.job (subst (λ (v : BookView). next_job_of v.account ≡ nexts.Job c.args.job) (sym c.self.view_is) c.requires.next)))

pub start-requires : goal.start-requires
start-requires g c = next_ready c.self.inside.records c.args.job (subst (λ (v : BookView). next_job_of v.account ≡ nexts.Job c.args.job) (sym c.self.view_is) c.requires.next)

pub invariant_of-self : goal.invariant_of-self
invariant_of-self g c =
    started_book c.self.inside.records c.start.new.self c.self.inside.images.items c.args.job c.start.result c.self.invariant record { account = c.start.ensures.journal; records = c.start.ensures.records }

pub returns-clause-ok : goal.returns-clause-ok
returns-clause-ok g c =
    let a = c.self.inside.records in
    let b = c.start.new.self in
    let images = c.self.inside.images.items in
    let sim = c.in_ok-sim.sim in
    let made : Appends (Start c.args.job c.start.result) a b = record { account = c.start.ensures.journal; records = c.start.ensures.records } in
    let stands =
    subst (λ (o : Option NodeNo). StandsAtOrigin a.setup images o c.args.job sim) (c.origin-origin.ensures ∙ sym c.start.ensures.origin)
    (subst (λ (s : Conditions). StandsAtOrigin s images c.origin-origin.result c.args.job sim) c.setup-setup.ensures c.in_ok-sim.ensures.ok) in
    let done = started a b images c.self.invariant c.known.ensures c.args.job c.start.result sim c.start.ensures.origin made stands in
    subst (λ (v : BookView). Starts c.args.job v (made_of b images) sim) c.self.view_is
    record {
      origin = c.start.result;
      nearest = c.start.ensures.origin;
      entry = made;
      images = refl;
      runs = done.job;
      settled = done.settled;
      attempt = done.runs;
      turns = done.turns;
    }

pub returns-clause-pool : goal.returns-clause-pool
returns-clause-pool g c =
    let e = Start c.args.job c.start.result in
    serves_after (g.F.Frames.name c.args.pool.now) (g.F.Frames.name c.start_from.new.pool) c.args.self.now (made_of c.start.new.self c.self.inside.images.items)
    (g.F.Frames.seen c.args.hand.now) (g.F.Frames.seen c.start_from.new.hand) e c.requires.pool
    (outside_appends c.self.inside.records c.self.inside.images.items c.args.self.now c.self.view_is e c.start.new.self record { account = c.start.ensures.journal; records = c.start.ensures.records })
    c.start_from.ensures.pool.name c.in_ok-sim.ensures.lent.name
    (are_of-renamed (g.F.Frames.name c.args.pool.now) (g.F.Frames.name c.start_from.new.pool) c.self.inside.images.items c.start_from.ensures.pool.name
    (inside_images c.self.inside.records c.self.inside.images.items c.args.self.now c.self.view_is (g.F.Frames.name c.args.pool.now) c.requires.pool.images))

pub returns-clause-kept : goal.returns-clause-kept
returns-clause-kept g c =
    outside_keeps_hand c.self.inside.records c.self.inside.images.items c.args.self.now c.self.view_is (g.F.Frames.numbers c.args.pool.now) (g.F.Frames.numbers c.start_from.new.pool)
    (g.F.Frames.seen c.args.hand.now) (g.F.Frames.seen c.start_from.new.hand ∷ c.in_ok-sim.sim.pages.holder ∷ holders c.self.inside.images.items) c.in_ok-sim.ensures.kept
