use Rattle.std.proofs.Common.{ℕ, ◌/◌, List, [], length, sym, refl, ap, ◌∙◌, subst, arith}
use Rattle.std.proofs.lemmas.Bool.{both_ways}
use Rattle.vf_frames.specs.Numbers.{rises}
use Rattle.vf_pages.specs.declared.held.Held.{Held}
use Rattle.vf_pages.specs.Pages.{Page, Owns, pages_in, page_limit}
use Rattle.vf_pages.specs.Views.{pages_of}
use Rattle.vf_pages.specs.Writes.{AllOn, touches}
use Rattle.vf_pages.specs.Places.{IsTable}
use Rattle.vf_pages.specs.Gathered.{Gathered, Goes, Ends}
use Rattle.vf_pages.proofs.Groups.{AllOn-own}
use Rattle.vf_pages.proofs.Steps.{gathered-none}
use Rattle.vf_pages.proofs.Writing.{taken-more}
use Rattle.vf_frames.proofs.CallerLemmas.{pool-then}
use Rattle.vf_pages.proofs.Progress.{first-shorter, progress-goes, progress-ends, none-left}
use Rattle.vf_pages.proofs.gather.gather.Goals as goal

pub loop-first-init : goal.loop-first-init
loop-first-init g c =
    let pages = pages_of c.args.held.now.items in
    let numbers = g.F.Frames.numbers c.args.pool.now in
    let now = g.F.Frames.seen c.args.token.now in
    record {
      progress = record {
        done = [];
        whole = refl;
        rising = c.requires.writes;
        later = λ q r t u. absurd (cc);
        gathered = subst (λ (hs : List Held). Gathered c.args.zero.now pages [] numbers now numbers now (pages_of hs)) (sym c.requires.none)
            (gathered-none c.args.zero.now pages numbers now c.requires.held);
      };
      pages = refl;
      taken = λ p t off. absurd (both_ways (touches p c.args.writes.now) off t);
      pool = record { name = refl; told = refl };
    }

pub gather_page-requires-clause-own : goal.gather_page-requires-clause-own
gather_page-requires-clause-own g c =
    let p : ℕ = c.in-Some.first.now.at / 64 in
    subst (λ ws. AllOn p ws) (sym c.split_page.ensures.own) (AllOn-own p c.loop-first.rest.now)

pub gather_page-requires-clause-sorted : goal.gather_page-requires-clause-sorted
gather_page-requires-clause-sorted g c = ap (λ es. rises 0 page_limit (pages_in es)) c.loop-first.invariant.pages ∙ c.requires.sorted

pub gather_page-requires-clause-table : goal.gather_page-requires-clause-table
gather_page-requires-clause-table g c = subst (λ (es : List Page). IsTable c.args.places.now.items es) (sym c.loop-first.invariant.pages) c.requires.table

pub gather_page-requires-clause-owns : goal.gather_page-requires-clause-owns
gather_page-requires-clause-owns g c =
    subst (λ (es : List Page). Owns es (pages_of c.loop-first.fresh.items) (g.F.Frames.seen c.loop-first.token).frames) (sym c.loop-first.invariant.pages)
    c.loop-first.invariant.progress.gathered.owns

pub returns-in-Err-clause-err : goal.returns-in-Err-clause-err
returns-in-Err-clause-err g c =
    let ends = subst (λ (es : List Page). Ends c.args.zero.now es (c.in-Some.first.now.at / 64) c.split_page.result.0.now
    (g.F.Frames.numbers c.loop-first.pool) (g.F.Frames.seen c.loop-first.token) (pages_of c.loop-first.fresh.items)
    (g.F.Frames.numbers c.gather_page.new.pool) (g.F.Frames.seen c.gather_page.new.token) (pages_of c.gather_page.new.fresh.items) c.in-Err.lack)
    c.loop-first.invariant.pages c.in-Err.ensures.err in
    progress-ends _ _ _ _ _ _ _ _ _ _ c.in-Some.first.now _ _ _ _ c.in-Err.lack c.loop-first.invariant.progress c.in-Some.ensures.value
    c.split_page.ensures.own ends

pub returns-in-Err-clause-pages : goal.returns-in-Err-clause-pages
returns-in-Err-clause-pages g c = c.gather_page.ensures.pages ∙ c.loop-first.invariant.pages

pub returns-clause-taken : goal.returns-clause-taken
returns-clause-taken g c = λ p t.
    c.loop-first.invariant.taken p t (ap (touches p) (none-left c.loop-first.rest.now c.in_default.ensures.value))

pub loop-first-smaller : goal.loop-first-smaller
loop-first-smaller g c =
    omega (arith, first-shorter c.loop-first.rest.now c.in-Some.first.now c.in-Some.ensures.value, ap length c.split_page.ensures.beyond)

pub loop-first-preserved : goal.loop-first-preserved
loop-first-preserved g c =
    let goes = subst (λ (es : List Page). Goes c.args.zero.now es (c.in-Some.first.now.at / 64) c.split_page.result.0.now
    (g.F.Frames.numbers c.loop-first.pool) (g.F.Frames.seen c.loop-first.token) (pages_of c.loop-first.fresh.items)
    (g.F.Frames.numbers c.gather_page.new.pool) (g.F.Frames.seen c.gather_page.new.token) (pages_of c.gather_page.new.fresh.items))
    c.loop-first.invariant.pages c.in_default-gather_page.ensures.ok in
    record {
      progress = progress-goes _ _ _ _ _ _ _ _ _ _ c.in-Some.first.now _ _ _ _ _ c.loop-first.invariant.progress c.in-Some.ensures.value
          c.split_page.ensures.own c.split_page.ensures.beyond goes;
      pages = c.gather_page.ensures.pages ∙ c.loop-first.invariant.pages;
      taken = taken-more c.args.writes.now c.loop-first.rest.now c.in-Some.first.now c.loop-first.held.items c.gather_page.new.held.items
          (pages_of c.loop-first.fresh.items) (pages_of c.gather_page.new.fresh.items) c.split_page.result.1.now
          c.split_page.ensures.beyond c.in_default-gather_page.ensures.taken c.loop-first.invariant.taken;
      pool = pool-then _ _ _ _ _ _ c.loop-first.invariant.pool c.gather_page.ensures.pool;
    }
