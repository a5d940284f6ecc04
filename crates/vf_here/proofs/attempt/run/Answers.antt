use Rattle.std.proofs.Common.{◌≡◌, ◌∙◌, [], sym, ap, ap₂, subst, arith}
use Rattle.vf_image.specs.Runs.{limits_for}
use Rattle.vf_image.specs.Simulators.{Simulator}
use Rattle.vf_image.specs.Standing.{IsOver}
use Rattle.vf_records.specs.Account.{IsAccount, records_in}
use Rattle.vf_run.specs.declared.stop.Stop.{Stop}
use Rattle.vf_run.specs.Stops.{Stops}
use Rattle.vf_book.specs.Book.{BookView}
use Rattle.vf_here.specs.Work.{turns_in, left_in}
use Rattle.vf_here.proofs.WorkLemmas.{work_run, work_evicted, work_kept, closing_stop, over_budget, full_with, ends_setup, attempt_left, attempt_turns, since_is, evicts_less, evicts_stages, evicts_setup, evicts_left, evicts_turns}
use Rattle.vf_here.proofs.attempt.run.Goals as goal

pub go-stop-requires-clause-room : goal.go-stop-requires-clause-room
go-stop-requires-clause-room g c =
    let same = ap₂ (λ s j. (limits_for s j).turns) c.turns.invariant.of_sim c.turns.invariant.job in
    omega (arith, same, c.limited.ensures, c.turns.invariant.made, c.requires.room)

pub close-requires : goal.close-requires
close-requires g c = record {
  work = work_run (g.F.Frames.name c.turns.pool) (g.F.Frames.name c.go-stop.new.pool) (g.F.Frames.numbers c.turns.pool) (g.F.Frames.numbers c.go-stop.new.pool) c.turns.book (g.F.Frames.seen c.turns.hand)
      c.turns.sim c.go-stop.new.sim c.turns.invariant.work c.go-stop.ensures.pool.name c.go-stop.ensures.setup c.go-stop.ensures.job c.go-stop.ensures.forward
      c.go-stop.ensures.token.name c.go-stop.ensures.token.parts c.go-stop.ensures.kept;
  stop = closing_stop (g.F.Frames.numbers c.turns.pool) c.turns.sim.pages.holder c.go-stop.new.sim c.go-stop.result c.in_default.not-Short c.go-stop.ensures.stop;
}

pub returns-in_default : goal.returns-in_default
returns-in_default g c =
    let inv = c.turns.invariant in
    let went = c.go-stop.ensures in
    let a = c.turns.book.account in
    let b = c.close.new.book.account in
    let s : Simulator = c.go-stop.new.sim in
    let kept : IsAccount a = subst IsAccount c.records.ensures.records c.known.ensures in
    let work = work_run (g.F.Frames.name c.turns.pool) (g.F.Frames.name c.go-stop.new.pool) (g.F.Frames.numbers c.turns.pool) (g.F.Frames.numbers c.go-stop.new.pool) c.turns.book (g.F.Frames.seen c.turns.hand)
    c.turns.sim s inv.work went.pool.name went.setup went.job went.forward went.token.name went.token.parts went.kept in
    let closed = c.close.ensures.closed in
    let same = ap₂ (λ x j. (limits_for x j).turns) inv.of_sim inv.job in
    record {
      idle = c.close.ensures.idle;
      setup = ends_setup a b s.job _ kept closed.0 closed.1 ∙ inv.setup;
      less = let less = attempt_left a b s _ kept work.attempt closed.0 closed.1 in let left = inv.left in omega (arith, less, left);
      turns = λ attempt is.
          let runs = ap (records_in a).stages (went.job ∙ inv.job) ∙ inv.stages c.args.sim.job ∙ is in
          let since = since_is (records_in a) s.job attempt work.attempt.attempt runs work.attempt.runs in
          let before = work.attempt.since in
          let later = c.close.ensures.later in
          let more = attempt_turns a b s _ kept work.attempt closed.0 closed.1 attempt runs (omega (arith, since, before, later)) in
          let turns = inv.turns in
          let count = inv.count in
          let steps = went.steps in
          omega (arith, more, turns, count, steps);
      most = omega (arith, same, c.limited.ensures, inv.count, went.steps, went.within);
      parts = went.parts ∙ inv.parts;
    }

pub pass_budget-requires : goal.pass_budget-requires
pass_budget-requires g c =
    let inv = c.turns.invariant in
    let went = c.go-stop.ensures in
    let gave = c.if-not-evict_one.ensures in
    let s : Simulator = c.go-stop.new.sim in
    let work = work_run (g.F.Frames.name c.turns.pool) (g.F.Frames.name c.go-stop.new.pool) (g.F.Frames.numbers c.turns.pool) (g.F.Frames.numbers c.go-stop.new.pool) c.turns.book (g.F.Frames.seen c.turns.hand)
    c.turns.sim s inv.work went.pool.name went.setup went.job went.forward went.token.name went.token.parts went.kept in
    record {
      work = work_kept (g.F.Frames.name c.go-stop.new.pool) (g.F.Frames.name c.evict_one.new.pool) (g.F.Frames.numbers c.go-stop.new.pool) (g.F.Frames.numbers c.evict_one.new.pool) c.turns.book c.evict_one.new.self
          (g.F.Frames.seen c.turns.hand) (g.F.Frames.seen c.evict_one.new.hand) s c.evict_one.new.sim work gave.evicted.0 gave.sim gave.same.name gave.pool gave.hand gave.kept gave.open;
      none = subst (λ (x : BookView). (records_in x.account).held ≡ []) (sym gave.evicted.0) gave.evicted.1;
      over = subst (λ (x : Simulator). IsOver x c.in-Short.pages) (sym gave.sim)
          (over_budget (g.F.Frames.name c.turns.pool) (g.F.Frames.numbers c.turns.pool) c.turns.book (g.F.Frames.seen c.turns.hand) c.turns.sim s c.in-Short.pages inv.work
          (subst (λ (st : Stop). Stops (g.F.Frames.numbers c.turns.pool) c.turns.sim.pages.holder s st) c.in-Short.is went.stop) went.setup gave.evicted.2);
    }

pub returns-then-not-evict_one : goal.returns-then-not-evict_one
returns-then-not-evict_one g c =
    let inv = c.turns.invariant in
    let went = c.go-stop.ensures in
    let gave = c.if-not-evict_one.ensures in
    let book = gave.evicted.0 in
    let a = c.evict_one.new.self.account in
    let b = c.pass_budget.new.book.account in
    let s : Simulator = c.go-stop.new.sim in
    let s' : Simulator = c.evict_one.new.sim in
    let kept : IsAccount a = subst (λ (x : BookView). IsAccount x.account) (sym book) (subst IsAccount c.records.ensures.records c.known.ensures) in
    let runs = gave.open in
    let closed = c.pass_budget.ensures.closed in
    let same = ap₂ (λ x j. (limits_for x j).turns) inv.of_sim inv.job in
    let turns_same = ap (λ (x : Simulator). x.header.turns) gave.sim in
    let steps = c.in-Short.ensures.steps in
    record {
      idle = c.pass_budget.ensures.idle;
      setup = ends_setup a b s'.job _ kept closed.0 closed.1 ∙ ap (λ (x : BookView). x.account.setup) book ∙ inv.setup;
      less =
          let less = attempt_left a b s' _ kept runs closed.0 closed.1 in
          let left = ap (λ (x : BookView). left_in x.account) book ∙ inv.left in
          omega (arith, less, left);
      turns = λ attempt is.
          let here = ap (λ (x : BookView). (records_in x.account).stages s'.job) book
          ∙ ap (records_in c.turns.book.account).stages (ap (λ (x : Simulator). x.job) gave.sim ∙ went.job ∙ inv.job) ∙ inv.stages c.args.sim.job ∙ is in
          let since = since_is (records_in a) s'.job attempt runs.attempt here runs.runs in
          let before = runs.since in
          let more = attempt_turns a b s' _ kept runs closed.0 closed.1 attempt here (omega (arith, since, before)) in
          let turns = ap (λ (x : BookView). turns_in x.account) book ∙ inv.turns in
          let count = inv.count in
          omega (arith, more, turns, count, steps, turns_same);
      most = let within = c.in-Short.ensures.within in let count = inv.count in omega (arith, same, c.limited.ensures, count, steps, within);
      parts = went.parts ∙ inv.parts;
    }

pub turns-smaller : goal.turns-smaller
turns-smaller g c =
    evicts_less c.turns.book.account c.evict_one.new.self.account (subst IsAccount c.records.ensures.records c.known.ensures) c.if-not-evict_one.ensures.evicted

pub turns-preserved : goal.turns-preserved
turns-preserved g c =
    let inv = c.turns.invariant in
    let went = c.go-stop.ensures in
    let gave = c.if-not-evict_one.ensures in
    let a = c.turns.book.account in
    let b = c.evict_one.new.self.account in
    let s : Simulator = c.go-stop.new.sim in
    let s' : Simulator = c.evict_one.new.sim in
    let kept : IsAccount a = subst IsAccount c.records.ensures.records c.known.ensures in
    let work = work_run (g.F.Frames.name c.turns.pool) (g.F.Frames.name c.go-stop.new.pool) (g.F.Frames.numbers c.turns.pool) (g.F.Frames.numbers c.go-stop.new.pool) c.turns.book (g.F.Frames.seen c.turns.hand)
    c.turns.sim s inv.work went.pool.name went.setup went.job went.forward went.token.name went.token.parts went.kept in
    let full = full_with (g.F.Frames.name c.turns.pool) (g.F.Frames.numbers c.turns.pool) c.turns.book (g.F.Frames.seen c.turns.hand) c.turns.sim s c.in-Short.pages inv.work
    (subst (λ (st : Stop). Stops (g.F.Frames.numbers c.turns.pool) c.turns.sim.pages.holder s st) c.in-Short.is went.stop) went.setup c.records.ensures.kept in
    let evicts = gave.evicted in
    let turns_same = ap (λ (x : Simulator). x.header.turns) gave.sim in
    let steps = c.in-Short.ensures.steps in
    let within = c.in-Short.ensures.within in
    let same = ap₂ (λ x j. (limits_for x j).turns) inv.of_sim inv.job in
    record {
      work = work_evicted (g.F.Frames.name c.go-stop.new.pool) (g.F.Frames.name c.evict_one.new.pool) (g.F.Frames.numbers c.go-stop.new.pool) (g.F.Frames.numbers c.evict_one.new.pool) c.turns.book c.evict_one.new.self
          (g.F.Frames.seen c.turns.hand) (g.F.Frames.seen c.evict_one.new.hand) s s' kept work evicts full gave.same.name gave.pool gave.hand gave.kept gave.open gave.sim;
      setup = evicts_setup a b kept evicts ∙ inv.setup;
      of_sim = ap (λ (x : Simulator). x.setup) gave.sim ∙ went.setup ∙ inv.of_sim;
      job = ap (λ (x : Simulator). x.job) gave.sim ∙ went.job ∙ inv.job;
      stages = λ j. evicts_stages a b kept evicts j ∙ inv.stages j;
      left = evicts_left a b kept evicts ∙ inv.left;
      turns = evicts_turns a b kept evicts ∙ inv.turns;
      count = omega (arith, turns_same, inv.count, steps);
      made = omega (arith, inv.count, steps, within, same, c.limited.ensures);
      forward = omega (arith, turns_same, inv.forward, went.forward);
      parts = went.parts ∙ inv.parts;
    }
