use Rattle.std.proofs.Common.{◌≡◌, true, sym, ap, subst, arith}
use Rattle.vf_journal.specs.Records.{is_ready}
use Rattle.vf_records.specs.Account.{IsAccount, farm_of, records_in}
use Rattle.vf_records.proofs.CallerLemmas.{ready_next}
use Rattle.vf_book.specs.Book.{BookView}
use Rattle.vf_here.specs.Work.{turns_in, left_in}
use Rattle.vf_here.proofs.WorkLemmas.{parts_enough, work_started, started_turns, started_left, idle_same, idle_lost, lost_left, lost_turns}
use Rattle.vf_here.proofs.attempt.run_job.Goals as goal

pub fork_for-requires-clause-parts : goal.fork_for-requires-clause-parts
fork_for-requires-clause-parts g c =
    parts_enough (g.F.Frames.name c.args.pool.now) (g.F.Frames.numbers c.args.pool.now) c.args.book.now (g.F.Frames.seen c.args.hand.now) c.requires.idle c.records.ensures.kept
    (subst IsAccount c.records.ensures.records c.known.ensures)

pub run-requires-clause-work : goal.run-requires-clause-work
run-requires-clause-work g c =
    work_started (g.F.Frames.name c.args.pool.now) (g.F.Frames.name c.fork_for.new.pool) (g.F.Frames.numbers c.args.pool.now) (g.F.Frames.numbers c.fork_for.new.pool) c.args.book.now c.fork_for.new.self
    (g.F.Frames.seen c.args.hand.now) (g.F.Frames.seen c.fork_for.new.hand) c.in-Ok.sim c.args.job c.requires.idle c.in-Ok.ensures.ok c.in-Ok.ensures.lent c.fork_for.ensures.pool c.in-Ok.ensures.kept

pub lose_unstarted-requires-clause-ready : goal.lose_unstarted-requires-clause-ready
lose_unstarted-requires-clause-ready g c =
    subst (λ (x : BookView). is_ready (farm_of x.account.setup) (records_in x.account) c.args.job ≡ true) (sym c.in-Err.ensures.err.0) (ready_next c.args.book.now.account c.args.job c.requires.next)

pub returns-in-Ok-clause-less : goal.returns-in-Ok-clause-less
returns-in-Ok-clause-less g c =
    let starts = c.in-Ok.ensures.ok in
    let same = started_left c.args.book.now.account c.fork_for.new.self.account c.args.job starts.origin starts.entry (ready_next c.args.book.now.account c.args.job c.requires.next) in
    omega (arith, same, c.run.ensures.less)

pub returns-in-Ok-clause-turns : goal.returns-in-Ok-clause-turns
returns-in-Ok-clause-turns g c =
    let starts = c.in-Ok.ensures.ok in
    let same = started_turns c.args.book.now.account c.fork_for.new.self.account c.args.job starts.origin (subst IsAccount c.records.ensures.records c.known.ensures) starts.entry in
    let made = c.run.ensures.turns starts.attempt.attempt starts.attempt.runs in
    let here = starts.turns in
    omega (arith, same, made, here)

pub returns-in-Err-clause-idle : goal.returns-in-Err-clause-idle
returns-in-Err-clause-idle g c =
    let rest = idle_same (g.F.Frames.name c.args.pool.now) (g.F.Frames.name c.fork_for.new.pool) (g.F.Frames.numbers c.args.pool.now) (g.F.Frames.numbers c.fork_for.new.pool) c.args.book.now c.fork_for.new.self
    (g.F.Frames.seen c.args.hand.now) (g.F.Frames.seen c.fork_for.new.hand) c.requires.idle c.in-Err.ensures.err.0 c.in-Err.ensures.err.1 c.fork_for.ensures.pool c.in-Err.ensures.kept in
    idle_lost (g.F.Frames.name c.fork_for.new.pool) (g.F.Frames.name c.lose_unstarted.new.pool) (g.F.Frames.numbers c.fork_for.new.pool) (g.F.Frames.numbers c.lose_unstarted.new.pool) c.fork_for.new.self c.lose_unstarted.new.self
    (g.F.Frames.seen c.fork_for.new.hand) (g.F.Frames.seen c.lose_unstarted.new.hand) c.args.job rest c.lose_unstarted.ensures.entry c.lose_unstarted.ensures.pool c.lose_unstarted.ensures.hand c.lose_unstarted.ensures.kept

pub returns-in-Err-clause-less : goal.returns-in-Err-clause-less
returns-in-Err-clause-less g c =
    let book = c.in-Err.ensures.err.0 in
    let kept = subst (λ (x : BookView). IsAccount x.account) (sym book) (subst IsAccount c.records.ensures.records c.known.ensures) in
    let ready = subst (λ (x : BookView). is_ready (farm_of x.account.setup) (records_in x.account) c.args.job ≡ true) (sym book) (ready_next c.args.book.now.account c.args.job c.requires.next) in
    let less = lost_left c.fork_for.new.self.account c.lose_unstarted.new.self.account c.args.job kept c.lose_unstarted.ensures.entry ready in
    let same = ap (λ (x : BookView). left_in x.account) book in
    omega (arith, less, same)

pub returns-in-Err-clause-turns : goal.returns-in-Err-clause-turns
returns-in-Err-clause-turns g c =
    let book = c.in-Err.ensures.err.0 in
    let kept = subst (λ (x : BookView). IsAccount x.account) (sym book) (subst IsAccount c.records.ensures.records c.known.ensures) in
    let ready = subst (λ (x : BookView). is_ready (farm_of x.account.setup) (records_in x.account) c.args.job ≡ true) (sym book) (ready_next c.args.book.now.account c.args.job c.requires.next) in
    let none = lost_turns c.fork_for.new.self.account c.lose_unstarted.new.self.account c.args.job kept c.lose_unstarted.ensures.entry ready in
    let same = ap (λ (x : BookView). turns_in x.account) book in
    omega (arith, none, same)
