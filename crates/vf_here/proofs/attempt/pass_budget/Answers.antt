use Rattle.std.proofs.Common.{arith}
use Rattle.vf_journal.specs.declared.entry.Entry.TheVariants.{Pages}
use Rattle.vf_here.proofs.WorkLemmas.{idle_closed, ends_pages}
use Rattle.vf_here.proofs.attempt.pass_budget.Goals as goal

pub returns-clause-idle : goal.returns-clause-idle
returns-clause-idle g c =
    idle_closed (g.F.Frames.name c.args.pool.now) (g.F.Frames.name c.over.new.pool) (g.F.Frames.numbers c.args.pool.now) (g.F.Frames.numbers c.over.new.pool)
    c.args.book.now c.over.new.self (g.F.Frames.seen c.args.hand.now) (g.F.Frames.seen c.over.new.hand) c.args.sim (Pages c.args.sim.job c.args.sim.header.turns c.args.pages) c.args.sim.header.turns c.requires.work
    (ends_pages c.args.book.now.account c.over.new.self.account c.args.sim c.requires.work.attempt c.args.pages c.requires.work.alone c.requires.none c.over.ensures.entry)
    (omega arith) c.over.ensures.pool c.over.ensures.hand c.over.ensures.kept

pub returns-clause-closed : goal.returns-clause-closed
returns-clause-closed g c = (
  Pages c.args.sim.job c.args.sim.header.turns c.args.pages,
  ends_pages c.args.book.now.account c.over.new.self.account c.args.sim c.requires.work.attempt c.args.pages c.requires.work.alone c.requires.none c.over.ensures.entry,
)
