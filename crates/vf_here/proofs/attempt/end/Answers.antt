use Rattle.vf_journal.specs.declared.entry.Entry.TheVariants.{End}
use Rattle.vf_here.proofs.WorkLemmas.{idle_closed, ends_end, ended_pages, ending_counts}
use Rattle.vf_here.proofs.attempt.end.Goals as goal

pub returns-in-Reach-clause-idle : goal.returns-in-Reach-clause-idle
returns-in-Reach-clause-idle g c =
    let ends = ends_end c.args.book.now.account c.note_ended.new.self.account c.args.sim c.requires.work.attempt c.args.turns c.note_ended.ensures.entry in
    idle_closed (g.F.Frames.name c.args.pool.now) (g.F.Frames.name c.note_ended.new.pool) (g.F.Frames.numbers c.args.pool.now) (g.F.Frames.numbers c.note_ended.new.pool)
    c.args.book.now c.note_ended.new.self (g.F.Frames.seen c.args.hand.now) (g.F.Frames.seen c.note_ended.new.hand) c.args.sim (End c.args.sim.job c.args.turns) c.args.turns c.requires.work ends
    (ended_pages c.args.book.now.account.setup c.args.sim c.args.ending c.args.turns c.requires.work.attempt.setup c.in-Reach.ensures.kept c.requires.ending)
    c.note_ended.ensures.pool c.note_ended.ensures.hand c.note_ended.ensures.kept

pub returns-in-Finish-clause-idle : goal.returns-in-Finish-clause-idle
returns-in-Finish-clause-idle g c =
    let ends = ends_end c.args.book.now.account c.finish.new.self.account c.args.sim c.requires.work.attempt c.args.turns c.finish.ensures.entry in
    idle_closed (g.F.Frames.name c.args.pool.now) (g.F.Frames.name c.finish.new.pool) (g.F.Frames.numbers c.args.pool.now) (g.F.Frames.numbers c.finish.new.pool)
    c.args.book.now c.finish.new.self (g.F.Frames.seen c.args.hand.now) (g.F.Frames.seen c.finish.new.hand) c.args.sim (End c.args.sim.job c.args.turns) c.args.turns c.requires.work ends
    (ended_pages c.args.book.now.account.setup c.args.sim c.args.ending c.args.turns c.requires.work.attempt.setup c.in-Finish.ensures.kept c.requires.ending)
    c.finish.ensures.pool c.finish.ensures.hand c.finish.ensures.kept

pub returns-in-Reach-clause-later : goal.returns-in-Reach-clause-later
returns-in-Reach-clause-later g c = ending_counts c.args.sim c.args.ending c.args.turns c.in-Reach.ensures.kept c.requires.ending

pub returns-in-Finish-clause-later : goal.returns-in-Finish-clause-later
returns-in-Finish-clause-later g c = ending_counts c.args.sim c.args.ending c.args.turns c.in-Finish.ensures.kept c.requires.ending
