use Rattle.std.proofs.Common.{sym, subst, arith}
use Rattle.vf_jobs.specs.Jobs.{node_of}
use Rattle.vf_journal.specs.declared.entry.Entry.TheVariants.{Saved, Pass, Lost}
use Rattle.vf_run.specs.declared.stop.Stop.{Stop}
use Rattle.vf_run.specs.Stops.{turns_made}
use Rattle.vf_here.specs.Work.{IsClosing, Closes}
use Rattle.vf_here.proofs.WorkLemmas.{idle_closed, ends_save, ends_pass, ends_lost}
use Rattle.vf_here.proofs.attempt.close.Goals as goal

pub returns-in-AtSave-clause-idle : goal.returns-in-AtSave-clause-idle
returns-in-AtSave-clause-idle g c =
    let saves = c.put_image.ensures.entry in
    idle_closed (g.F.Frames.name c.args.pool.now) (g.F.Frames.name c.put_image.new.pool) (g.F.Frames.numbers c.args.pool.now) (g.F.Frames.numbers c.put_image.new.pool)
    c.args.book.now c.put_image.new.self (g.F.Frames.seen c.args.hand.now) (g.F.Frames.seen c.put_image.new.hand) c.args.sim
    (Saved (record { 0 = node_of c.args.sim.job }) c.args.sim.header.turns saves.pages saves.base) c.args.sim.header.turns c.requires.work
    (ends_save c.args.book.now.account c.put_image.new.self.account c.args.sim c.requires.work.attempt saves.pages saves.base (subst (λ (st : Stop). IsClosing c.args.sim st) c.in-AtSave.is c.requires.stop).0 saves.entry)
    (omega arith) c.put_image.ensures.pool c.put_image.ensures.hand c.put_image.ensures.kept

pub returns-in-AtSave-clause-closed : goal.returns-in-AtSave-clause-closed
returns-in-AtSave-clause-closed g c =
    let saves = c.put_image.ensures.entry in
    subst (λ (st : Stop). Closes c.args.sim.job (turns_made c.args.sim st) c.args.book.now.account c.put_image.new.self.account) (sym c.in-AtSave.is) (
      Saved (record { 0 = node_of c.args.sim.job }) c.args.sim.header.turns saves.pages saves.base,
      ends_save c.args.book.now.account c.put_image.new.self.account c.args.sim c.requires.work.attempt saves.pages saves.base (subst (λ (st : Stop). IsClosing c.args.sim st) c.in-AtSave.is c.requires.stop).0 saves.entry,
    )

pub returns-in-ReadPast-clause-idle : goal.returns-in-ReadPast-clause-idle
returns-in-ReadPast-clause-idle g c =
    idle_closed (g.F.Frames.name c.args.pool.now) (g.F.Frames.name c.note_passed.new.pool) (g.F.Frames.numbers c.args.pool.now) (g.F.Frames.numbers c.note_passed.new.pool)
    c.args.book.now c.note_passed.new.self (g.F.Frames.seen c.args.hand.now) (g.F.Frames.seen c.note_passed.new.hand) c.args.sim
    (Pass (record { 0 = node_of c.args.sim.job }) c.args.sim.header.turns) c.args.sim.header.turns c.requires.work
    (ends_pass c.args.book.now.account c.note_passed.new.self.account c.args.sim c.requires.work.attempt (subst (λ (st : Stop). IsClosing c.args.sim st) c.in-ReadPast.is c.requires.stop) c.note_passed.ensures.entry)
    (omega arith) c.note_passed.ensures.pool c.note_passed.ensures.hand c.note_passed.ensures.kept

pub returns-in-Memory-clause-idle : goal.returns-in-Memory-clause-idle
returns-in-Memory-clause-idle g c =
    idle_closed (g.F.Frames.name c.args.pool.now) (g.F.Frames.name c.lose.new.pool) (g.F.Frames.numbers c.args.pool.now) (g.F.Frames.numbers c.lose.new.pool)
    c.args.book.now c.lose.new.self (g.F.Frames.seen c.args.hand.now) (g.F.Frames.seen c.lose.new.hand) c.args.sim (Lost c.args.sim.job c.args.sim.header.turns) c.args.sim.header.turns c.requires.work
    (ends_lost c.args.book.now.account c.lose.new.self.account c.args.sim c.requires.work.attempt c.lose.ensures.entry)
    (omega arith) c.lose.ensures.pool c.lose.ensures.hand c.lose.ensures.kept
