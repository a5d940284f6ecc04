use Rattle.std.proofs.Common.{◌∙◌, List, ℕ, Ok, ap, sym, subst, map, string_bytes}
use Rattle.vf_top.specs.Work.{Works}
use Rattle.vf_top.proofs.WorkLemmas.{ran_by}
use Rattle.vf_top.proofs.command.run.Goals as goal

pub returns-in_ok-lines-in-Work-clause-ran : goal.returns-in_ok-lines-in-Work-clause-ran
returns-in_ok-lines-in-Work-clause-ran g c = λ err told.
    let words = map string_bytes c.args.words.now in
    let asked = c.in_ok-asked.ensures.0 ∙ ap (λ a. Ok a) c.in-Work.is in
    let worked = c.in_ok-lines-in-Work.ensures.worked words asked in
    let text = c.deref.result.now in
    let works = subst (λ (t : List ℕ). Works words (g.S.Shelf.seen c.args.shelf.now) c.args.steps.now c.work.new.steps t c.in_ok-lines-in-Work.lines.status) (sym c.deref.ensures.value) worked.0 in
    ran_by words
    record { shelf = g.S.Shelf.seen c.args.shelf.now; out = g.K.Sink.seen c.args.out.now; err = err; steps = c.args.steps.now }
    record { shelf = g.S.Shelf.seen c.work.new.shelf; out = g.K.Sink.seen c.end-in-Work.new.out; err = told; steps = c.work.new.steps }
    text c.in_ok-lines-in-Work.lines.status c.end-in-Work.result works worked.1 c.end-in-Work.ensures
