use Rattle.std.proofs.Common.{ℕ, List, Err, sym, subst}
use Rattle.std.proofs.lemmas.Result.{err_from_is_err_and}
use Rattle.vf_top.specs.Steps.{BuildsDesign}
use Rattle.vf_top.proofs.ReadLemmas.{design_refused}
use Rattle.vf_top.proofs.accept.accept.Goals as goal

pub returns-in_err-design : goal.returns-in_err-design
returns-in_err-design g c = λ words asked.
    let p = err_from_is_err_and c.from_residual-in_err-design.result c.from_residual-in_err-design.ensures.1 in
    rw (p.1, p.2) (design_refused words (g.S.Shelf.seen c.args.shelf.now) (g.S.Shelf.seen c.fetch.new.shelf) c.args.command.now
    (c.names.result.0.now, c.names.result.1.now) c.in_ok-bytes.bytes.items c.in_err-design.field-0.0
    (record { asked = asked; named = sym c.names.ensures }) c.in_ok-bytes.ensures.0 c.in_ok-bytes.ensures.1
    (subst (λ (bytes : List ℕ). BuildsDesign c.args.command.now.slots bytes (Err c.in_err-design.field-0.0)) c.deref.ensures.value c.in_err-design.ensures))
