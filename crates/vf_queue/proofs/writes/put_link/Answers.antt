use Rattle.std.proofs.Common.{arith, subst, slice_set}
use Rattle.std.proofs.lemmas.Result.{on_ok_weaker}
use Rattle.vf_queue.specs.Writing.{Writes}
use Rattle.vf_elaborated.proofs.CallerLemmas.{link_inside}
use Rattle.vf_queue.proofs.writes.put_link.Goals as goal

pub returns : goal.returns
returns c =
    on_ok_weaker c.put.result
    (λ put base long.
    subst (λ at. Writes base (λ words. slice_set words at c.args.word) c.args.patch.now c.put.new.patch) c.link_at.ensures
    (put base (omega (arith, link_inside c.args.design.now c.args.number c.requires.number, c.link_at.ensures, long))))
    c.put.ensures
