use Rattle.std.proofs.Common.{◌<◌, length, sym, subst, arith}
use Rattle.vf_elaborated.specs.Elaborated.{Elaborated}
use Rattle.vf_elaborated.specs.Inner.{elaborated_of}
use Rattle.vf_elaborated.proofs.AddressLemmas.{thread_inside, words_small}
use Rattle.vf_elaborated.proofs.design.Design.thread_at.Goals as goal

pub overflow_mul-result : goal.overflow_mul-result
overflow_mul-result c =
    let d = elaborated_of c.self.inside in
    let required = subst (λ (e : Elaborated). c.args.process < length e.processes) (sym c.self.view_is) c.requires in
    omega (arith, thread_inside d c.args.process required, words_small d c.self.invariant.formed)

pub overflow_add-result : goal.overflow_add-result
overflow_add-result c =
    let d = elaborated_of c.self.inside in
    let required = subst (λ (e : Elaborated). c.args.process < length e.processes) (sym c.self.view_is) c.requires in
    omega (arith, thread_inside d c.args.process required, words_small d c.self.invariant.formed)
