use Rattle.std.proofs.Common.{◌≡◌, ◌+◌, ◌-◌, ◌<◌, ◌≤◌, length, sym, ◌∙◌, ap, subst, arith}
use Rattle.vf_elaborated.specs.Elaborated.{Elaborated}
use Rattle.vf_elaborated.specs.Inner.{elaborated_of}
use Rattle.vf_elaborated.specs.Addresses.{slot_at, link_at}
use Rattle.vf_elaborated.proofs.AddressLemmas.{link_of_process, link_beyond, link_inside, words_small}
use Rattle.vf_elaborated.proofs.design.Design.link_at.Goals as goal

pub returns-then-number-processes : goal.returns-then-number-processes
returns-then-number-processes c =
    let d = elaborated_of c.self.inside in
    let process : c.args.number < length d.processes = omega (arith, c.if-number-processes.true, c.len-processes.ensures) in
    ap (λ n. n + 2) c.thread_at.ensures ∙ sym (link_of_process d c.args.number process) ∙ ap (λ e. link_at e c.args.number) c.self.view_is

-- the address as it is computed, after the processes
module _ (c : goal.After-slot_at) where
  at_is : c.slot_at.result + 1 ≡ link_at (elaborated_of c.self.inside) c.args.number
  at_is =
      let d = elaborated_of c.self.inside in
      let beyond : length d.processes ≤ c.args.number = omega (arith, c.if-number-processes.false, c.len-processes.ensures) in
      ap (λ n. n + 1) (c.slot_at.ensures ∙ ap (λ e. slot_at e (c.args.number - c.len-processes.result)) (sym c.self.view_is))
      ∙ ap (λ n. slot_at d (c.args.number - n) + 1) c.len-processes.ensures ∙ sym (link_beyond d c.args.number beyond)

pub overflow_add-result-2 : goal.overflow_add-result-2
overflow_add-result-2 c =
    let d = elaborated_of c.self.inside in
    let required = subst (λ (e : Elaborated). c.args.number < length e.processes + e.slots) (sym c.self.view_is) c.requires in
    omega (arith, at_is c, link_inside d c.args.number required, words_small d c.self.invariant.formed)

pub returns : goal.returns
returns c = at_is c ∙ ap (λ e. link_at e c.args.number) c.self.view_is
