use Rattle.std.proofs.Common.{◌+◌, ap, ◌∙◌, drop}
use Rattle.std.proofs.lemmas.List.{take_rest, drop-drop}
use Rattle.vf_ports.proofs.Appending.{appends_next}
use Rattle.vf_ports.proofs.sink.put_all.Goals as goal

pub loop-rest-preserved : goal.loop-rest-preserved
loop-rest-preserved g c =
    let before = c.loop-rest.invariant in
    let taken = c.in_ok-count.count in
    record {
      count = before.count + taken;
      rest = take_rest c.loop-rest.rest.now taken ∙ ap (λ xs. drop taken xs) before.rest ∙ drop-drop taken before.count c.args.bytes.now;
      out = appends_next _ _ _ c.args.bytes.now c.loop-rest.rest.now before.count taken before.out before.rest c.in_ok-count.ensures.appended;
      no_fault = c.in_ok-count.ensures.no_fault ∙ before.no_fault;
    }
