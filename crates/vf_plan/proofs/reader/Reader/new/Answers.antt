use Rattle.std.proofs.Common.{◌∙◌, length, map, ap, sym, arith}
use Rattle.vf_plan.proofs.PathLemmas.{path_sizes-none}
use Rattle.vf_plan.proofs.ReaderLemmas.{nowhere}
use Rattle.vf_plan.proofs.reader.Reader.new.Goals as goal

pub invariant_of-result : goal.invariant_of-result
invariant_of-result c =
    let none = c.new.ensures.items in
    let long = ap length none in
    record {
      named = ap (map (λ name. name.items)) c.new-2.ensures.empty ∙ sym (ap (map (λ node. node.name)) none);
      sized = c.new-3.ensures.items ∙ sym (path_sizes-none c.new.result.items none);
      few = omega (arith, long);
      small = nowhere _ c.new-3.result.items c.new-3.ensures.items;
      each = nowhere _ c.new.result.items none;
    }
