use Rattle.std.proofs.Common.{◌∙◌, ap}
use Rattle.std.specs.Str.{bytes_eq}
use Rattle.vf_plan.specs.Reading.{node_named}
use Rattle.vf_plan.proofs.ReaderLemmas.{position-alike}
use Rattle.vf_plan.proofs.reader.Reader.find.Goals as goal

pub returns-clause-number : goal.returns-clause-number
returns-clause-number c =
    (rw c.as_bytes.ensures.value at c.get_index_of.ensures.index)
    ∙ position-alike (λ name. name.items) (λ node. node.name) (bytes_eq c.args.name.now) c.self.inside.names.keys c.self.inside.nodes.items c.self.invariant.named
    ∙ ap (node_named c.args.name.now) c.self.view_is
