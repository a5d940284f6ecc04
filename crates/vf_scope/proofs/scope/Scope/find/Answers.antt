use Rattle.std.proofs.Common.{◌∙◌, ap}
use Rattle.vf_scope.specs.Names.{find}
use Rattle.vf_scope.proofs.NameLemmas.{found}
use Rattle.vf_scope.proofs.scope.Scope.find.Goals as goal

pub returns : goal.returns
returns c =
    c.copied.ensures ∙ c.get.ensures.value ∙ found (λ key. key.items) c.self.inside.entries.entries c.args.name.now
    ∙ ap (λ names. find names c.args.name.now) c.self.view_is
