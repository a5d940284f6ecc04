use Rattle.std.proofs.Common.{◌≡◌, ◌++◌, ◌∷◌, [], ◌∙◌, sym, ap, ap₂, None}
use Rattle.vf_scope.specs.Names.{Names, find}
use Rattle.vf_scope.proofs.NameLemmas.{names, added, not_found}
use Rattle.vf_scope.proofs.scope.Scope.add.Goals as goal

pub returns-clause-names : goal.returns-clause-names
returns-clause-names c =
    let fresh : find c.args.self.now c.args.name.now ≡ None = sym c.find.ensures ∙ not_found c.find.result (sym c.is_some.ensures ∙ c.if-is_some.false) in
    let entries = c.self.inside.entries.entries in
    ap (names (λ key. key.items)) c.in-Ok-insert.ensures.entries
    ∙ added (λ key. key.items) entries c.in-Ok.key c.args.entry (ap₂ find c.self.view_is c.in-Ok.ensures.items ∙ fresh)
    ∙ ap₂ (λ (old : Names) name. old ++ (name, c.args.entry) ∷ []) c.self.view_is c.in-Ok.ensures.items
