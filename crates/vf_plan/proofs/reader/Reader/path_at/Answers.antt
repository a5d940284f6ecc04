use Rattle.std.proofs.Common.{◌∙◌, ◌<◌, ◌≤◌, List, length, refl, IfSome, get_or, ap, sym, subst, arith}
use Rattle.std.proofs.lemmas.List.{get_or_default}
use Rattle.std.proofs.lemmas.Option.{slice_get_read}
use Rattle.vf_plan.specs.declared.plan.PathSize.{PathSize}
use Rattle.vf_plan.specs.Paths.{no_path, at_parent, path_sizes}
use Rattle.vf_plan.proofs.PathLemmas.{length-path_sizes}
use Rattle.vf_plan.proofs.reader.Reader.path_at.Goals as goal

pub index-requires : goal.index-requires
index-requires c =
    let within : c.in-Some.parent.0 < length c.args.self.now = subst (λ o. IfSome o (λ p. p.0 < length c.args.self.now)) c.in-Some.is c.requires in
    let long = ap length c.self.invariant.sized ∙ length-path_sizes c.self.inside.nodes.items in
    let view = ap length c.self.view_is in
    omega (arith, within, long, view)

pub returns-clause-path : goal.returns-clause-path
returns-clause-path c =
    let within : c.in-Some.parent.0 < length c.args.self.now = subst (λ o. IfSome o (λ p. p.0 < length c.args.self.now)) c.in-Some.is c.requires in
    let long = ap length c.self.invariant.sized ∙ length-path_sizes c.self.inside.nodes.items in
    let view = ap length c.self.view_is in
    let inside : c.in-Some.parent.0 < length c.self.inside.paths.items = omega (arith, within, long, view) in
    c.index.ensures
    ∙ get_or_default c.self.inside.paths.items c.in-Some.parent.0 c.index.result.now no_path inside
    ∙ ap (λ (ps : List PathSize). get_or ps c.in-Some.parent.0 no_path) c.self.invariant.sized
    ∙ ap (λ ns. get_or (path_sizes ns) c.in-Some.parent.0 no_path) c.self.view_is
    ∙ ap (at_parent no_path (path_sizes c.args.self.now)) (sym c.in-Some.is)

pub returns-clause-small : goal.returns-clause-small
returns-clause-small c =
    let within : c.in-Some.parent.0 < length c.args.self.now = subst (λ o. IfSome o (λ p. p.0 < length c.args.self.now)) c.in-Some.is c.requires in
    let long = ap length c.self.invariant.sized ∙ length-path_sizes c.self.inside.nodes.items in
    let view = ap length c.self.view_is in
    let inside : c.in-Some.parent.0 < length c.self.inside.paths.items = omega (arith, within, long, view) in
    subst (λ o. IfSome o (λ (p : PathSize). (p.nodes ≤ 64) × (p.bytes ≤ 1048576)))
    (slice_get_read c.self.inside.paths.items (length c.self.inside.paths.items) c.in-Some.parent.0 c.index.result.now refl inside c.index.ensures)
    (c.self.invariant.small c.in-Some.parent.0)
