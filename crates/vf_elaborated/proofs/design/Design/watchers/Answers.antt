use Rattle.std.proofs.Common.{◌<◌, [], length, slice_index_or, sym, ◌∙◌, ap, subst}
use Rattle.vf_elaborated.specs.Elaborated.{Elaborated}
use Rattle.vf_elaborated.specs.Inner.{elaborated_of}
use Rattle.vf_elaborated.specs.Tables.{may_wait, watchers_of}
use Rattle.vf_elaborated.proofs.TableLemmas.{table_length, table_at}
use Rattle.vf_elaborated.proofs.design.Design.watchers.Goals as goal

pub at-requires : goal.at-requires
at-requires c =
    let d = elaborated_of c.self.inside in
    let required = subst (λ (e : Elaborated). c.args.sig.0 < length e.signals) (sym c.self.view_is) c.requires in
    subst (λ n. c.args.sig.0 < n) (sym (ap length c.self.invariant.waiting ∙ table_length may_wait d.processes (length d.signals))) required

pub returns : goal.returns
unfolding watchers_of
returns c =
    let d = elaborated_of c.self.inside in
    let required = subst (λ (e : Elaborated). c.args.sig.0 < length e.signals) (sym c.self.view_is) c.requires in
    c.at.ensures ∙ ap (λ lists. slice_index_or lists c.args.sig.0 []) c.self.invariant.waiting
    ∙ table_at may_wait d.processes (length d.signals) c.args.sig.0 required ∙ ap (λ (e : Elaborated). watchers_of e c.args.sig.0) c.self.view_is
