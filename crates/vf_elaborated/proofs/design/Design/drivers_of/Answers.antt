use Rattle.std.proofs.Common.{◌<◌, [], length, slice_index_or, sym, ◌∙◌, ap, subst}
use Rattle.vf_elaborated.specs.Elaborated.{Elaborated}
use Rattle.vf_elaborated.specs.Inner.{elaborated_of}
use Rattle.vf_elaborated.specs.Tables.{drives, drivers_of}
use Rattle.vf_elaborated.proofs.TableLemmas.{table_length, table_at}
use Rattle.vf_elaborated.proofs.design.Design.drivers_of.Goals as goal

pub at-requires : goal.at-requires
at-requires c =
    let d = elaborated_of c.self.inside in
    let required = subst (λ (e : Elaborated). c.args.net.0 < length e.signals) (sym c.self.view_is) c.requires in
    subst (λ n. c.args.net.0 < n) (sym (ap length c.self.invariant.driving ∙ table_length drives d.processes (length d.signals))) required

pub returns : goal.returns
unfolding drivers_of
returns c =
    let d = elaborated_of c.self.inside in
    let required = subst (λ (e : Elaborated). c.args.net.0 < length e.signals) (sym c.self.view_is) c.requires in
    c.at.ensures ∙ ap (λ lists. slice_index_or lists c.args.net.0 []) c.self.invariant.driving
    ∙ table_at drives d.processes (length d.signals) c.args.net.0 required ∙ ap (λ (e : Elaborated). drivers_of e c.args.net.0) c.self.view_is
