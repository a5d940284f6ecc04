use Rattle.std.proofs.Common.{◌<◌, ◌≤◌, ◌==◌, [], ◌∷◌, ◌++◌, length, slice_set, sym, ◌∙◌, ap, arith}
use Rattle.vf_elaborated.specs.Noting.{noted, ends_in}
use Rattle.vf_elaborated.proofs.NoteLemmas.{noted_beyond, noted_over, noted_next, list_is}
use Rattle.vf_elaborated.proofs.lists.Lists.note.Goals as goal

pub returns-then-len-at : goal.returns-then-len-at
returns-then-len-at c =
    let lists = c.self.inside.lists in
    let beyond : length lists.items ≤ c.args.at = omega (arith, c.if-len-at.true, c.len.ensures, lists.ok.0) in
    sym c.self.view_is ∙ noted_beyond c.args.number c.args.at lists.items beyond ∙ ap (noted c.args.number (λ n. c.args.at == n)) c.self.view_is

pub returns-then-ends_in : goal.returns-then-ends_in
returns-then-ends_in c =
    let lists = c.self.inside.lists in
    let below : c.args.at < length lists.items = omega (arith, c.if-len-at.false, c.len.ensures, lists.ok.0) in
    let list = c.as_slice.ensures ∙ c.index.ensures ∙ list_is lists.items c.args.at c.index.result.now below in
    sym c.self.view_is ∙ noted_over c.args.number c.args.at lists.items below (ap (ends_in c.args.number) (sym list) ∙ sym c.ends_in.ensures ∙ c.if-ends_in.true)
    ∙ ap (noted c.args.number (λ n. c.args.at == n)) c.self.view_is

pub returns : goal.returns
returns c =
    let lists = c.self.inside.lists in
    let below : c.args.at < length lists.items = omega (arith, c.if-len-at.false, c.len.ensures, lists.ok.0) in
    let list = c.as_slice.ensures ∙ c.index.ensures ∙ list_is lists.items c.args.at c.index.result.now below in
    let there = c.index_mut.ensures.value ∙ list_is lists.items c.args.at c.index_mut.result.now below in
    ap (slice_set lists.items c.args.at) (c.in_ok-push.ensures.ok ∙ ap (λ list. list ++ c.args.number ∷ []) there)
    ∙ noted_next c.args.number c.args.at lists.items below (ap (ends_in c.args.number) (sym list) ∙ sym c.ends_in.ensures ∙ c.if-ends_in.false)
    ∙ ap (noted c.args.number (λ n. c.args.at == n)) c.self.view_is
