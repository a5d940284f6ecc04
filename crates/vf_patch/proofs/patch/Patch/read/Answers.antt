use Rattle.std.proofs.Common.{◌%◌, List, slice_index, Some, None, ap, sym, ◌∙◌, arith}
use Rattle.std.proofs.lemmas.Nat.Bits.{shr_and_one}
use Rattle.vf_base.specs.declared.write.Write.{Write}
use Rattle.vf_machine.specs.Writes.{written}
use Rattle.vf_patch.proofs.PatchLemmas.{read-marked, read-unmarked, read-rest}
use Rattle.vf_patch.proofs.FilterLemmas.{filter-none}
use Rattle.vf_patch.proofs.patch.Patch.read.Goals as goal

pub returns-then-self-at-eq1 : goal.returns-then-self-at-eq1
returns-then-self-at-eq1 g c =
    let s = c.self.inside in
    let base = g.W.Words.contents c.args.base.now in
    read-marked base s.mask s.front s.rest.items c.args.at c.self.invariant.0 c.requires (omega arith) (sym (shr_and_one s.mask c.args.at) ∙ c.if-self-at-eq1.true)
    ∙ ap (λ (ws : List Write). slice_index (written base ws) c.args.at) c.self.view_is

pub returns-then-at-lt-FRONT_WORDS : goal.returns-then-at-lt-FRONT_WORDS
returns-then-at-lt-FRONT_WORDS g c =
    let s = c.self.inside in
    let base = g.W.Words.contents c.args.base.now in
    c.read.ensures
    ∙ read-unmarked base s.mask s.front s.rest.items c.args.at c.self.invariant.0 c.requires (omega arith) (λ bit. c.if-self-at-eq1.false (shr_and_one s.mask c.args.at ∙ bit))
    ∙ ap (λ (ws : List Write). slice_index (written base ws) c.args.at) c.self.view_is

pub returns-in-Some : goal.returns-in-Some
returns-in-Some g c =
    let s = c.self.inside in
    let base = g.W.Words.contents c.args.base.now in
    read-rest base s.mask s.front s.rest.items c.args.at (Some c.in-Some.word) c.self.invariant.0 c.requires (omega arith) c.in-Some.ensures
    ∙ ap (λ (ws : List Write). slice_index (written base ws) c.args.at) c.self.view_is

pub returns-in-None : goal.returns-in-None
returns-in-None g c =
    let s = c.self.inside in
    let base = g.W.Words.contents c.args.base.now in
    c.read-in-None.ensures
    ∙ read-rest base s.mask s.front s.rest.items c.args.at None c.self.invariant.0 c.requires (omega arith) c.in-None.ensures
    ∙ ap (λ (ws : List Write). slice_index (written base ws) c.args.at) c.self.view_is

pub returns-then-self-at-eq0 : goal.returns-then-self-at-eq0
returns-then-self-at-eq0 g c =
    let s = c.self.inside in
    let base = g.W.Words.contents c.args.base.now in
    c.read-then-self-at-eq0.ensures
    ∙ read-rest base s.mask s.front s.rest.items c.args.at None c.self.invariant.0 c.requires (omega arith)
    (sym (filter-none s.filter c.args.at s.rest.items c.self.invariant.1 (sym (shr_and_one s.filter (c.args.at % 64)) ∙ c.if-self-at-eq0.true)))
    ∙ ap (λ (ws : List Write). slice_index (written base ws) c.args.at) c.self.view_is
