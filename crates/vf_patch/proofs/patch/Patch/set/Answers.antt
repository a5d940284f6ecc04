use Rattle.std.proofs.Common.{◌++◌, List, slice_set, ap, subst, sym, ◌∙◌, arith}
use Rattle.std.proofs.lemmas.Result.{on_ok_weaker}
use Rattle.vf_base.specs.declared.write.Write.{Write}
use Rattle.vf_machine.specs.Writes.{AllInside, written}
use Rattle.vf_patch.specs.Patches.{front_writes}
use Rattle.vf_patch.proofs.FrontLemmas.{rises-front}
use Rattle.vf_patch.proofs.PatchLemmas.{front-put, rest-put, written-put, inside-put}
use Rattle.vf_patch.proofs.FilterLemmas.{rises-put, filter-put}
use Rattle.vf_patch.proofs.patch.Patch.set.Goals as goal

pub returns-then-at-lt-FRONT_WORDS-clause-word : goal.returns-then-at-lt-FRONT_WORDS-clause-word
returns-then-at-lt-FRONT_WORDS-clause-word c base =
    let s = c.self.inside in
    written-put base c.args.at c.args.word (front_writes s.mask s.front ++ s.rest.items) _
    (rises-front s.mask s.front s.rest.items c.self.invariant.0) (rises-front _ _ s.rest.items c.self.invariant.0)
    (front-put s.mask c.args.at c.args.word s.front s.rest.items (omega arith) (omega arith) c.self.invariant.0)
    ∙ ap (λ (ws : List Write). slice_set (written base ws) c.args.at c.args.word) c.self.view_is

pub returns-then-at-lt-FRONT_WORDS-clause-inside :
    goal.returns-then-at-lt-FRONT_WORDS-clause-inside
returns-then-at-lt-FRONT_WORDS-clause-inside c count h inside =
    let s = c.self.inside in
    inside-put count c.args.at c.args.word (front_writes s.mask s.front ++ s.rest.items) _ h
    (front-put s.mask c.args.at c.args.word s.front s.rest.items (omega arith) (omega arith) c.self.invariant.0)
    (subst (AllInside count) (sym c.self.view_is) inside)

pub returns-clause-word : goal.returns-clause-word
returns-clause-word c =
    let s = c.self.inside in
    on_ok_weaker c.put.result
    (λ put base.
    let rises = put.rises 16 (omega arith) c.self.invariant.0 in
    written-put base c.args.at c.args.word (front_writes s.mask s.front ++ s.rest.items) _
    (rises-front s.mask s.front s.rest.items c.self.invariant.0) (rises-front s.mask s.front c.put.new.writes.items rises)
    (rest-put s.mask c.args.at c.args.word s.front s.rest.items c.put.new.writes.items (omega arith) c.self.invariant.0 rises put.words)
    ∙ ap (λ (ws : List Write). slice_set (written base ws) c.args.at c.args.word) c.self.view_is)
    c.put.ensures.ok

pub returns-clause-inside : goal.returns-clause-inside
returns-clause-inside c =
    let s = c.self.inside in
    on_ok_weaker c.put.result
    (λ put count h inside.
    inside-put count c.args.at c.args.word (front_writes s.mask s.front ++ s.rest.items) _ h
    (rest-put s.mask c.args.at c.args.word s.front s.rest.items c.put.new.writes.items (omega arith) c.self.invariant.0 (put.rises 16 (omega arith) c.self.invariant.0) put.words)
    (subst (AllInside count) (sym c.self.view_is) inside))
    c.put.ensures.ok

pub invariant_of-self-2 : goal.invariant_of-self-2
invariant_of-self-2 c =
    let s = c.self.inside in (
      rises-put c.put.result 16 c.args.at c.args.word s.rest.items c.put.new.writes.items (omega arith) c.self.invariant.0 c.put.ensures.ok c.put.ensures.err,
      filter-put c.put.result s.filter c.args.at c.args.word s.rest.items c.put.new.writes.items c.self.invariant.1 c.put.ensures.ok c.put.ensures.err,
    )
