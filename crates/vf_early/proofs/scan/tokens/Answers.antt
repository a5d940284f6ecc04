use Rattle.std.proofs.Common.{◌≡◌, ℕ, List, [], ◌∷◌, ◌++◌, take, sym, ap, subst, ◌∙◌}
use Rattle.std.proofs.lemmas.List.{nil_from_length}
use Rattle.vf_early.proofs.Texts.{IsCut, blank_step, token_step, refuses, token_fits, ends_sound, ends_only}
use Rattle.vf_early.proofs.scan.tokens.Goals as goal

pub loop-first-preserved-then-is_blank : goal.loop-first-preserved-then-is_blank
loop-first-preserved-then-is_blank c =
    blank_step c.args.bytes.now c.loop-first.tokens.items c.in-Some.first.now c.in-Some.after.now c.loop-first.rest.now c.in-Some.ensures.cases.0
    (sym c.is_blank.ensures ∙ c.if-is_blank.true) c.loop-first.invariant

pub returns-then-length-eq0-clause-not_built : goal.returns-then-length-eq0-clause-not_built
returns-then-length-eq0-clause-not_built c = λ _.
    refuses c.args.bytes.now c.loop-first.tokens.items c.in-Some.first.now c.in-Some.after.now c.loop-first.rest.now c.token_length-length.result c.in-Some.ensures.cases.0
    (sym c.is_blank.ensures ∙ c.if-is_blank.false) c.token_length-length.ensures c.if-length-eq0.true c.loop-first.invariant

pub split_at-requires : goal.split_at-requires
split_at-requires c = token_fits c.loop-first.rest.now c.token_length-length.result c.token_length-length.ensures

pub loop-first-preserved : goal.loop-first-preserved
loop-first-preserved c =
    let front = c.loop-first.tokens.items in
    let n = c.token_length-length.result in
    let token : c.new.result ≡ take n c.loop-first.rest.now = c.new.ensures ∙ c.in_ok-from_slice.ensures.items ∙ c.split_at.ensures.front in
    let items : c.push.new.self.items ≡ front ++ take n c.loop-first.rest.now ∷ [] = c.in_ok-push.ensures.items ∙ ap (λ (t : List ℕ). front ++ t ∷ []) token in
    rw (items, c.split_at.ensures.back)
    (token_step c.args.bytes.now front c.in-Some.first.now c.in-Some.after.now c.loop-first.rest.now n c.in-Some.ensures.cases.0
    (sym c.is_blank.ensures ∙ c.if-is_blank.false) c.token_length-length.ensures c.if-length-eq0.false c.loop-first.invariant)

pub returns-clause-found : goal.returns-clause-found
returns-clause-found c = ends_sound c.args.bytes.now c.loop-first.tokens.items (subst (λ x. IsCut c.args.bytes.now c.loop-first.tokens.items x) (nil_from_length _ c.in_default.ensures.cases) c.loop-first.invariant)

pub returns-clause-only : goal.returns-clause-only
returns-clause-only c = ends_only c.args.bytes.now c.loop-first.tokens.items (subst (λ x. IsCut c.args.bytes.now c.loop-first.tokens.items x) (nil_from_length _ c.in_default.ensures.cases) c.loop-first.invariant)
