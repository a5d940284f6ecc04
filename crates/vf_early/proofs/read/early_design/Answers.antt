use Rattle.std.proofs.Common.{◌≡◌, None, sym, ap, subst, ◌∙◌}
use Rattle.std.proofs.lemmas.Result.{err_from_is_err_and}
use Rattle.vf_early.specs.declared.fault.EarlyFault.TheVariants as faults
use Rattle.vf_early.specs.Reading.{Fails, source_of}
use Rattle.vf_early.proofs.Sound.{source_is}
use Rattle.vf_early.proofs.Places.{source_code}
use Rattle.vf_early.proofs.Designs.{is_early, is_only, is_none}
use Rattle.vf_early.proofs.read.early_design.Goals as goal

pub returns-in_err-top-clause-not_built : goal.returns-in_err-top-clause-not_built
returns-in_err-top-clause-not_built c = λ e other early.
    let p = err_from_is_err_and c.from_residual-in_err-top.result c.from_residual-in_err-top.ensures.1 in
    let fault : c.in_err-top.field-0.0 ≡ faults.NotBuilt = cc (p.1, p.2) in
    let none : source_of c.as_slice.result.now ≡ None = subst (λ f. Fails f (source_of c.as_slice.result.now)) fault c.in_err-top.ensures in
    is_none c.args.bytes.now c.args.slots c.in_ok-tokens.tokens.items (ap source_of (sym c.as_slice.ensures.value) ∙ none) other early (c.in_ok-tokens.ensures.only early.tokens early.spelled)

pub invariant_of-result : goal.invariant_of-result
invariant_of-result c =
    let source = source_is c.in_ok-tokens.tokens.items (record { top = c.in_ok-top.top; variable = c.in_ok-top.variable; code = c.in_ok-top.code.items }) (ap source_of (sym c.as_slice.ensures.value) ∙ c.in_ok-top.ensures) in
    record { code = source_code c.in_ok-tokens.tokens.items c.in_ok-top.top c.in_ok-top.variable c.in_ok-top.code.items source.0 source.1; slots = c.requires }

pub returns-clause-found : goal.returns-clause-found
returns-clause-found c = is_early c.args.bytes.now c.args.slots c.in_ok-tokens.tokens.items (record { top = c.in_ok-top.top; variable = c.in_ok-top.variable; code = c.in_ok-top.code.items }) c.in_ok-tokens.ensures.found (ap source_of (sym c.as_slice.ensures.value) ∙ c.in_ok-top.ensures)

pub returns-clause-only : goal.returns-clause-only
returns-clause-only c = λ other early.
    is_only c.args.bytes.now c.args.slots c.in_ok-tokens.tokens.items (record { top = c.in_ok-top.top; variable = c.in_ok-top.variable; code = c.in_ok-top.code.items }) (ap source_of (sym c.as_slice.ensures.value) ∙ c.in_ok-top.ensures) other early
    (c.in_ok-tokens.ensures.only early.tokens early.spelled)
