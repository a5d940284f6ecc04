use Rattle.std.proofs.Common.{ℕ, ap, arith}
use Rattle.std.specs.Prelude.{List}
use Rattle.vf_pages.proofs.Writing.{taken-set, taken-at}
use Rattle.vf_pages.proofs.gather.take_page.Goals as goal

pub returns-in-Ok-clause-pages : goal.returns-in-Ok-clause-pages
returns-in-Ok-clause-pages c =
    let one = c.index_mut.result.now in
    taken-set c.args.held.now.items c.args.place one _ (omega (arith, c.requires)) c.index_mut.ensures.value
    (ap (λ (ws : List ℕ). record { page = one.page.0; frame = one.frame.0; words = ws }) c.take_or_copy.ensures.words)

pub returns-in-Ok-clause-taken : goal.returns-in-Ok-clause-taken
returns-in-Ok-clause-taken c = taken-at c.args.held.now.items c.args.place _ c.in-Ok.ensures.taken

pub returns-in-Err-clause-pages : goal.returns-in-Err-clause-pages
returns-in-Err-clause-pages c =
    let one = c.index_mut.result.now in
    taken-set c.args.held.now.items c.args.place one _ (omega (arith, c.requires)) c.index_mut.ensures.value
    (ap (λ (ws : List ℕ). record { page = one.page.0; frame = one.frame.0; words = ws }) c.take_or_copy.ensures.words)
