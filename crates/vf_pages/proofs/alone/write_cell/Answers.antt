use Rattle.std.proofs.Common.{ℕ, ap, arith}
use Rattle.std.specs.Prelude.{List}
use Rattle.vf_pages.proofs.OnePage.{match-both, written-at}
use Rattle.vf_pages.proofs.Writing.{taken-set}
use Rattle.vf_pages.proofs.alone.write_cell.Goals as goal

pub returns : goal.returns
returns c =
    let hs = c.args.held.now.items in
    let one = c.index_mut.result.now in
    match-both c.write_cell.result
    (λ is. written-at hs c.args.place c.args.page c.args.writes.now one _ (omega (arith, c.requires.place)) c.index_mut.ensures.value
    (ap (λ (ws : List ℕ). record { page = one.page.0; frame = one.frame.0; words = ws }) is))
    (λ same. taken-set hs c.args.place one _ (omega (arith, c.requires.place)) c.index_mut.ensures.value
    (ap (λ (ws : List ℕ). record { page = one.page.0; frame = one.frame.0; words = ws }) same))
    c.write_cell.ensures
