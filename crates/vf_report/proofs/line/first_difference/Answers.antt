use Rattle.std.proofs.Common.{ℕ, not, ◌==◌, ◌∙◌, rules, tests}
use Rattle.std.proofs.lemmas.Iterator.{YieldsList-from_slice, YieldsList-from_zip}
use Rattle.std.proofs.lemmas.Iterator.Search.{position_from_yields_List}
use Rattle.vf_report.proofs.line.first_difference.Goals as goal

pub returns : goal.returns
returns c =
    let found = position_from_yields_List (λ (pair : ℕ × ℕ). not (pair.0 == pair.1)) c.position.new.self _ c.position.result c.position.ensures.ran (YieldsList-from_zip (YieldsList-from_slice c.args.expected.now cc) (YieldsList-from_slice c.args.bytes.now cc)) (λ x b q k. search (rules, tests)) in
    c.unwrap_or.ensures ∙ rw (found, c.min-shorter.ensures)
