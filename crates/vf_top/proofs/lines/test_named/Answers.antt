use Rattle.std.proofs.Common.{rules, tests}
use Rattle.std.proofs.lemmas.Iterator.{YieldsList-from_slice}
use Rattle.std.proofs.lemmas.Iterator.Search.{position_from_yields_List}
use Rattle.vf_top.specs.Report.{is_test_named}
use Rattle.vf_top.proofs.lines.test_named.Goals as goal

pub returns : goal.returns
returns c =
    position_from_yields_List (is_test_named c.args.name.now) c.position.new.self _ c.position.result c.position.ensures.ran (YieldsList-from_slice c.args.nodes.now cc) (λ x b q k. search (rules, tests))
