use Rattle.std.proofs.Common.{◌++◌, ◌∙◌, codes, append_assoc, ap, sym}
use Rattle.std.proofs.lemmas.Result.{on_ok_weaker}
use Rattle.vf_top.specs.Fault.{fault_of}
use Rattle.vf_top.proofs.refusal.write_fault.Goals as goal

pub returns-in_ok-push-in-NoTest : goal.returns-in_ok-push-in-NoTest
returns-in_ok-push-in-NoTest c =
    let into = c.args.into.now.items in
    on_ok_weaker c.push_text.result (λ said.
    said ∙ ap (λ l. l ++ c.in-NoTest.name) c.in_ok-push-in-NoTest.ensures ∙ append_assoc into (codes "plan: no test ") c.in-NoTest.name
    ∙ ap (λ r. into ++ fault_of r) (sym c.in-NoTest.is))
    c.push_text.ensures
