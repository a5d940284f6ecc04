use Rattle.std.proofs.Common.{◌≡◌, ◌∙◌, List, ap, length, arith}
use Rattle.std.specs.Prelude.{count_by}
use Rattle.vf_design.specs.Program.{word_count}
use Rattle.vf_plan.specs.declared.plan.Node.{Node}
use Rattle.vf_top.proofs.LineLemmas.{sizes_are, words_are, pages_are}
use Rattle.vf_top.proofs.lines.check_lines.Goals as goal

pub returns-clause-text : goal.returns-clause-text
returns-clause-text c =
    let p = c.args.design.now in
    let is : c.word_count-words.result ≡ word_count p = words_are p c.word_count-words.result c.word_count-words.ensures.formed c.word_count-words.ensures.words in
    let same = ap (λ (nodes : List Node). length nodes) c.plan.view_is in
    let count : c.len.result ≡ length c.args.plan.now = omega (arith, c.len.ensures, c.plan.inside.nodes.ok.0, same) in
    c.in_ok-text.ensures
    ∙ sizes_are p c.args.plan.now _ _ _ _ is (pages_are p c.word_count-words.result is)
    count
    (c.test_count.ensures ∙ ap (λ (nodes : List Node). count_by (λ n. n.test) nodes) (c.deref.ensures.value ∙ c.plan.view_is))
