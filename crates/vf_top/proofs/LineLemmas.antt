-- The tests of a plan, counted node after node, and the sizes of a design.
use Rattle.std.proofs.Common.{◌≡◌, ℕ, ◌+◌, ◌/◌, ◌<◌, Bool, true, false, cond, List, length, take, get_or, refl, sym, ap, ◌∙◌, arith}
use Rattle.std.specs.Prelude.{count_by}
use Rattle.std.proofs.lemmas.List.Sums.{count_by_more_yes, count_by_more_no}
use Rattle.vf_design.specs.Program.{Program, IsWellFormed, word_count, page_count}
use Rattle.vf_design.specs.State.{State, IsSound}
use Rattle.vf_design.specs.Step.{start}
use Rattle.vf_design.specs.Words.{words_of}
use Rattle.vf_design.proofs.CallerLemmas.{start_sound, length-words_of}
use Rattle.vf_plan.specs.declared.plan.Node.{Node}
use Rattle.vf_report.specs.Report.{check_text}
use Rattle.vf_top.specs.Report.{sizes_of}

pub count_next : (nodes : List Node) (at : ℕ) (node : Node) → at < length nodes → node ≡ get_or nodes at node
    → count_by (λ n. n.test) (take (at + 1) nodes) ≡ count_by (λ n. n.test) (take at nodes) + cond node.test 1 0
count_next nodes at node within here = by node.test refl
  where
    is : (b : Bool) → node.test ≡ b → (get_or nodes at node).test ≡ b
    is b e = ap (λ (n : Node). n.test) (sym here) ∙ e

    by : (b : Bool) → node.test ≡ b → count_by (λ n. n.test) (take (at + 1) nodes) ≡ count_by (λ n. n.test) (take at nodes) + cond b 1 0
    by true e = count_by_more_yes (λ n. n.test) nodes at node within (is true e)
    by false e = let no = count_by_more_no (λ n. n.test) nodes at node within (is false e) in omega (arith, no)

-- the sizes of a design and a plan, one by one
pub sizes_are : (p : Program) (nodes : List Node) (words pages count tests : ℕ) → words ≡ word_count p → pages ≡ page_count p → count ≡ length nodes
    → tests ≡ count_by (λ n. n.test) nodes
    → check_text (record { processes = 1; signals = 1; words = words; pages = pages; nodes = count; tests = tests }) ≡ check_text (sizes_of p nodes)
sizes_are p nodes words pages count tests w g n t =
    ap (λ (x : ℕ). check_text (record { processes = 1; signals = 1; words = x; pages = pages; nodes = count; tests = tests })) w
    ∙ ap (λ (x : ℕ). check_text (record { processes = 1; signals = 1; words = word_count p; pages = x; nodes = count; tests = tests })) g
    ∙ ap (λ (x : ℕ). check_text (record { processes = 1; signals = 1; words = word_count p; pages = page_count p; nodes = x; tests = tests })) n
    ∙ ap (λ (x : ℕ). check_text (record { processes = 1; signals = 1; words = word_count p; pages = page_count p; nodes = length nodes; tests = x })) t

-- how many words a state has, by any sound state
pub words_are : (p : Program) (words : ℕ) → IsWellFormed p → ((s : State) → IsSound p s → length (words_of p s) ≡ words) → words ≡ word_count p
words_are p words formed each = sym (each start (start_sound p formed)) ∙ length-words_of p start (start_sound p formed)

pub pages_are : (p : Program) (words : ℕ) → words ≡ word_count p → words / 64 ≡ page_count p
pages_are p words is = omega (arith, is)
