use Rattle.std.proofs.Common.{◌≡◌, ℕ, ◌+◌, ◌-◌, ◌≤◌, ◌++◌, slice_set, replicate, sym, ◌∙◌, ap, arith}
use Rattle.std.proofs.lemmas.List.{replicate-append-replicate}
use Rattle.vf_design.specs.Program.{word_count}
use Rattle.vf_design.proofs.design.words_at_zero.Goals as goal

-- at least the words before the slots are there
split : (n : ℕ) → 22 ≤ n → replicate {A = ℕ} n 0 ≡ replicate {A = ℕ} 22 0 ++ replicate {A = ℕ} (n - 22) 0
split n h = ap (λ k. replicate {A = ℕ} k 0) (let e : n ≡ 22 + (n - 22) = omega arith in e) ∙ sym (replicate-append-replicate 22 (n - 22) 0)

pub returns-clause-words : goal.returns-clause-words
returns-clause-words c =
    let count = word_count c.args.design.now in
    let zeros : c.in_ok-words.words.items ≡ replicate {A = ℕ} count 0 = c.in_ok-words.ensures.items_if_clones_equal (λ y e. e) ∙ ap (λ k. replicate {A = ℕ} k 0) c.size-count.ensures.count in
    ap (λ words. slice_set (slice_set (slice_set (slice_set (slice_set words 2 1) 3 1) 17 2) 20 4294967295) 21 4294967295) (zeros ∙ split count (omega arith))
