-- Targets inside targets, as the reader takes them.
use Rattle.std.proofs.Common.{◌≡◌, ℕ, zero, suc, ◌-◌, ◌<◌, None, refl, arith}
use Rattle.vf_tree.specs.declared.expressions.TreeExpr.{TreeExpr}
use Rattle.vf_expression.specs.Grammar.{Tokens}
use Rattle.vf_expression.specs.Reading.{Read}
use Rattle.vf_control.specs.Reading.{target_over, target_within}

pub target_never : (inner : ℕ → Tokens → Read TreeExpr) (e : ℕ) (ts : Tokens) → e ≡ 0 → target_within inner e ts ≡ None
unfolding target_within
target_never inner zero ts e = refl
target_never inner (suc d) ts e = absurd (omega arith)

pub target_deeper : (inner : ℕ → Tokens → Read TreeExpr) (e : ℕ) (ts : Tokens) → 0 < e → target_within inner e ts ≡ target_over inner (target_within inner (e - 1)) ts
unfolding target_within
target_deeper inner zero ts h = absurd (omega arith)
target_deeper inner (suc d) ts h =
    let e : suc d - 1 ≡ d = omega arith in
    rw e refl
