-- How much work an expression is: its nodes, and the parts of its concatenations.
use Rattle.std.proofs.Common.{◌≡◌, ℕ, zero, suc, ◌+◌, ◌-◌, ◌*◌, ◌<◌, List, [], ◌∷◌, length, map, take, drop, slice_index_or, Option, None, Some, refl, sym, ◌∙◌, ap, ap₂, arith}
use Rattle.std.proofs.lemmas.List.{length-map}
use Rattle.vf_elaborated.specs.declared.expr.Expr.{Expr, roll-Expr}
use Rattle.vf_elaborated.specs.declared.expr.Expr.TheOpen.{Expr-F}
use Rattle.vf_elaborated.specs.declared.expr.Expr.TheFolds.{map-Expr}
use Rattle.vf_elaborated.specs.Nodes.{told}
use Rattle.vf_elaborated.proofs.CallerLemmas.{told_roll}

abbrev pub total : List ℕ → ℕ
total [] = 0
total (n ∷ rest) = n + total rest

abbrev or_none : Option ℕ → ℕ
or_none None = 0
or_none (Some n) = n

abbrev node_weight : Expr-F ℕ → ℕ
node_weight (Expr-F.Const a) = 1
node_weight (Expr-F.Read sig element) = suc (or_none element)
node_weight (Expr-F.Select of low scale shift width) = suc (of + low)
node_weight (Expr-F.One op of width signed) = suc of
node_weight (Expr-F.Two op left right width signed) = suc (left + right)
node_weight (Expr-F.Pick cond a b width signed) = suc (cond + (a + b))
node_weight (Expr-F.Join parts width) = suc (total parts + length parts)
node_weight (Expr-F.Resize of width signed) = suc of
node_weight Expr-F.Now = 1
node_weight (Expr-F.PastEnd of) = suc of

unfoldable pub weight : Expr → ℕ
weight e = told node_weight e

unfoldable pub weights : List Expr → ℕ
weights parts = 2 * total (map weight parts) + length parts

-- the weight of a node that is made
pub weight_by : (e : Expr) (x : Expr-F Expr) → e ≡ roll-Expr x → weight e ≡ node_weight (map-Expr Expr ℕ weight x)
unfolding weight
weight_by e x is = ap weight is ∙ told_roll node_weight x

pub join_heavier : (e : Expr) (parts : List Expr) (width : ℕ) → e ≡ roll-Expr (Expr-F.Join parts width) → weights parts < 2 * weight e
unfolding weights
join_heavier e parts width is =
    let all = weight_by e (Expr-F.Join parts width) is in
    let count = length-map parts weight in
    omega (arith, all, count)

pub part_lighter : (e : Expr) (rest : List Expr) → (2 * weight e < weights (e ∷ rest)) × (weights rest < weights (e ∷ rest))
unfolding weights
part_lighter e rest = (omega arith, omega arith)

-- ---- the parts of a slice, the first apart

whole_take : (n : ℕ) (parts : List Expr) → n ≡ length parts → take n parts ≡ parts
whole_take zero [] h = refl
whole_take zero (e ∷ rest) h = absurd (omega (arith, h))
whole_take (suc n) [] h = refl
whole_take (suc n) (e ∷ rest) h = ap (λ es. e ∷ es) (whole_take n rest (omega (arith, h)))

pub first_apart : (parts : List Expr) (e : Expr) → 0 < length parts → e ≡ slice_index_or parts 0 e
    → parts ≡ e ∷ take (length parts - 1) (drop 1 parts)
first_apart [] e some is = absurd (omega (arith, some))
first_apart (x ∷ xs) e some is = ap₂ (λ x xs. x ∷ xs) (sym is) (sym (whole_take (length (x ∷ xs) - 1) xs (omega arith)))

pub alone : (parts : List Expr) (e : Expr) → length parts ≡ 1 → e ≡ slice_index_or parts 0 e → parts ≡ e ∷ []
alone [] e one is = absurd (omega (arith, one))
alone (x ∷ []) e one is = ap (λ x. x ∷ []) (sym is)
alone (x ∷ y ∷ rest) e one is = absurd (omega (arith, one))
