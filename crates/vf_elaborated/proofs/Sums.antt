-- A sum over what is left of a list.
use Rattle.std.proofs.Common.{◌≡◌, ◌<◌, ℕ, suc, ◌+◌, List, ◌∷◌, length, drop, slice_index_or, sym, ◌∙◌, ap, sum_by}
use Rattle.std.proofs.Math.Seq.{drop-cons}
use Rattle.std.proofs.lemmas.List.Sums.{sum_by-cons}

-- the element that comes next, and the rest
pub next_left : {A : Type 0} (xs : List A) (i : ℕ) (x : A) → i < length xs → x ≡ slice_index_or xs i x → drop i xs ≡ x ∷ drop (suc i) xs
next_left xs i x below is = drop-cons xs i x below ∙ ap (λ y. y ∷ drop (suc i) xs) (sym is)

pub sum_left : {A : Type 0} (f : A → ℕ) (xs : List A) (i : ℕ) (x : A) → i < length xs → x ≡ slice_index_or xs i x
    → sum_by f (drop i xs) ≡ f x + sum_by f (drop (suc i) xs)
sum_left f xs i x below is = ap (sum_by f) (next_left xs i x below is) ∙ sum_by-cons f x (drop (suc i) xs)
