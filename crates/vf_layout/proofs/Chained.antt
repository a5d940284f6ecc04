-- What follows a number in lists of numbers, as a number joins or leaves one of them.
use Rattle.std.proofs.Common.{◌≡◌, ◌≢◌, ℕ, ◌+◌, ◌≤◌, Bool, true, false, List, [], ◌∷◌, ◌++◌, Option, Some, None, refl, sym, ◌∙◌, ap, ap₂, arith, ◌==◌, if◌then◌else◌}
use Rattle.std.proofs.lemmas.Bool.{eq-eqb, ne_eqb}
use Rattle.std.proofs.lemmas.List.{append_assoc}
use Rattle.std.proofs.lemmas.Option.{none-some, same_Some}
use Rattle.std.specs.Option.{option_or}
use Rattle.vf_scheduler.specs.Words.{head, tail, next_in, next_among}

-- ---- how often a number stands

abbrev pub count_in : ℕ → List ℕ → ℕ
count_in n [] = 0
count_in n (m ∷ rest) = (if m == n then 1 else 0) + count_in n rest

abbrev pub total : ℕ → List (List ℕ) → ℕ
total n [] = 0
total n (list ∷ rest) = count_in n list + total n rest

pub total-append : (n : ℕ) (before after : List (List ℕ)) → total n (before ++ after) ≡ total n before + total n after
total-append n [] after = omega arith
total-append n (list ∷ before) after = omega (arith, total-append n before after)

pub count-append : (n : ℕ) (xs ys : List ℕ) → count_in n (xs ++ ys) ≡ count_in n xs + count_in n ys
count-append n [] ys = omega arith
count-append n (x ∷ xs) ys = omega (arith, count-append n xs ys)

pub count_here : (n : ℕ) (rest : List ℕ) → count_in n (n ∷ rest) ≡ 1 + count_in n rest
count_here n rest = ap (λ b. (if b then 1 else 0) + count_in n rest) (eq-eqb n n refl)

-- one that stands not in a list is not its first
pub not_first : (n m : ℕ) (rest : List ℕ) → count_in n (m ∷ rest) ≡ 0 → m ≢ n
not_first n m rest none same = omega (arith, none, ap (λ b. (if b then 1 else 0) + count_in n rest) (eq-eqb m n same))

rest_none : (n m : ℕ) (rest : List ℕ) → count_in n (m ∷ rest) ≡ 0 → count_in n rest ≡ 0
rest_none n m rest none = omega (arith, none)

-- ---- what follows in one list

pub none_in : (n : ℕ) (list : List ℕ) → count_in n list ≡ 0 → next_in n list ≡ None
none_in n [] none = refl
none_in n (m ∷ rest) none =
    ap (λ b. if b then head rest else next_in n rest) (ne_eqb m n (not_first n m rest none)) ∙ none_in n rest (rest_none n m rest none)

pub next_here : (n : ℕ) (before after : List ℕ) → count_in n before ≡ 0 → next_in n (before ++ n ∷ after) ≡ head after
next_here n [] after none = ap (λ b. if b then head after else next_in n after) (eq-eqb n n refl)
next_here n (m ∷ before) after none =
    ap (λ b. if b then head (before ++ n ∷ after) else next_in n (before ++ n ∷ after)) (ne_eqb m n (not_first n m before none))
    ∙ next_here n before after (rest_none n m before none)

-- another one is first
pub next_other : (n m : ℕ) (rest : List ℕ) → m ≢ n → next_in n (m ∷ rest) ≡ next_in n rest
next_other n m rest other = ap (λ b. if b then head rest else next_in n rest) (ne_eqb m n other)

pub no_next : (b : Bool) → ◌≡◌ {A = Option ℕ} (if b then None else None) None
no_next true = refl
no_next false = refl

-- ---- one joins the end

pub join_other : (n m : ℕ) (list : List ℕ) → tail list ≢ Some n → next_in n (list ++ m ∷ []) ≡ next_in n list
join_other n m [] other = no_next (m == n)
join_other n m (x ∷ []) other =
    ap (λ b. if b then Some m else next_in n (m ∷ [])) (ne_eqb x n (λ same. other (ap Some same))) ∙ no_next (m == n) ∙ sym (no_next (x == n))
join_other n m (x ∷ y ∷ rest) other = ap (λ o. if x == n then Some y else o) (join_other n m (y ∷ rest) other)

pub tail_counted : (n : ℕ) (list : List ℕ) → tail list ≡ Some n → 1 ≤ count_in n list
tail_counted n [] last = absurd (none-some n last)
tail_counted n (x ∷ []) last = omega (arith, ap (λ b. (if b then 1 else 0) + count_in n []) (eq-eqb x n (same_Some x n last)))
tail_counted n (x ∷ y ∷ rest) last = omega (arith, tail_counted n (y ∷ rest) last)

pub join_last : (n m : ℕ) (list : List ℕ) → tail list ≡ Some n → count_in n list ≤ 1 → next_in n (list ++ m ∷ []) ≡ Some m
join_last n m [] last once = absurd (none-some n last)
join_last n m (x ∷ []) last once = ap (λ b. if b then Some m else next_in n (m ∷ [])) (eq-eqb x n (same_Some x n last))
join_last n m (x ∷ y ∷ rest) last once =
    let there = tail_counted n (y ∷ rest) last in
    ap (λ b. if b then Some y else next_in n ((y ∷ rest) ++ m ∷ []))
    (ne_eqb x n (λ same. omega (arith, there, once, ap (λ b. (if b then 1 else 0) + count_in n (y ∷ rest)) (eq-eqb x n same))))
    ∙ join_last n m (y ∷ rest) last (omega (arith, once))

pub tail_joined : (m : ℕ) (list : List ℕ) → tail (list ++ m ∷ []) ≡ Some m
tail_joined m [] = refl
tail_joined m (x ∷ []) = refl
tail_joined m (x ∷ y ∷ rest) = tail_joined m (y ∷ rest)

-- ---- one is put after another

pub head_put : (before : List ℕ) (m n : ℕ) (after : List ℕ) → head (before ++ m ∷ n ∷ after) ≡ head (before ++ m ∷ after)
head_put [] m n after = refl
head_put (x ∷ before) m n after = refl

pub put_other : (k : ℕ) (before : List ℕ) (m n : ℕ) (after : List ℕ) → m ≢ k → n ≢ k
    → next_in k (before ++ m ∷ n ∷ after) ≡ next_in k (before ++ m ∷ after)
put_other k [] m n after a b = next_other k m (n ∷ after) a ∙ next_other k n after b ∙ sym (next_other k m after a)
put_other k (x ∷ before) m n after a b =
    ap₂ (λ first rest. if x == k then first else rest) (head_put before m n after) (put_other k before m n after a b)

pub put_own : (before : List ℕ) (m n : ℕ) (after : List ℕ) → count_in n before ≡ 0 → m ≢ n → next_in n (before ++ m ∷ n ∷ after) ≡ head after
put_own before m n after none other =
    ap (next_in n) (sym (append_assoc before (m ∷ []) (n ∷ after)))
    ∙ next_here n (before ++ m ∷ []) after (omega (arith, count-append n before (m ∷ []), none, ap (λ b. (if b then 1 else 0) + count_in n []) (ne_eqb m n other)))

-- ---- one of some lists

pub none_among : (n : ℕ) (lists : List (List ℕ)) → total n lists ≡ 0 → next_among n lists ≡ None
none_among n [] none = refl
none_among n (list ∷ rest) none = ap₂ option_or (none_in n list (omega (arith, none))) (none_among n rest (omega (arith, none)))

or_none : (o : Option ℕ) → option_or o None ≡ o
or_none None = refl
or_none (Some n) = refl

pub among_only : (n : ℕ) (before : List (List ℕ)) (list : List ℕ) (after : List (List ℕ)) → total n before ≡ 0 → total n after ≡ 0
    → next_among n (before ++ list ∷ after) ≡ next_in n list
among_only n [] list after a b = ap (option_or (next_in n list)) (none_among n after b) ∙ or_none (next_in n list)
among_only n (first ∷ before) list after a b = ap₂ option_or (none_in n first (omega (arith, a))) (among_only n before list after (omega (arith, a)) b)

pub among_same : (n : ℕ) (before : List (List ℕ)) (xs ys : List ℕ) (after : List (List ℕ)) → next_in n xs ≡ next_in n ys
    → next_among n (before ++ xs ∷ after) ≡ next_among n (before ++ ys ∷ after)
among_same n [] xs ys after same = ap (λ o. option_or o (next_among n after)) same
among_same n (first ∷ before) xs ys after same = ap (option_or (next_in n first)) (among_same n before xs ys after same)
