-- What stands from an address on, and what writing there leaves.
use Rattle.std.proofs.Common.{◌≡◌, ℕ, zero, suc, ◌+◌, ◌-◌, ◌<◌, ◌≤◌, List, [], ◌∷◌, ◌++◌, length, slice_index, slice_set, refl, sym, ◌∙◌, ap, arith}
use Rattle.std.proofs.lemmas.List.{length-set, length-append, set-append_left, set-append_right, get_or-set_same, get_or-set_other, get_or-append-add, get_or_append_left}
use Rattle.vf_layout.specs.Puts.{put_all, StandsAt}

-- ---- what stands

pub stands_after : (before list : List ℕ) (at : ℕ) → length before ≡ at → StandsAt (before ++ list) at list
stands_after before list at long k below =
    ap (λ n. slice_index (before ++ list) (n + k)) (sym long) ∙ get_or-append-add before list k 0

pub stands_left : (words : List ℕ) (at : ℕ) (xs ys : List ℕ) → StandsAt words at (xs ++ ys) → StandsAt words at xs
stands_left words at xs ys h k below = h k (omega (arith, below, length-append xs ys)) ∙ get_or_append_left xs ys 0 k below

pub stands_right : (words : List ℕ) (at : ℕ) (xs ys : List ℕ) → StandsAt words at (xs ++ ys) → StandsAt words (at + length xs) ys
stands_right words at xs ys h k below =
    ap (slice_index words) (omega arith) ∙ h (length xs + k) (omega (arith, below, length-append xs ys)) ∙ get_or-append-add xs ys k 0

-- ---- writing

pub length-put_all : (at : ℕ) (list words : List ℕ) → length (put_all at list words) ≡ length words
length-put_all at [] words = refl
length-put_all at (word ∷ more) words = length-put_all (suc at) more (slice_set words at word) ∙ length-set words at word

-- in the second of two lists
pub put_all_right : (at : ℕ) (list xs ys : List ℕ) → put_all (length xs + at) list (xs ++ ys) ≡ xs ++ put_all at list ys
put_all_right at [] xs ys = refl
put_all_right at (word ∷ more) xs ys =
    let place : length xs + at - length xs ≡ at = omega arith in
    let next : suc (length xs + at) ≡ length xs + suc at = omega arith in
    ap (put_all (suc (length xs + at)) more) (set-append_right xs ys (length xs) (length xs + at) word refl (omega arith) ∙ ap (λ n. xs ++ slice_set ys n word) place)
    ∙ ap (λ n. put_all n more (xs ++ slice_set ys at word)) next ∙ put_all_right (suc at) more xs (slice_set ys at word)

-- in the first of two lists
pub put_all_left : (at : ℕ) (list xs ys : List ℕ) → at + length list ≤ length xs → put_all at list (xs ++ ys) ≡ put_all at list xs ++ ys
put_all_left at [] xs ys within = refl
put_all_left at (word ∷ more) xs ys within =
    ap (put_all (suc at) more) (set-append_left xs ys at word (omega (arith, within)))
    ∙ put_all_left (suc at) more (slice_set xs at word) ys (omega (arith, within, length-set xs at word))

-- over a whole list
pub put_all_over : (list xs : List ℕ) → length list ≡ length xs → put_all 0 list xs ≡ list
put_all_over [] [] long = refl
put_all_over [] (x ∷ xs) long = absurd (omega (arith, long))
put_all_over (word ∷ more) [] long = absurd (omega (arith, long))
put_all_over (word ∷ more) (x ∷ xs) long =
    put_all_right 0 more (word ∷ []) xs ∙ ap (λ list. word ∷ list) (put_all_over more xs (omega (arith, long)))

-- in a list between two others
pub put_between : (before part after : List ℕ) (at from : ℕ) (list : List ℕ) → length before ≡ from → at + length list ≤ length part
    → put_all (from + at) list (before ++ (part ++ after)) ≡ before ++ (put_all at list part ++ after)
put_between before part after at from list long within =
    ap (λ n. put_all (n + at) list (before ++ (part ++ after))) (sym long) ∙ put_all_right at list before (part ++ after)
    ∙ ap (λ rest. before ++ rest) (put_all_left at list part after within)

-- ---- what stands after writing

pub put_all_before : (at : ℕ) (list words : List ℕ) (i : ℕ) → i < at → slice_index (put_all at list words) i ≡ slice_index words i
put_all_before at [] words i low = refl
put_all_before at (word ∷ more) words i low =
    put_all_before (suc at) more (slice_set words at word) i (omega (arith, low)) ∙ get_or-set_other words at i word 0 (λ same. omega (arith, low, same))

pub put_all_read : (at : ℕ) (list words : List ℕ) → at + length list ≤ length words → StandsAt (put_all at list words) at list
put_all_read at [] words within k below = absurd (omega (arith, below))
put_all_read at (word ∷ more) words within zero below =
    let here : at + zero ≡ at = omega arith in
    ap (slice_index (put_all (suc at) more (slice_set words at word))) here
    ∙ put_all_before (suc at) more (slice_set words at word) at (omega arith) ∙ get_or-set_same words at word 0 (omega (arith, within))
put_all_read at (word ∷ more) words within (suc k) below =
    let next : at + suc k ≡ suc at + k = omega arith in
    ap (slice_index (put_all (suc at) more (slice_set words at word))) next
    ∙ put_all_read (suc at) more (slice_set words at word) (omega (arith, within, length-set words at word)) k (omega (arith, below))
