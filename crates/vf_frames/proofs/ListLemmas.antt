-- What stands in a list of numbers.
use Rattle.std.proofs.Common.{◌≡◌, ℕ, zero, suc, ◌+◌, ◌<◌, ◌≤◌, Bool, true, false, cond, not, ◌&&◌, ◌||◌, ◌==◌, List, [], ◌∷◌, ◌++◌, length, refl, sym, ap, ◌∙◌, arith, ne_eqb, eq-eqb, ⊎_elim, ap₂, get_or, take}
use Rattle.std.proofs.lemmas.List.{take_all, take_more}
use Rattle.std.proofs.lemmas.Bool.Decides.{nat_tests}
use Rattle.std.proofs.lemmas.Bool.{cases_eq}
use Rattle.std.specs.Prelude.{filter}
use Rattle.std.specs.List.{range_with_len}
use Rattle.vf_frames.specs.Numbers.{has, apart}

or_swap : (a b c : Bool) → (a || (b || c)) ≡ (b || (a || c))
or_swap true true c = refl
or_swap true false c = refl
or_swap false true c = refl
or_swap false false c = refl

has-cond : (b : Bool) (f x : ℕ) (r : List ℕ) → has f (cond b (x ∷ r) r) ≡ ((b && (f == x)) || has f r)
has-cond true f x r = refl
has-cond false f x r = refl

no_part : (b c d : Bool) → c ≡ false → d ≡ false → ((b && c) || d) ≡ false
no_part true c d e h = grind arith
no_part false c d e h = h

first_part : (b c d : Bool) → c ≡ true → d ≡ false → ((b && c) || d) ≡ b
first_part true c d e h = grind arith
first_part false c d e h = h

second_part : (b c d : Bool) → c ≡ false → ((b && c) || d) ≡ d
second_part true c d e = grind arith
second_part false c d e = refl

pub has-filter_below : (p : ℕ → Bool) (f a n : ℕ) → f < a → has f (filter p (range_with_len a n)) ≡ false
has-filter_below p f a zero h = refl
has-filter_below p f a (suc n) h =
    has-cond (p a) f a (filter p (range_with_len (a + 1) n))
    ∙ no_part _ _ _ (ne_eqb f a (λ e. omega arith)) (has-filter_below p f (a + 1) n (omega arith))

pub has-filter_above : (p : ℕ → Bool) (f a n : ℕ) → a + n ≤ f → has f (filter p (range_with_len a n)) ≡ false
has-filter_above p f a zero h = refl
has-filter_above p f a (suc n) h =
    has-cond (p a) f a (filter p (range_with_len (a + 1) n))
    ∙ no_part _ _ _ (ne_eqb f a (λ e. omega arith)) (has-filter_above p f (a + 1) n (omega arith))

pub has-filter_within : (p : ℕ → Bool) (f a n : ℕ) → a ≤ f → f < a + n → has f (filter p (range_with_len a n)) ≡ p f
has-filter_within p f a zero h k = absurd (omega arith)
has-filter_within p f a (suc n) h k =
    has-cond (p a) f a (filter p (range_with_len (a + 1) n))
    ∙ ⊎_elim
    (λ e. first_part (p a) (f == a) _ (eq-eqb f a e) (has-filter_below p f (a + 1) n (omega arith)) ∙ ap p (sym e))
    (λ ne. second_part (p a) (f == a) _ (ne_eqb f a ne) ∙ has-filter_within p f (a + 1) n (omega arith) (omega arith))
    (cases_eq f a)

same_test : (x y : ℕ) → (x == y) ≡ (y == x)
same_test x y = grind (arith, nat_tests)

apart_swap : (a b c d e : Bool) → a ≡ b → (not (a || c) && (not d && e)) ≡ (not (b || d) && (not c && e))
apart_swap a b c d e h = rw h (apart_cases b c d e)
  where
    apart_cases : (b c d e : Bool) → (not (b || c) && (not d && e)) ≡ (not (b || d) && (not c && e))
    apart_cases true c d e = refl
    apart_cases false true true e = refl
    apart_cases false true false e = refl
    apart_cases false false true e = refl
    apart_cases false false false e = refl

-- at the end of a list
pub has-snoc : (f : ℕ) (xs : List ℕ) (y : ℕ) → has f (xs ++ y ∷ []) ≡ ((f == y) || has f xs)
has-snoc f [] y = refl
has-snoc f (x ∷ xs) y = ap (λ b. (f == x) || b) (has-snoc f xs y) ∙ or_swap (f == x) (f == y) (has f xs)

pub apart-snoc : (xs : List ℕ) (y : ℕ) → apart (xs ++ y ∷ []) ≡ (not (has y xs) && apart xs)
apart-snoc [] y = refl
apart-snoc (x ∷ xs) y =
    ap₂ (λ a b. not a && b) (has-snoc x xs y) (apart-snoc xs y)
    ∙ apart_swap (x == y) (y == x) (has x xs) (has y xs) (apart xs) (same_test x y)

-- a list ends with its last number
pub last-is : (xs : List ℕ) (m n x : ℕ) → m ≡ n → n + 1 ≡ length xs → x ≡ get_or xs n x → xs ≡ take m xs ++ x ∷ []
last-is xs m n x same h e =
    sym (take_all (n + 1) xs (omega arith)) ∙ take_more xs n x (omega arith)
    ∙ ap₂ (λ k y. take k xs ++ y ∷ []) (sym same) (sym e)
