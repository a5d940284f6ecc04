-- A number is noted by one test and by another, and so by either; what is noted of all elements.
use Rattle.std.proofs.Common.{◌≡◌, ◌<◌, ◌≤◌, ℕ, zero, suc, ◌+◌, ◌-◌, Bool, true, false, ◌||◌, ◌==◌, List, [], ◌∷◌, ◌++◌, length, drop, replicate, Some, slice_get, slice_set, slice_index_or, refl, sym, ◌∙◌, ap, ap₂, arith, if◌then◌else◌}
use Rattle.std.proofs.Math.Path.{fun_ext}
use Rattle.std.proofs.Math.Dec.{eqb-suc-suc, eqb-suc-zero}
use Rattle.std.proofs.lemmas.Bool.{eq-eqb, ne_eqb}
use Rattle.std.proofs.lemmas.List.{set-get_or, drop_all, length-append, append_assoc, append-nil}
use Rattle.std.specs.List.{list_any}
use Rattle.vf_fours.specs.Bits.{tabulate}
use Rattle.vf_elaborated.specs.Tables.{numbers_from}
use Rattle.vf_elaborated.proofs.Sums.{next_left}
use Rattle.vf_elaborated.specs.Noting.{is_number, ends_in, pushed, noted, noted_all}

-- ---- the end of a list

last_is : (number : ℕ) (list : List ℕ) → slice_get (list ++ number ∷ []) (length list) ≡ Some number
last_is number [] = refl
last_is number (n ∷ rest) = last_is number rest

pub ends_pushed : (other number : ℕ) (list : List ℕ) → ends_in other (list ++ number ∷ []) ≡ (number == other)
unfolding ends_in
ends_pushed other number list =
    let long = length-append list (number ∷ []) in
    let last : length (list ++ number ∷ []) - 1 ≡ length list = omega (arith, long) in
    ap (λ k. is_number other (slice_get (list ++ number ∷ []) k)) last ∙ ap (is_number other) (last_is number list)

pub pushed_same : (number : ℕ) (list : List ℕ) → ends_in number list ≡ true → pushed number list ≡ list
unfolding pushed
pushed_same number list e = ap (λ b. if b then list else list ++ number ∷ []) e

pub pushed_new : (number : ℕ) (list : List ℕ) → ends_in number list ≡ false → pushed number list ≡ list ++ number ∷ []
unfolding pushed
pushed_new number list e = ap (λ b. if b then list else list ++ number ∷ []) e

pushed_twice : (number : ℕ) (list : List ℕ) → pushed number (pushed number list) ≡ pushed number list
pushed_twice number list = by (ends_in number list) refl
  where
    by : (b : Bool) → ends_in number list ≡ b → pushed number (pushed number list) ≡ pushed number list
    by true e = ap (pushed number) (pushed_same number list e)
    by false e =
        ap (pushed number) (pushed_new number list e)
        ∙ pushed_same number (list ++ number ∷ []) (ends_pushed number number list ∙ eq-eqb number number refl) ∙ sym (pushed_new number list e)

-- ---- tests

pub noted_none : (number : ℕ) (lists : List (List ℕ)) → noted number (λ n. false) lists ≡ lists
unfolding noted
noted_none number [] = refl
noted_none number (list ∷ rest) = ap (λ rest. list ∷ rest) (noted_none number rest)

pub noted_same : (number : ℕ) (s t : ℕ → Bool) (lists : List (List ℕ)) → ((n : ℕ) → s n ≡ t n) → noted number s lists ≡ noted number t lists
noted_same number s t lists same = ap (λ test. noted number test lists) (fun_ext {f = s} {g = t} same)

-- no list is at a place that passes
pub noted_nowhere : (number : ℕ) (test : ℕ → Bool) (lists : List (List ℕ)) → ((n : ℕ) → test n ≡ false) → lists ≡ noted number test lists
noted_nowhere number test lists never = sym (noted_none number lists) ∙ noted_same number (λ n. false) test lists (λ n. sym (never n))

pub noted_twice : (number : ℕ) (s t : ℕ → Bool) (lists : List (List ℕ)) → noted number t (noted number s lists) ≡ noted number (λ n. s n || t n) lists
unfolding noted
noted_twice number s t [] = refl
noted_twice number s t (list ∷ rest) = ap₂ (λ list rest. list ∷ rest) (by (s 0) (t 0)) (noted_twice number (λ n. s (suc n)) (λ n. t (suc n)) rest)
  where
    by : (a b : Bool) → (if b then pushed number (if a then pushed number list else list) else if a then pushed number list else list)
        ≡ (if a || b then pushed number list else list)
    by true true = pushed_twice number list
    by true false = refl
    by false true = refl
    by false false = refl

-- ---- one list

-- a list at another place stays
passed_over : (number at : ℕ) (list : List ℕ) → list ≡ (if suc at == 0 then pushed number list else list)
passed_over number at list = sym (ap (λ b. if b then pushed number list else list) (eqb-suc-zero at))

pub noted_beyond : (number at : ℕ) (lists : List (List ℕ)) → length lists ≤ at → lists ≡ noted number (λ n. at == n) lists
unfolding noted
noted_beyond number at [] beyond = refl
noted_beyond number zero (list ∷ rest) beyond = absurd (omega (arith, beyond))
noted_beyond number (suc at) (list ∷ rest) beyond =
    ap₂ (λ list rest. list ∷ rest) (passed_over number at list)
    (noted_beyond number at rest (omega (arith, beyond)) ∙ noted_same number (λ n. at == n) (λ n. suc at == suc n) rest (λ n. sym (eqb-suc-suc at n)))

pub noted_one : (number at : ℕ) (lists : List (List ℕ)) → at < length lists
    → slice_set lists at (pushed number (slice_index_or lists at [])) ≡ noted number (λ n. at == n) lists
unfolding noted
noted_one number at [] below = absurd (omega (arith, below))
noted_one number zero (list ∷ rest) below =
    ap (λ rest. pushed number list ∷ rest) (sym (noted_none number rest) ∙ noted_same number (λ n. false) (λ n. 0 == suc n) rest (λ n. sym (ne_eqb 0 (suc n) (λ e. omega (arith, e)))))
noted_one number (suc at) (list ∷ rest) below =
    ap₂ (λ list rest. list ∷ rest) (passed_over number at list)
    (noted_one number at rest (omega (arith, below)) ∙ noted_same number (λ n. at == n) (λ n. suc at == suc n) rest (λ n. sym (eqb-suc-suc at n)))

-- a number that stands at the end already
pub noted_over : (number at : ℕ) (lists : List (List ℕ)) → at < length lists → ends_in number (slice_index_or lists at []) ≡ true
    → lists ≡ noted number (λ n. at == n) lists
noted_over number at lists below e =
    sym (set-get_or lists at []) ∙ ap (slice_set lists at) (sym (pushed_same number (slice_index_or lists at []) e)) ∙ noted_one number at lists below

-- one that does not
pub noted_next : (number at : ℕ) (lists : List (List ℕ)) → at < length lists → ends_in number (slice_index_or lists at []) ≡ false
    → slice_set lists at (slice_index_or lists at [] ++ number ∷ []) ≡ noted number (λ n. at == n) lists
noted_next number at lists below e =
    ap (slice_set lists at) (sym (pushed_new number (slice_index_or lists at []) e)) ∙ noted_one number at lists below

-- a list that is there, whatever stands for one that is not
pub list_is : (lists : List (List ℕ)) (at : ℕ) (other : List ℕ) → at < length lists → slice_index_or lists at other ≡ slice_index_or lists at []
list_is [] at other below = absurd (omega (arith, below))
list_is (list ∷ rest) zero other below = refl
list_is (list ∷ rest) (suc at) other below = list_is rest at other (omega (arith, below))

-- ---- the elements of a list, one after the other

module _ {A : Type 0} (number : ℕ) (test : ℕ → A → Bool) (xs : List A) (i : ℕ) (lists : List (List ℕ)) where
  -- the elements from one on are noted: that one, and then the others
  pub next_noted : (x : A) (next : List (List ℕ)) → i < length xs → x ≡ slice_index_or xs i x → next ≡ noted number (λ n. test n x) lists
      → noted number (λ n. list_any (test n) (drop (i + 1) xs)) next ≡ noted number (λ n. list_any (test n) (drop i xs)) lists
  next_noted x next below is step =
      let after : i + 1 ≡ suc i = omega arith in
      ap₂ (λ k next. noted number (λ n. list_any (test n) (drop k xs)) next) after step
      ∙ noted_twice number (λ n. test n x) (λ n. list_any (test n) (drop (suc i) xs)) lists
      ∙ ap (λ ys. noted number (λ n. list_any (test n) ys) lists) (sym (next_left xs i x below is))

  -- none is left
  pub all_are_noted : length xs ≤ i → noted number (λ n. list_any (test n) (drop i xs)) lists ≡ lists
  all_are_noted past = ap (λ ys. noted number (λ n. list_any (test n) ys) lists) (drop_all i xs past) ∙ noted_none number lists

-- ---- all elements

-- one list, as the elements are noted in it
pushes : {A : Type 0} → (A → Bool) → ℕ → List A → List ℕ → List ℕ
pushes test number [] list = list
pushes test number (x ∷ rest) list = pushes test (number + 1) rest (if test x then pushed number list else list)

noted_tabulate : (number : ℕ) (test : ℕ → Bool) (f : ℕ → List ℕ) (count : ℕ)
    → noted number test (tabulate f count) ≡ tabulate (λ n. if test n then pushed number (f n) else f n) count
unfolding noted tabulate
noted_tabulate number test f zero = refl
noted_tabulate number test f (suc count) =
    ap (λ rest. (if test 0 then pushed number (f 0) else f 0) ∷ rest) (noted_tabulate number (λ n. test (suc n)) (λ n. f (suc n)) count)

all_tabulate : {A : Type 0} (test : ℕ → A → Bool) (number : ℕ) (xs : List A) (f : ℕ → List ℕ) (count : ℕ)
    → noted_all test number xs (tabulate f count) ≡ tabulate (λ n. pushes (test n) number xs (f n)) count
unfolding pushes
all_tabulate test number [] f count = refl
all_tabulate test number (x ∷ rest) f count =
    ap (noted_all test (number + 1) rest) (noted_tabulate number (λ n. test n x) f count)
    ∙ all_tabulate test (number + 1) rest (λ n. if test n x then pushed number (f n) else f n) count

-- no number from here on stands at the end
abbrev IsBefore : ℕ → List ℕ → Type 0
IsBefore number list = (m : ℕ) → number ≤ m → ends_in m list ≡ false

pushes_are : {A : Type 0} (test : A → Bool) (number : ℕ) (xs : List A) (list : List ℕ) → IsBefore number list
    → pushes test number xs list ≡ list ++ numbers_from test number xs
unfolding pushes
pushes_are test number [] list before = sym (append-nil list)
pushes_are test number (x ∷ rest) list before =
    by (test x) (pushes_are test (number + 1) rest list (λ m far. before m (omega (arith, far))))
    (pushes_are test (number + 1) rest (list ++ number ∷ []) (λ m far. ends_pushed m number list ∙ ne_eqb number m (λ e. omega (arith, far, e))))
  where
    by : (b : Bool) → pushes test (number + 1) rest list ≡ list ++ numbers_from test (number + 1) rest
        → pushes test (number + 1) rest (list ++ number ∷ []) ≡ (list ++ number ∷ []) ++ numbers_from test (number + 1) rest
        → pushes test (number + 1) rest (if b then pushed number list else list)
        ≡ list ++ (if b then number ∷ numbers_from test (number + 1) rest else numbers_from test (number + 1) rest)
    by false passed noted = passed
    by true passed noted =
        ap (pushes test (number + 1) rest) (pushed_new number list (before number (omega arith))) ∙ noted
        ∙ append_assoc list (number ∷ []) (numbers_from test (number + 1) rest)

empty_before : (m : ℕ) → ends_in m [] ≡ false
unfolding ends_in
empty_before m = refl

replicate_tabulate : (count : ℕ) → replicate {A = List ℕ} count [] ≡ tabulate (λ n. []) count
unfolding tabulate
replicate_tabulate zero = refl
replicate_tabulate (suc count) = ap (λ rest. [] ∷ rest) (replicate_tabulate count)

-- what is noted of all elements in empty lists is the numbers of those that pass
pub all_noted : {A : Type 0} (test : ℕ → A → Bool) (xs : List A) (count : ℕ)
    → noted_all test 0 xs (replicate count []) ≡ tabulate (λ n. numbers_from (test n) 0 xs) count
all_noted test xs count =
    ap (noted_all test 0 xs) (replicate_tabulate count) ∙ all_tabulate test 0 xs (λ n. []) count
    ∙ ap (λ f. tabulate f count)
    (fun_ext {f = λ n. pushes (test n) 0 xs []} {g = λ n. numbers_from (test n) 0 xs} (λ n. pushes_are (test n) 0 xs [] (λ m far. empty_before m)))
