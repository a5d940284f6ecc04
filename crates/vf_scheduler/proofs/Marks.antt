-- Where an event stands, told by one mark for processes and slots alike; how often events stand in lists.
use Rattle.std.proofs.Common.{◌≡◌, ℕ, ◌+◌, ◌≤◌, Bool, true, false, List, [], ◌∷◌, ◌++◌, refl, sym, ◌∙◌, ap, subst, arith, ⊎_elim, nat_lt, ◌==◌, if◌then◌else◌}
use Rattle.std.proofs.lemmas.Bool.{false≢true, eqb-true, eq-eqb, ne_eqb, cases_eq}
use Rattle.vf_scheduler.specs.State.{Item, of_process, of_slot}
use Rattle.vf_scheduler.specs.Posting.{put_by_time}
use Rattle.vf_scheduler.specs.Sound.{same_item, times}

-- ---- one event in a list

pub same_item_is : (x y : Item) → same_item x y ≡ true → x ≡ y
same_item_is (of_process p) (of_process q) h = ap of_process (eqb-true p q h)
same_item_is (of_process p) (of_slot q) h = absurd (false≢true h)
same_item_is (of_slot p) (of_process q) h = absurd (false≢true h)
same_item_is (of_slot p) (of_slot q) h = ap of_slot (eqb-true p q h)

pub same_itself : (x : Item) → same_item x x ≡ true
same_itself (of_process p) = eq-eqb p p refl
same_itself (of_slot q) = eq-eqb q q refl

same_number : (p q : ℕ) → (p == q) ≡ (q == p)
same_number p q = ⊎_elim (λ e. eq-eqb p q e ∙ sym (eq-eqb q p (sym e))) (λ other. ne_eqb p q other ∙ sym (ne_eqb q p (λ e. other (sym e)))) (cases_eq p q)

pub same_turned : (x y : Item) → same_item x y ≡ same_item y x
same_turned (of_process p) (of_process q) = same_number p q
same_turned (of_process p) (of_slot q) = refl
same_turned (of_slot p) (of_process q) = refl
same_turned (of_slot p) (of_slot q) = same_number p q

pub times-append : (x : Item) (xs ys : List Item) → times x (xs ++ ys) ≡ times x xs + times x ys
times-append x [] ys = omega arith
times-append x (y ∷ xs) ys = omega (arith, times-append x xs ys)

pub times_other : (x y : Item) (xs : List Item) → same_item x y ≡ false → times x (y ∷ xs) ≡ times x xs
times_other x y xs h = ap (λ b. (if b then 1 else 0) + times x xs) h ∙ omega arith

pub times_here : (x : Item) (xs : List Item) → times x (x ∷ xs) ≡ 1 + times x xs
times_here x xs = ap (λ b. (if b then 1 else 0) + times x xs) (same_itself x)

-- lists that differ in one event alone
pub record Others (x : Item) (xs ys : List Item) : Type 0 where
  pub same : (y : Item) → same_item y x ≡ false → times y ys ≡ times y xs

pub others_itself : (x : Item) (xs : List Item) → Others x xs xs
others_itself x xs = record { same = λ y h. refl }

pub others_first : (x : Item) (xs : List Item) → Others x (x ∷ xs) xs
others_first x xs = record { same = λ y h. sym (times_other y x xs h) }

pub others_last : (x : Item) (xs : List Item) → Others x xs (xs ++ x ∷ [])
others_last x xs = record { same = λ y h. times-append y xs (x ∷ []) ∙ omega (arith, times_other y x [] h) }

pub times_last : (x : Item) (xs : List Item) → times x (xs ++ x ∷ []) ≡ times x xs + 1
times_last x xs = times-append x xs (x ∷ []) ∙ omega (arith, times_here x [])

times-put : (times_of : Item → ℕ) (at : ℕ) (x y : Item) (xs : List Item) → times y (put_by_time times_of at x xs) ≡ times y (x ∷ xs)
times-put times_of at x y [] = refl
times-put times_of at x y (first ∷ rest) = by (nat_lt at (times_of first)) (times-put times_of at x y rest)
  where
    by : (b : Bool) → times y (put_by_time times_of at x rest) ≡ times y (x ∷ rest)
        → times y (if b then x ∷ first ∷ rest else first ∷ put_by_time times_of at x rest) ≡ times y (x ∷ first ∷ rest)
    by true e = refl
    by false e = omega (arith, e)

pub others_put : (times_of : Item → ℕ) (at : ℕ) (x : Item) (xs : List Item) → Others x xs (put_by_time times_of at x xs)
others_put times_of at x xs = record { same = λ y h. times-put times_of at x y xs ∙ times_other y x xs h }

pub times_put : (times_of : Item → ℕ) (at : ℕ) (x : Item) (xs : List Item) → times x (put_by_time times_of at x xs) ≡ times x xs + 1
times_put times_of at x xs = times-put times_of at x x xs ∙ omega (arith, times_here x xs)

-- ---- marks

-- in no list; it runs; or in one of the regions, a due update in one of two
pub data Mark : Type 0 where
  Nowhere : Mark
  Runs : Mark
  InActive : Mark
  InInactive : Mark
  InFuture : ℕ → Mark
  IsDue : Mark
  InStrobes : Mark

abbrev pub mark_time : Mark → ℕ
mark_time (InFuture at) = at
mark_time _ = 0

abbrev pub runs : Mark → Bool
runs Runs = true
runs _ = false

abbrev pub often : Mark → ℕ
often Nowhere = 0
often Runs = 0
often _ = 1

-- how often it stands in its own region, of how often it stands in the active, inactive, nonblocking, future and strobe list
abbrev pub own : Mark → ℕ → ℕ → ℕ → ℕ → ℕ → ℕ
own Nowhere a i n f t = 0
own Runs a i n f t = 0
own InActive a i n f t = a
own InInactive a i n f t = i
own (InFuture at) a i n f t = f
own IsDue a i n f t = n + a
own InStrobes a i n f t = t

pub record Placed (m : Mark) (a i n f t : ℕ) : Type 0 where
  pub there : own m a i n f t ≡ often m
  pub alone : i + (n + (f + (t + a))) ≡ often m

pub few : (m : Mark) → often m ≤ 1
few Nowhere = omega arith
few Runs = omega arith
few InActive = omega arith
few InInactive = omega arith
few (InFuture at) = omega arith
few IsDue = omega arith
few InStrobes = omega arith

pub none_runs : (m : Mark) → 1 ≤ often m → runs m ≡ false
none_runs Nowhere h = absurd (omega (arith, h))
none_runs Runs h = absurd (omega (arith, h))
none_runs InActive h = refl
none_runs InInactive h = refl
none_runs (InFuture at) h = refl
none_runs IsDue h = refl
none_runs InStrobes h = refl

pub placed_same : (m m' : Mark) (a i n f t : ℕ) → m' ≡ m → Placed m a i n f t → Placed m' a i n f t
placed_same m m' a i n f t e h = subst (λ k. Placed k a i n f t) (sym e) h
