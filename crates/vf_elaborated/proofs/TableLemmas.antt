-- The tables of a design: who stands in them.
use Rattle.std.proofs.Common.{◌≡◌, ◌<◌, ◌≤◌, ℕ, zero, suc, ◌+◌, Bool, true, false, ◌||◌, List, [], ◌∷◌, length, Some, cond, slice_get, slice_index_or, refl, sym, ◌∙◌, ap, subst, arith, if◌then◌else◌}
use Rattle.std.proofs.lemmas.Bool.{false≢true}
use Rattle.std.proofs.lemmas.List.Elements.{All-nil, All-cons}
use Rattle.std.proofs.lemmas.List.Kept.{AllPairs-cons}
use Rattle.std.specs.List.{All, AllPairs, Contains, filter, list_any}
use Rattle.vf_fours.specs.Bits.{tabulate}
use Rattle.vf_fours.specs.Shapes.{length-tabulate}
use Rattle.vf_elaborated.specs.declared.design.Process.{Process}
use Rattle.vf_elaborated.specs.declared.code.Instr.{Instr}
use Rattle.vf_elaborated.specs.Elaborated.{Elaborated}
use Rattle.vf_elaborated.specs.Tables.{numbers_from, may_wake, may_wait, watchers_of, drives, drivers_of}
use Rattle.vf_elaborated.specs.Noting.{tables}

-- ---- one list of a table

tabulate_at : {A : Type 0} (f : ℕ → A) (count n : ℕ) (other : A) → n < count → slice_index_or (tabulate f count) n other ≡ f n
unfolding tabulate
tabulate_at f zero n other below = absurd (omega (arith, below))
tabulate_at f (suc count) zero other below = refl
tabulate_at f (suc count) (suc n) other below = tabulate_at (λ i. f (suc i)) count n other (omega (arith, below))

pub table_at : (test : ℕ → Process → Bool) (processes : List Process) (count n : ℕ) → n < count
    → slice_index_or (tables test processes count) n [] ≡ numbers_from (test n) 0 processes
table_at test processes count n below = tabulate_at (λ n. numbers_from (test n) 0 processes) count n [] below

pub table_length : (test : ℕ → Process → Bool) (processes : List Process) (count : ℕ) → length (tables test processes count) ≡ count
table_length test processes count = length-tabulate (λ n. numbers_from (test n) 0 processes) count

-- ---- the numbers of those that pass

behind : (xs : List ℕ) (y x : ℕ) → Contains xs x → Contains (y ∷ xs) x
behind xs y x (k, below, is) = (suc k, omega (arith, below), is)

module _ {A : Type 0} (test : A → Bool) where
  -- one that passes stands there
  pub number_stands : (from : ℕ) (xs : List A) (i : ℕ) (x : A) → slice_get xs i ≡ Some x → test x ≡ true → Contains (numbers_from test from xs) (from + i)
  number_stands from [] i x is passes = absurd (cc is)
  number_stands from (y ∷ ys) zero x is passes =
      let same : y ≡ x = cc is in
      subst (λ b. Contains (if b then from ∷ numbers_from test (from + 1) ys else numbers_from test (from + 1) ys) (from + 0)) (sym (ap test same ∙ passes))
      (0, omega arith, omega arith)
  number_stands from (y ∷ ys) (suc i) x is passes = by (test y) (subst (Contains (numbers_from test (from + 1) ys)) (omega arith) (number_stands (from + 1) ys i x is passes))
    where
      by : (b : Bool) → Contains (numbers_from test (from + 1) ys) (from + suc i)
          → Contains (if b then from ∷ numbers_from test (from + 1) ys else numbers_from test (from + 1) ys) (from + suc i)
      by true there = behind (numbers_from test (from + 1) ys) from (from + suc i) there
      by false there = there

  abbrev IsWithin : ℕ → ℕ → ℕ → Type 0
  IsWithin low high n = (low ≤ n) × (n < high)

  numbers_within : (from high : ℕ) (xs : List A) → from + length xs ≤ high → All (IsWithin from high) (numbers_from test from xs)
  numbers_within from high [] room = All-nil (IsWithin from high)
  numbers_within from high (x ∷ xs) room = by (test x) (wider (numbers_from test (from + 1) xs) (numbers_within (from + 1) high xs (omega (arith, room))))
    where
      wider : (ns : List ℕ) → All (IsWithin (from + 1) high) ns → All (IsWithin from high) ns
      wider ns all k other below = let here = all k other below in (omega (arith, here.0), here.1)

      by : (b : Bool) → All (IsWithin from high) (numbers_from test (from + 1) xs)
          → All (IsWithin from high) (if b then from ∷ numbers_from test (from + 1) xs else numbers_from test (from + 1) xs)
      by true rest = All-cons (IsWithin from high) from (numbers_from test (from + 1) xs) (omega arith, omega (arith, room)) rest
      by false rest = rest

  pub numbers_below : (xs : List A) → All (λ n. n < length xs) (numbers_from test 0 xs)
  numbers_below xs k other below = (numbers_within 0 (length xs) xs (omega arith) k other below).1

  -- they rise
  pub numbers_rise : (from : ℕ) (xs : List A) → AllPairs (λ m n. m < n) (numbers_from test from xs)
  numbers_rise from [] = λ i j other less below. absurd (omega (arith, below))
  numbers_rise from (x ∷ xs) =
      by (test x) (λ k other below. (numbers_within (from + 1) (from + 1 + length xs) xs (omega arith) k other below).0) (numbers_rise (from + 1) xs)
    where
      by : (b : Bool) → All (λ n. from + 1 ≤ n) (numbers_from test (from + 1) xs) → AllPairs (λ m n. m < n) (numbers_from test (from + 1) xs)
          → AllPairs (λ m n. m < n) (if b then from ∷ numbers_from test (from + 1) xs else numbers_from test (from + 1) xs)
      by true above rest =
          AllPairs-cons (λ m n. m < n) from (numbers_from test (from + 1) xs) (λ k other below. let here = above k other below in omega (arith, here)) rest
      by false above rest = rest

-- A scan of a whole list by one test finds what is left of the numbers of another test, where those that pass the one pass the other. The numbers
-- are tested by a third that tells the same as the first.
pub numbers_left : {A B : Type 0} (f : A → Bool) (g : B → Bool) (h : ℕ → Bool) (from : ℕ) (xs : List A) (ys : List B) → length xs ≡ length ys
    → ((i : ℕ) (x : A) (y : B) → slice_get xs i ≡ Some x → slice_get ys i ≡ Some y → (h (from + i) ≡ f x) × (f x ≡ true → g y ≡ true))
    → numbers_from f from xs ≡ filter h (numbers_from g from ys)
numbers_left f g h from [] [] long tells = refl
numbers_left f g h from [] (y ∷ ys) long tells = absurd (omega (arith, long))
numbers_left f g h from (x ∷ xs) [] long tells = absurd (omega (arith, long))
numbers_left f g h from (x ∷ xs) (y ∷ ys) long tells =
    let first = tells 0 x y refl refl in
    let here : from + 0 ≡ from = omega arith in
    by (f x) (g y) (h from) refl (ap h (sym here) ∙ first.0) first.1
    (numbers_left f g h (from + 1) xs ys (omega (arith, long))
    (λ i x y ix iy.
    let place : from + 1 + i ≡ from + suc i = omega arith in
    let next = tells (suc i) x y ix iy in
    (ap h place ∙ next.0, next.1)))
  where
    by : (a b c : Bool) → h from ≡ c → c ≡ a → (a ≡ true → b ≡ true) → numbers_from f (from + 1) xs ≡ filter h (numbers_from g (from + 1) ys)
        → (if a then from ∷ numbers_from f (from + 1) xs else numbers_from f (from + 1) xs)
        ≡ filter h (if b then from ∷ numbers_from g (from + 1) ys else numbers_from g (from + 1) ys)
    by true true true is same passes rest = ap (λ ns. from ∷ ns) rest ∙ sym (ap (λ t. cond t (from ∷ filter h (numbers_from g (from + 1) ys)) (filter h (numbers_from g (from + 1) ys))) is)
    by false true false is same passes rest = rest ∙ sym (ap (λ t. cond t (from ∷ filter h (numbers_from g (from + 1) ys)) (filter h (numbers_from g (from + 1) ys))) is)
    by false false c is same passes rest = rest
    by true false c is same passes rest = absurd (false≢true (passes refl))
    by true true false is same passes rest = absurd (false≢true same)
    by false true true is same passes rest = absurd (false≢true (sym same))

-- ---- the tables

zero_more : (n : ℕ) → 0 + n ≡ n
zero_more n = omega arith

-- an instruction that a signal may wake makes its code wait for the signal
pub waits_at : (sig : ℕ) (code : List Instr) (place : ℕ) (instr : Instr) → slice_get code place ≡ Some instr → may_wake sig instr ≡ true
    → list_any (may_wake sig) code ≡ true
waits_at sig [] place instr at wakes = absurd (cc at)
waits_at sig (one ∷ rest) zero instr at wakes =
    let same : one ≡ instr = cc at in
    ap (λ b. b || list_any (may_wake sig) rest) (ap (may_wake sig) same ∙ wakes)
waits_at sig (one ∷ rest) (suc place) instr at wakes = ap (λ b. may_wake sig one || b) (waits_at sig rest place instr at wakes) ∙ either (may_wake sig one)
  where
    either : (b : Bool) → (b || true) ≡ true
    either true = refl
    either false = refl

module _ (d : Elaborated) where
  -- a process that has an instruction which a signal may wake is among the signal's watchers
  pub watcher_stands : (sig p place : ℕ) (process : Process) (instr : Instr) → slice_get d.processes p ≡ Some process → slice_get process.code place ≡ Some instr
      → may_wake sig instr ≡ true → Contains (watchers_of d sig) p
  unfolding watchers_of
  watcher_stands sig p place process instr there at wakes =
      subst (Contains (watchers_of d sig)) (zero_more p)
      (number_stands (may_wait sig) 0 d.processes p process there (waits_at sig process.code place instr at wakes))

  pub watchers_below : (sig : ℕ) → All (λ p. p < length d.processes) (watchers_of d sig)
  unfolding watchers_of
  watchers_below sig = numbers_below (may_wait sig) d.processes

  pub watchers_rise : (sig : ℕ) → AllPairs (λ m n. m < n) (watchers_of d sig)
  unfolding watchers_of
  watchers_rise sig = numbers_rise (may_wait sig) 0 d.processes

  pub driver_stands : (net p : ℕ) (process : Process) → slice_get d.processes p ≡ Some process → drives net process ≡ true → Contains (drivers_of d net) p
  unfolding drivers_of
  driver_stands net p process there passes = subst (Contains (drivers_of d net)) (zero_more p) (number_stands (drives net) 0 d.processes p process there passes)

  pub drivers_below : (net : ℕ) → All (λ p. p < length d.processes) (drivers_of d net)
  unfolding drivers_of
  drivers_below net = numbers_below (drives net) d.processes

  pub drivers_rise : (net : ℕ) → AllPairs (λ m n. m < n) (drivers_of d net)
  unfolding drivers_of
  drivers_rise net = numbers_rise (drives net) 0 d.processes
