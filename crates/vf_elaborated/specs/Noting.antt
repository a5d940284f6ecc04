-- A number is noted in lists: it is put at the end of each list whose place passes a test, unless it stands there already.
use Rattle.std.specs.Prelude.{ℕ, suc, ◌+◌, ◌-◌, Bool, false, ◌==◌, List, [], ◌∷◌, ◌++◌, length, Option, Some, None, slice_get, if◌then◌else◌}
use Rattle.vf_fours.specs.Bits.{tabulate}
use Rattle.vf_elaborated.specs.declared.design.Process.{Process}
use Rattle.vf_elaborated.specs.Tables.{numbers_from}

abbrev pub is_number : ℕ → Option ℕ → Bool
is_number number None = false
is_number number (Some n) = n == number

-- a number stands at the end of a list
unfoldable pub ends_in : ℕ → List ℕ → Bool
ends_in number list = is_number number (slice_get list (length list - 1))

unfoldable pub pushed : ℕ → List ℕ → List ℕ
pushed number list = if ends_in number list then list else list ++ number ∷ []

unfoldable pub noted : ℕ → (ℕ → Bool) → List (List ℕ) → List (List ℕ)
noted number test [] = []
noted number test (list ∷ rest) = (if test 0 then pushed number list else list) ∷ noted number (λ n. test (suc n)) rest

-- some elements are noted by their numbers from one on, each where its test passes
abbrev pub noted_all : {A : Type 0} → (ℕ → A → Bool) → ℕ → List A → List (List ℕ) → List (List ℕ)
noted_all test number [] lists = lists
noted_all test number (x ∷ rest) lists = noted_all test (number + 1) rest (noted number (λ n. test n x) lists)

-- for each of so many places, the numbers of the processes that pass its test
abbrev pub tables : (ℕ → Process → Bool) → List Process → ℕ → List (List ℕ)
tables test processes count = tabulate (λ n. numbers_from (test n) 0 processes) count
