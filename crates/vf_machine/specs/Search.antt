-- Searches below a bound.
use Rattle.std.specs.Prelude.{ℕ, zero, suc, ◌+◌, Bool, false, ◌||◌, Option, Some, None, if◌then◌else◌}

-- the least number below n that passes
unfoldable pub first : (ℕ → Bool) → ℕ → Option ℕ
first p zero = None
first p (suc n) = elim (first p n) [ Some i ↦ Some i | None ↦ if p n then Some n else None ]

-- whether a number below n passes
unfoldable pub any_below : (ℕ → Bool) → ℕ → Bool
any_below p zero = false
any_below p (suc n) = any_below p n || p n

-- how many numbers below n pass
unfoldable pub count_below : (ℕ → Bool) → ℕ → ℕ
count_below p zero = 0
count_below p (suc n) = count_below p n + (if p n then 1 else 0)
