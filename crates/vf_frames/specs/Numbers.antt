-- Lists of frame numbers, by what stands in them.
use Rattle.std.specs.Prelude.{◌≡◌, ℕ, ◌+◌, Bool, true, false, not, ◌&&◌, ◌||◌, ◌==◌, nat_le, nat_lt, List, [], ◌∷◌}

-- the list has the number
abbrev pub has : ℕ → List ℕ → Bool
has f [] = false
has f (x ∷ xs) = (f == x) || has f xs

-- no number stands twice in the list
abbrev pub apart : List ℕ → Bool
apart [] = true
apart (x ∷ xs) = not (has x xs) && apart xs

-- the numbers rise, from `low` on, and each is below `limit`
abbrev pub rises : ℕ → ℕ → List ℕ → Bool
rises low limit [] = true
rises low limit (x ∷ xs) = nat_le low x && (nat_lt x limit && rises (x + 1) limit xs)

-- a number that was not in the list is now, and nothing else changed
pub record Gains (f : ℕ) (before after : List ℕ) : Type 0 where
  pub absent : has f before ≡ false
  pub each : (g : ℕ) → has g after ≡ ((g == f) || has g before)

-- a number that was in the list is no more, and nothing else changed
pub record Loses (f : ℕ) (before after : List ℕ) : Type 0 where
  pub present : has f before ≡ true
  pub each : (g : ℕ) → has g after ≡ (not (g == f) && has g before)

-- one list has what two lists had, and the two shared nothing
pub record Unites (left right after : List ℕ) : Type 0 where
  pub disjoint : (g : ℕ) → has g left ≡ true → has g right ≡ false
  pub each : (g : ℕ) → has g after ≡ (has g left || has g right)
