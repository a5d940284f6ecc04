-- Counts of faults and of calls (docs/FORMATS.md, "Ports").
use Rattle.std.specs.Prelude.{ℕ, ◌+◌, ◌-◌, ◌^◌, ◌<◌, ◌≤◌, min}

-- one more, but a count stands still at 2^64 - 1
abbrev pub raised : ℕ → ℕ
raised count = min (count + 1) (2 ^ 64 - 1)

-- the count rose; one that stands at 2^64 - 1 counts as risen
abbrev pub Rose : ℕ → ℕ → Type 0
Rose before after = (before ≤ after) × (before < 2 ^ 64 - 1 → before < after)
