-- What a list of writes and a bench of two holders keep.
use Rattle.std.specs.Prelude.{◌≡◌, ℕ, ◌+◌, ◌≤◌, length}
use Rattle.vf_frames.specs.Plain.{token_seen, pool_name}
use Rattle.vf_pages.specs.Writes.{AreWrites}
use Rattle.vf_memory_tests.specs.declared.writes.Rising.TheInside as writes
use Rattle.vf_memory_tests.specs.declared.bench.Bench.TheInside as bench

-- of both a number of words is told
pub record Counted : Type 0 where
  pub words : ℕ

abbrev pub rising_of : writes.Inside → Counted
rising_of r = record { words = r.words }

pub record IsRising (r : writes.Inside) : Type 0 where
  pub rising : AreWrites r.next r.writes.items
  pub within : r.next ≤ r.words

abbrev pub bench_of : bench.Inside → Counted
bench_of b = record { words = b.words }

-- the hand has a part for each holder that may still be opened
pub record IsBench (b : bench.Inside) : Type 0 where
  pub hand : (token_seen b.hand).name ≡ pool_name b.pool
  pub parts : b.opens + 2 ≤ (token_seen b.hand).parts
  pub first : b.first.holder.name ≡ pool_name b.pool
  pub first_words : length b.first.zero ≡ b.words
  pub second : b.second.holder.name ≡ pool_name b.pool
  pub second_words : length b.second.zero ≡ b.words
