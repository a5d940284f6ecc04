-- The stack of free frames beside the numbers of a plain pool.
use Rattle.std.specs.Prelude.{◌≡◌, ℕ, ◌<◌, true, false, ◌==◌, List, length, slice_index, slice_set, count_by}
use Rattle.vf_frames.specs.Numbers.{has, apart}

-- how many frames nobody has
abbrev pub zeros : List ℕ → ℕ
zeros numbers = count_by (λ n. n == 0) numbers

-- the stack has each frame with the number 0, once
pub record IsFreeStack (numbers stack : List ℕ) : Type 0 where
  pub once : apart stack ≡ true
  pub within : (f : ℕ) → has f stack ≡ true → f < length numbers
  pub free : (f : ℕ) → has f stack ≡ true → slice_index numbers f ≡ 0
  pub all : length stack ≡ zeros numbers

-- the number of one frame, which is not among those given, goes from 0 to 1
pub record Takes (held old new : List ℕ) (f : ℕ) : Type 0 where
  pub within : f < length old
  pub absent : has f held ≡ false
  pub free : slice_index old f ≡ 0
  pub after : new ≡ slice_set old f 1
