-- A set of frames as words of bits, and the list that it means.
use Rattle.std.specs.Prelude.{◌≡◌, ℕ, zero, suc, ◌+◌, ◌/◌, ◌%◌, ◌<◌, ◌≤◌, Bool, true, false, cond, ◌&&◌, ◌==◌, nat_lt, nat_le, List, [], ◌∷◌, slice_index, filter}
use Rattle.std.specs.List.{range_with_len}
use Rattle.std.specs.Int.{bit_at}
use Rattle.std.proofs.Common.{refl, arith, le-leb, lt-ltb, leb-true}
use Rattle.std.proofs.lemmas.Bool.{and_parts, and_from}
use Rattle.vf_frames.specs.Numbers.{rises}

-- bit f of the words, 64 to a word, least first
abbrev pub bit_is : List ℕ → ℕ → Bool
bit_is words f = bit_at (slice_index words (f / 64)) (f % 64) == 1

-- the frames below the limit whose bit is 1
unfoldable pub frames_in : ℕ → List ℕ → List ℕ
frames_in limit words = filter (bit_is words) (range_with_len 0 limit)

-- what rises from further on rises from here
rises-less : (low high limit : ℕ) (xs : List ℕ) → low ≤ high → rises high limit xs ≡ true → rises low limit xs ≡ true
rises-less low high limit [] h r = refl
rises-less low high limit (x ∷ xs) h r =
    let parts = and_parts (nat_le high x) (nat_lt x limit && rises (x + 1) limit xs) r in
    let above = leb-true high x parts.0 in
    and_from (nat_le low x) (nat_lt x limit && rises (x + 1) limit xs) (le-leb low x (omega arith)) parts.1

rises-cond : (b : Bool) (a limit : ℕ) (xs : List ℕ) → a < limit → rises (a + 1) limit xs ≡ true → rises a limit (cond b (a ∷ xs) xs) ≡ true
rises-cond true a limit xs h r =
    and_from (nat_le a a) (nat_lt a limit && rises (a + 1) limit xs) (le-leb a a (omega arith)) (and_from (nat_lt a limit) (rises (a + 1) limit xs) (lt-ltb a limit h) r)
rises-cond false a limit xs h r = rises-less a (a + 1) limit xs (omega arith) r

rises-filter : (p : ℕ → Bool) (a n limit : ℕ) → a + n ≤ limit → rises a limit (filter p (range_with_len a n)) ≡ true
rises-filter p a zero limit h = refl
rises-filter p a (suc n) limit h =
    rises-cond (p a) a limit (filter p (range_with_len (a + 1) n)) (omega arith) (rises-filter p (a + 1) n limit (omega arith))

-- the frames of a set rise, and are below its limit
pub rises-frames_in : (limit : ℕ) (words : List ℕ) → rises 0 limit (frames_in limit words) ≡ true
unfolding frames_in
rises-frames_in limit words = rises-filter (bit_is words) 0 limit limit (omega arith)
