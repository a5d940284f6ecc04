-- Worked values of single rules, found by hand. A value stands as its bits from the top, as they are written.
use Rattle.std.specs.Prelude.{◌≡◌, ℕ, ◌-◌, ◌+◌, ◌*◌, ◌^◌, true, false, List, [], ◌∷◌, ◌++◌, reverse, replicate, map, Option, Some, None, ℤ, pos, negsuc}
use Rattle.std.specs.List.{flat_map}
use Rattle.vf_fours.specs.declared.Bit.{Bit}
use Rattle.vf_fours.specs.declared.Bit.TheVariants.{Zero, One, X, Z}
use Rattle.vf_fours.specs.Bits.{FourState}
use Rattle.vf_fours.specs.Numbers.{digits_of}
use Rattle.vf_elaborated.specs.declared.code.MatchKind.TheVariants.{Case, Casez, Casex}
use Rattle.vf_elaborated.specs.Values.{delay_of, rounds_of, is_stimulus, is_match, is_true, past_end_of, element_of, low_of, picked_of}
use Rattle.vf_scheduler.specs.State.{Update, Item, of_process, of_slot}
use Rattle.vf_scheduler.specs.Updating.{rises, falls, overwritten}
use Rattle.vf_scheduler.specs.Assigning.{inner_bits, inner_low, some_update}
use Rattle.vf_scheduler.specs.Driving.{spread}
use Rattle.vf_scheduler.specs.Posting.{put_by_time, is_too_late}
use Rattle.vf_scheduler_tests.specs.Writing.{memory}

-- bits from the top; unsigned and signed
abbrev pub u : List Bit → FourState
u bits = record { bits = reverse bits; signed = false }

abbrev pub s : List Bit → FourState
s bits = record { bits = reverse bits; signed = true }

-- a number of a width
abbrev pub un : ℕ → ℕ → FourState
un width n = record { bits = digits_of width n; signed = false }

abbrev pub sn : ℕ → ℕ → FourState
sn width n = record { bits = digits_of width n; signed = true }

-- An x or z makes a delay 0, wherever it stands; a signed value is extended; 64 bits count, and are unsigned.
abbrev pub DelaysAre : Type 0
DelaysAre =
    map delay_of (u (One ∷ Zero ∷ X ∷ One ∷ []) ∷ u (Z ∷ One ∷ []) ∷ u (One ∷ One ∷ One ∷ One ∷ []) ∷ s (One ∷ One ∷ One ∷ One ∷ []) ∷ s (Zero ∷ One ∷ []) ∷ sn 64 (2 ^ 64 - 2)
    ∷ un 65 (2 ^ 64 + 5) ∷ sn 65 (2 ^ 64 + 3) ∷ u (X ∷ replicate 64 One) ∷ [])
    ≡ 0 ∷ 0 ∷ 15 ∷ (2 ^ 64 - 1) ∷ 1 ∷ (2 ^ 64 - 2) ∷ 5 ∷ 3 ∷ 0 ∷ []

-- A number of rounds that has an x or z, or is below 0, is none.
abbrev pub RoundsAre : Type 0
RoundsAre =
    map rounds_of (u (One ∷ X ∷ []) ∷ u (Z ∷ []) ∷ u (One ∷ One ∷ One ∷ One ∷ []) ∷ s (One ∷ One ∷ One ∷ One ∷ []) ∷ s (Zero ∷ One ∷ One ∷ []) ∷ un 65 (2 ^ 64 + 7)
    ∷ sn 65 (2 ^ 64 + 7) ∷ sn 64 (2 ^ 63) ∷ sn 64 (2 ^ 63 - 1) ∷ [])
    ≡ 0 ∷ 0 ∷ 15 ∷ 0 ∷ 3 ∷ 7 ∷ 0 ∷ 0 ∷ (2 ^ 63 - 1) ∷ []

-- A descriptor is extended by its own mark, or cut, to 32 bits.
abbrev pub DescriptorsAre : Type 0
DescriptorsAre =
    map is_stimulus (un 32 (2 ^ 31) ∷ sn 32 (2 ^ 31) ∷ un 33 (2 ^ 32 + 2 ^ 31) ∷ un 31 (2 ^ 30) ∷ un 32 1 ∷ u (One ∷ X ∷ replicate 30 Zero) ∷ u (One ∷ Z ∷ replicate 30 Zero)
    ∷ u (X ∷ One ∷ replicate 31 Zero) ∷ [])
    ≡ true ∷ true ∷ true ∷ false ∷ false ∷ false ∷ false ∷ true ∷ []

-- `$feof` before and after a read past the end: of the stimulus, of another descriptor, of one with an x
abbrev pub PastEndsAre : Type 0
PastEndsAre =
    map (past_end_of false) (un 32 (2 ^ 31) ∷ un 32 7 ∷ u (X ∷ replicate 31 Zero) ∷ []) ++ map (past_end_of true) (un 32 (2 ^ 31) ∷ un 32 7 ∷ [])
    ≡ sn 32 0 ∷ sn 32 1 ∷ sn 32 1 ∷ sn 32 1 ∷ sn 32 1 ∷ []

abbrev pub four : List Bit
four = Zero ∷ One ∷ X ∷ Z ∷ []

-- From 0, 1, x and z to 0, 1, x and z.
abbrev pub EdgesAre : Type 0
EdgesAre =
    (flat_map (λ old. map (rises old) four) four
    ≡ false ∷ true ∷ true ∷ true ∷ false ∷ false ∷ false ∷ false ∷ false ∷ true ∷ false ∷ false ∷ false ∷ true ∷ false ∷ false ∷ [])
    × (flat_map (λ old. map (falls old) four) four
    ≡ false ∷ false ∷ false ∷ false ∷ true ∷ false ∷ true ∷ true ∷ true ∷ false ∷ false ∷ false ∷ true ∷ false ∷ false ∷ false ∷ [])

-- The kinds of case on each pair of bits: only equal bits; a z on a side; an x or z on a side.
abbrev pub MatchesAre : Type 0
MatchesAre =
    (flat_map (λ a. map (λ b. is_match Case (u (a ∷ [])) (u (b ∷ []))) four) four
    ≡ true ∷ false ∷ false ∷ false ∷ false ∷ true ∷ false ∷ false ∷ false ∷ false ∷ true ∷ false ∷ false ∷ false ∷ false ∷ true ∷ [])
    × (flat_map (λ a. map (λ b. is_match Casez (u (a ∷ [])) (u (b ∷ []))) four) four
    ≡ true ∷ false ∷ false ∷ true ∷ false ∷ true ∷ false ∷ true ∷ false ∷ false ∷ true ∷ true ∷ true ∷ true ∷ true ∷ true ∷ [])
    × (flat_map (λ a. map (λ b. is_match Casex (u (a ∷ [])) (u (b ∷ []))) four) four
    ≡ true ∷ false ∷ true ∷ true ∷ false ∷ true ∷ true ∷ true ∷ true ∷ true ∷ true ∷ true ∷ true ∷ true ∷ true ∷ true ∷ [])

-- A condition is true where a bit is 1, and not where its truth is x.
abbrev pub TruthsAre : Type 0
TruthsAre =
    map is_true (u (Zero ∷ Zero ∷ []) ∷ u (X ∷ Zero ∷ []) ∷ u (X ∷ One ∷ []) ∷ u (Z ∷ []) ∷ u (Z ∷ One ∷ Zero ∷ []) ∷ []) ≡ false ∷ false ∷ true ∷ false ∷ true ∷ []

-- An unknown choice keeps what both arms agree on; a known one keeps a z of its arm.
abbrev pub ChoicesAre : Type 0
ChoicesAre =
    (picked_of X (u (Zero ∷ One ∷ One ∷ Z ∷ [])) (u (Zero ∷ One ∷ Zero ∷ Z ∷ [])) ≡ u (Zero ∷ One ∷ X ∷ X ∷ []))
    × (picked_of One (u (Z ∷ X ∷ [])) (u (One ∷ One ∷ [])) ≡ u (Z ∷ X ∷ []))
    × (picked_of Zero (u (One ∷ One ∷ [])) (u (Z ∷ X ∷ [])) ≡ u (Z ∷ X ∷ []))

-- A memory of the addresses 3 to 6: below, first, last, above, an address with an x, and one of -1.
abbrev pub ElementsAre : Type 0
ElementsAre =
    map (λ a. element_of (record (memory [] 8 4) { first = pos 3 }) (Some a)) (un 4 2 ∷ un 4 3 ∷ un 4 6 ∷ un 4 7 ∷ u (X ∷ One ∷ One ∷ []) ∷ sn 4 15 ∷ [])
    ≡ None ∷ Some 0 ∷ Some 3 ∷ None ∷ None ∷ None ∷ []

-- The least bit of a select on [7:0], on [0:7] and on [-1:2], and at an index with a z.
abbrev pub LowsAre : Type 0
LowsAre =
    low_of (pos 1) (pos 0) (un 4 5) ∷ low_of (negsuc 0) (pos 7) (un 4 5) ∷ low_of (negsuc 0) (pos 2) (sn 4 15) ∷ low_of (pos 1) (pos 0) (u (Z ∷ One ∷ [])) ∷ low_of (pos 1) (pos 0) (sn 4 15) ∷ []
    ≡ Some (pos 5) ∷ Some (pos 2) ∷ Some (pos 3) ∷ None ∷ Some (negsuc 0) ∷ []

-- three bits, from the top 0, 1 and z, put into a signal of four bits at places from -3 to 4
abbrev pub put : ℤ → Option Update
put low = some_update 9 0 (inner_low low) (inner_bits 4 low (Z ∷ One ∷ Zero ∷ []))

abbrev pub at : ℕ → List Bit → Option Update
at low bits = Some (record { sig = 9; element = 0; low = low; bits = bits })

-- Only the inner bits are put there.
abbrev pub PartsAre : Type 0
PartsAre =
    map put (negsuc 2 ∷ negsuc 1 ∷ negsuc 0 ∷ pos 0 ∷ pos 1 ∷ pos 2 ∷ pos 3 ∷ pos 4 ∷ [])
    ≡ None ∷ at 0 (Zero ∷ []) ∷ at 0 (One ∷ Zero ∷ []) ∷ at 0 (Z ∷ One ∷ Zero ∷ []) ∷ at 1 (Z ∷ One ∷ Zero ∷ []) ∷ at 2 (Z ∷ One ∷ []) ∷ at 3 (Z ∷ []) ∷ None ∷ []

-- Bits in place of others keep those around them.
abbrev pub OverwritesAre : Type 0
OverwritesAre = overwritten (Zero ∷ Zero ∷ Zero ∷ Zero ∷ []) 1 (One ∷ X ∷ []) ≡ Zero ∷ One ∷ X ∷ Zero ∷ []

-- What a driver of two bits drives on a net of four: in part, partly outside, and nothing.
abbrev pub SpreadsAre : Type 0
SpreadsAre =
    spread 4 (Some (pos 1)) (One ∷ Zero ∷ []) ∷ spread 4 (Some (pos 3)) (One ∷ Zero ∷ []) ∷ spread 4 (Some (negsuc 0)) (One ∷ Zero ∷ []) ∷ spread 4 None (One ∷ Zero ∷ []) ∷ []
    ≡ (Z ∷ One ∷ Zero ∷ Z ∷ []) ∷ (Z ∷ Z ∷ Z ∷ One ∷ []) ∷ (Zero ∷ Z ∷ Z ∷ Z ∷ []) ∷ (Z ∷ Z ∷ Z ∷ Z ∷ []) ∷ []

-- the time of process p is 10 times p
abbrev pub tens : Item → ℕ
tens (of_process p) = 10 * p
tens (of_slot q) = 20

-- Among events of 10, 20 and 30, one of 20 comes after those of 20, one of 5 first, and one of 99 last.
abbrev pub FuturesAre : Type 0
FuturesAre =
    (put_by_time tens 20 (of_slot 7) (of_process 1 ∷ of_process 2 ∷ of_slot 4 ∷ of_process 3 ∷ [])
    ≡ of_process 1 ∷ of_process 2 ∷ of_slot 4 ∷ of_slot 7 ∷ of_process 3 ∷ [])
    × (put_by_time tens 5 (of_slot 7) (of_process 1 ∷ of_process 2 ∷ []) ≡ of_slot 7 ∷ of_process 1 ∷ of_process 2 ∷ [])
    × (put_by_time tens 99 (of_slot 7) (of_process 1 ∷ of_process 2 ∷ []) ≡ of_process 1 ∷ of_process 2 ∷ of_slot 7 ∷ [])

-- The last time is 2^64 - 1.
abbrev pub LatesAre : Type 0
LatesAre = (is_too_late (2 ^ 64 - 1) ≡ false) × (is_too_late (2 ^ 64) ≡ true)

-- all of them
pub record CasesAre : Type 0 where
  pub delays : DelaysAre
  pub rounds : RoundsAre
  pub descriptors : DescriptorsAre
  pub past_ends : PastEndsAre
  pub edges : EdgesAre
  pub matches : MatchesAre
  pub truths : TruthsAre
  pub choices : ChoicesAre
  pub elements : ElementsAre
  pub lows : LowsAre
  pub parts : PartsAre
  pub overwrites : OverwritesAre
  pub spreads : SpreadsAre
  pub futures : FuturesAre
  pub lates : LatesAre
