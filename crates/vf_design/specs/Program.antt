-- A design as contracts see it. These are the early designs: one process over one integer.
use Rattle.std.specs.Prelude.{◌≡◌, ℕ, ◌+◌, ◌-◌, ◌*◌, ◌/◌, ◌<◌, ◌≤◌, Bool, true, false, List, length, slice_get, IfSome}
use Rattle.vf_base.specs.declared.write.TheConstants.{PAGE_WORDS}
use Rattle.vf_design.specs.declared.layout.TheConstants.{SLOTS, SLOT_WORDS}
use Rattle.vf_design.specs.declared.code.Instr.{Instr}
use Rattle.vf_design.specs.declared.code.Instr.TheVariants.{Jump, Unless, Halt}

-- the top module's name, the integer's name, the code of the process, and how many event slots a state has
pub record Program : Type 0 where
  pub top : List ℕ
  pub variable : List ℕ
  pub code : List Instr
  pub slots : ℕ

-- each place that the instruction names is below the length
abbrev pub NamesPlacesBelow : ℕ → Instr → Type 0
NamesPlacesBelow length (Jump to) = to < length
NamesPlacesBelow length (Unless condition to) = to < length
NamesPlacesBelow length _ = Unit {0}

-- a process goes on to no next place after it
abbrev pub ends_code : Instr → Bool
ends_code Halt = true
ends_code (Jump to) = true
ends_code _ = false

-- the code may be run from its first place: each place that is reached is in it
pub record IsCode (code : List Instr) : Type 0 where
  pub some : 0 < length code
  pub most : length code ≤ 65536
  pub places : (at : ℕ) → IfSome (slice_get code at) (NamesPlacesBelow (length code))
  pub last : IfSome (slice_get code (length code - 1)) (λ instr. ends_code instr ≡ true)

-- what each design is
pub record IsWellFormed (p : Program) : Type 0 where
  pub code : IsCode p.code
  pub slots : (1 ≤ p.slots) × (p.slots ≤ 16384)

-- how many pages and words a state has: the words before the slots, those of the slots, and zeros that fill the last page
abbrev pub page_count : Program → ℕ
page_count p = (SLOTS + SLOT_WORDS * p.slots + (PAGE_WORDS - 1)) / PAGE_WORDS

abbrev pub word_count : Program → ℕ
word_count p = PAGE_WORDS * page_count p
