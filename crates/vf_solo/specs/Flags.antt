-- One flag for each page, set once the page is touched.
use Rattle.std.specs.Prelude.{ℕ, ◌/◌, Bool, true, false, List, [], ◌∷◌, length, slice_index_or, slice_set}
use Rattle.vf_base.specs.declared.write.TheConstants.{PAGE_WORDS}
use Rattle.vf_base.specs.declared.write.Write.{Write}
use Rattle.vf_machine.specs.Search.{count_below}

-- whether the page's flag is set
abbrev pub flag_at : List Bool → ℕ → Bool
flag_at flags page = slice_index_or flags page false

-- how many flags are set
abbrev pub flags_set : List Bool → ℕ
flags_set flags = count_below (flag_at flags) (length flags)

-- the flags after the pages of the writes are set too
abbrev pub marked : List Bool → List Write → List Bool
marked flags [] = flags
marked flags (write ∷ more) = marked (slice_set flags (write.at / PAGE_WORDS) true) more
