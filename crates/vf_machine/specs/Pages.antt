-- The pages of a state's words, and which of them a run has touched.
use Rattle.std.specs.Prelude.{ℕ, zero, suc, ◌+◌, ◌-◌, ◌*◌, ◌/◌, Bool, false, not, ◌||◌, ◌==◌, List, length, slice_index}
use Rattle.vf_base.specs.declared.run.Limits.{Limits}
use Rattle.vf_base.specs.declared.write.TheConstants.{PAGE_WORDS}
use Rattle.vf_machine.specs.Machine.{Machine}
use Rattle.vf_machine.specs.Run.{words_at}
use Rattle.vf_machine.specs.Search.{any_below, count_below}

-- how many pages the words fill; the last one may be filled in part
abbrev pub page_count : List ℕ → ℕ
page_count words = (length words + (PAGE_WORDS - 1)) / PAGE_WORDS

-- whether some word of the page differs
abbrev pub page_differs : List ℕ → List ℕ → ℕ → Bool
page_differs before after page =
    any_below (λ at. not (slice_index before (PAGE_WORDS * page + at) == slice_index after (PAGE_WORDS * page + at))) PAGE_WORDS

-- whether one of the first k turns changed a word of the page
unfoldable pub is_touched : {S : Type 0} → Machine S → List ℕ → Limits → ℕ → ℕ → Bool
is_touched m stim limits zero page = false
is_touched m stim limits (suc k) page =
    is_touched m stim limits k page || page_differs (words_at m stim limits k) (words_at m stim limits (suc k)) page

-- how many pages the first k turns touched
abbrev pub pages_touched : {S : Type 0} → Machine S → List ℕ → Limits → ℕ → ℕ
pages_touched m stim limits k = count_below (is_touched m stim limits k) (page_count (m.words m.start))
