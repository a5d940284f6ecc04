-- Pages over those of a base (docs/FARM.md, "Pages").
use Rattle.std.specs.Prelude.{◌≡◌, ℕ, zero, suc, ◌≤◌, Bool, true, false, ◌&&◌, ◌==◌, not, List, filter, slice_index, slice_index_or, cond, Option, Some, None}
use Rattle.vf_pages.specs.Pages.{Page, entry, occurs, frames_in}

-- whether two pages have the same words at each index below n
unfoldable pub same_below : List ℕ → List ℕ → ℕ → Bool
same_below words other zero = true
same_below words other (suc n) = same_below words other n && (slice_index words n == slice_index other n)

-- the same 64 words stand in the page that the base has, if it has one
abbrev pub has_words : Option Page → List ℕ → Bool
has_words None words = false
has_words (Some b) words = same_below words b.words 64

-- the base has the page, with the same words
abbrev pub is_in_base : List Page → Page → Bool
is_in_base base e = has_words (entry e.page base) e.words

-- what is left of a page
abbrev pub left_of : List Page → Option Page → Option Page
left_of base None = None
left_of base (Some e) = cond (is_in_base base e) None (Some e)

-- the pages that the base lacks, or has with other words
abbrev pub changed_from : List Page → List Page → List Page
changed_from base es = filter (λ e. not (is_in_base base e)) es

-- the mark of a frame, none past the last
abbrev pub is_marked : List Bool → ℕ → Bool
is_marked marks f = slice_index_or marks f false

-- each frame of the pages is marked
abbrev pub AreMarked : List Page → List Bool → Type 0
AreMarked pages marks = (f : ℕ) → 1 ≤ occurs f (frames_in pages) → is_marked marks f ≡ true

-- the pages have no frame in common
abbrev pub AreApart : List Page → List Page → Type 0
AreApart pages others = (f : ℕ) → 1 ≤ occurs f (frames_in pages) → occurs f (frames_in others) ≡ 0
