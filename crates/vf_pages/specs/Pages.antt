-- Pages of words, and what a holder's list of them means (docs/FARM.md, "Pages").
use Rattle.std.specs.Prelude.{◌≡◌, ℕ, ◌+◌, ◌*◌, ◌/◌, ◌%◌, ◌^◌, ◌<◌, ◌≤◌, true, false, cond, ◌==◌, List, [], ◌∷◌, map, length, slice_index, slice_get, Option, Some, None}
use Rattle.std.specs.List.{range_with_len}
use Rattle.vf_frames.specs.declared.holder.Holder.{Holder}
use Rattle.vf_frames.specs.Numbers.{has, rises}

-- a page that a holder has: its number, its frame and its 64 words
pub record Page : Type 0 where
  pub page : ℕ
  pub frame : ℕ
  pub words : List ℕ

-- what contracts see of a holder's pages: the words at time zero, the pages by rising number, the token
pub record Pages : Type 0 where
  pub zero : List ℕ
  pub pages : List Page
  pub holder : Holder

abbrev pub page_number : Page → ℕ
page_number e = e.page

abbrev pub frame_number : Page → ℕ
frame_number e = e.frame

abbrev pub pages_in : List Page → List ℕ
pages_in es = map page_number es

abbrev pub frames_in : List Page → List ℕ
frames_in es = map frame_number es

-- the page with the number p
abbrev pub entry : ℕ → List Page → Option Page
entry p [] = None
entry p (e ∷ es) = cond (p == e.page) (Some e) (entry p es)

-- the words of page p at time zero, 0 past the last word
abbrev pub zero_page : List ℕ → ℕ → List ℕ
zero_page zero p = map (λ i. slice_index zero (64 * p + i)) (range_with_len 0 64)

-- the word at an address: that of its page, or where the page is not held the one at time zero
abbrev pub word_or : List ℕ → ℕ → Option Page → ℕ
word_or zero a None = slice_index zero a
word_or zero a (Some e) = slice_index e.words (a % 64)

abbrev pub word_at : List ℕ → List Page → ℕ → ℕ
word_at zero pages a = word_or zero a (entry (a / 64) pages)

-- the word at an address of what contracts see
abbrev pub word_of : Pages → ℕ → ℕ
word_of m a = word_at m.zero m.pages a

-- the frame of page p, where it is held
abbrev pub frame_of : Option Page → Option ℕ
frame_of None = None
frame_of (Some e) = Some e.frame

abbrev pub frame_at : ℕ → List Page → Option ℕ
frame_at p pages = frame_of (entry p pages)

-- how often a number stands in a list
abbrev pub occurs : ℕ → List ℕ → ℕ
occurs f [] = 0
occurs f (x ∷ xs) = cond (f == x) 1 0 + occurs f xs

-- each frame of the holder's list has one page, and no other frame has a page
abbrev pub IsHeld : List Page → List ℕ → Type 0
IsHeld pages frames = (f : ℕ) → occurs f (frames_in pages) ≡ cond (has f frames) 1 0

-- more pages than addresses of 32 bits have
abbrev pub page_limit : ℕ
page_limit = 2 ^ 26

-- page numbers rise
abbrev pub IsSorted : List Page → Type 0
IsSorted pages = rises 0 page_limit (pages_in pages) ≡ true

-- the words of page p, held or not
abbrev pub old_words : List ℕ → ℕ → Option Page → List ℕ
old_words zero p None = zero_page zero p
old_words zero p (Some e) = e.words

-- a page found first in one list and then in another
abbrev pub or_entry : Option Page → Option Page → Option Page
or_entry None o = o
or_entry (Some e) o = Some e

-- the holder's list has each frame of two lists of pages once, and no other frame
abbrev pub Owns : List Page → List Page → List ℕ → Type 0
Owns pages fresh frames = (f : ℕ) → occurs f (frames_in pages) + occurs f (frames_in fresh) ≡ cond (has f frames) 1 0

-- page p stands at index i
pub record IsPlace (p : ℕ) (pages : List Page) (i : ℕ) : Type 0 where
  pub within : i < length pages
  pub number : slice_index (pages_in pages) i ≡ p

-- page p would stand at index i, and is not held
pub record IsGap (p : ℕ) (pages : List Page) (i : ℕ) : Type 0 where
  pub within : i ≤ length pages
  pub below : (k : ℕ) → k < i → slice_index (pages_in pages) k < p
  pub above : (k : ℕ) → i ≤ k → k < length pages → p < slice_index (pages_in pages) k

-- the list has the frame of each of these pages, which are all different
abbrev pub Covers : List Page → List ℕ → Type 0
Covers pages frames = (f : ℕ) → occurs f (frames_in pages) ≤ cond (has f frames) 1 0

-- the frames of these pages leave the list
abbrev pub Gives : List Page → List ℕ → List ℕ → Type 0
Gives pages before after = (f : ℕ) → cond (has f after) 1 0 + occurs f (frames_in pages) ≡ cond (has f before) 1 0

-- the list has the frame of none of these pages
abbrev pub IsApart : List Page → List ℕ → Type 0
IsApart pages frames = (f : ℕ) → 1 ≤ occurs f (frames_in pages) → has f frames ≡ false

-- the frames of these pages come into the list
abbrev pub Takes : List Page → List ℕ → List ℕ → Type 0
Takes pages before after = (f : ℕ) → cond (has f after) 1 0 ≡ cond (has f before) 1 0 + occurs f (frames_in pages)

-- the page at an index has this number and these words
pub record IsPageAt (pages : List Page) (i number : ℕ) (words : List ℕ) : Type 0 where
  pub there : Page
  pub is : slice_get pages i ≡ Some there
  pub number_is : number ≡ there.page
  pub words_are : words ≡ there.words
