-- The table of places of the pages held, and the pages whose words are at hand to be written (docs/FARM.md, "Pages").
use Rattle.std.specs.Prelude.{◌≡◌, ◌≢◌, ℕ, ◌+◌, ◌<◌, true, List, length, slice_index, slice_get, Some, None}
use Rattle.vf_pages.specs.declared.held.Held.{Held}
use Rattle.vf_pages.specs.Pages.{Page, IsPlace, entry}
use Rattle.vf_pages.specs.Contents.{is_taken}

-- a table tells of each page its place in the list, from 1 on, and 0 where it is not held
pub record IsTable (places : List ℕ) (pages : List Page) : Type 0 where
  pub finds : (p i : ℕ) → slice_index places p ≡ i + 1 → IsPlace p pages i
  pub all : (p i : ℕ) → IsPlace p pages i → (p < length places) × (slice_index places p ≡ i + 1)

-- the words of page p are taken out, where it is held and has no fresh one
abbrev pub AtHand : List Held → List Page → ℕ → Type 0
AtHand held fresh p = (i : ℕ) (h : Held) → slice_get held i ≡ Some h → h.page.0 ≡ p → entry p fresh ≡ None → is_taken h.content ≡ true

-- the words of the page at an index are taken out, and the other pages are as before
abbrev pub TakenAt : ℕ → List Held → List Held → Type 0
TakenAt place before after = (i : ℕ) (h : Held) → slice_get after i ≡ Some h → (i ≡ place → is_taken h.content ≡ true) × (i ≢ place → slice_get before i ≡ Some h)

-- what is at hand for page p is at hand, and so is what was
pub record TakesPage (p : ℕ) (before : List Held) (fresh : List Page) (after : List Held) (fresh' : List Page) : Type 0 where
  pub here : AtHand after fresh' p
  pub still : (q : ℕ) → AtHand before fresh q → AtHand after fresh' q
