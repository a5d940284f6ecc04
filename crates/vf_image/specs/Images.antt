-- What contracts see of an image: a checkpoint that is held (docs/FARM.md, "Simulators and images").
use Rattle.std.specs.Prelude.{◌≡◌, ◌≢◌, ℕ, ◌<◌, ◌/◌, ◌%◌, ◌||◌, ◌&&◌, Bool, not, true, List, [], ◌∷◌, length, slice_index, Option, Some, None, is_some}
use Rattle.vf_base.specs.declared.names.Job.{Job}
use Rattle.vf_base.specs.declared.names.Job.TheVariants.{Reach}
use Rattle.vf_base.specs.declared.names.NodeNo.{NodeNo}
use Rattle.vf_base.specs.declared.run.Header.{Header}
use Rattle.vf_base.specs.declared.run.Limits.{Limits}
use Rattle.vf_base.specs.declared.run.SaveKind.{SaveKind}
use Rattle.vf_design.specs.Program.{word_count}
use Rattle.vf_design.specs.Words.{machine_of}
use Rattle.vf_machine.specs.Search.{count_below}
use Rattle.vf_machine.specs.Pages.{page_count, page_differs}
use Rattle.vf_jobs.specs.Jobs.{node_of, fits}
use Rattle.vf_jobs.specs.Subtree.{is_below}
use Rattle.vf_jobs.specs.Setup.{Conditions, IsSetup, words_at_start}
use Rattle.vf_frames.specs.declared.holder.Holder.{Holder}
use Rattle.vf_pages.specs.Pages.{Page, Pages, entry}
use Rattle.vf_pages.specs.Calls.{Forked, ForkedOver}
use Rattle.vf_image.specs.Runs.{IsSavedAt, limits_for, moment_in, last_save, words_in, touches, touched_in, AreSound, IsRunAt, Stands}

pub record Checkpoint : Type 0 where
  pub setup : Conditions
  pub node : NodeNo
  -- the node whose image has the pages that this one lacks
  pub base : Option NodeNo
  pub header : Header
  pub text : List ℕ
  -- the kind of checkpoint
  pub saved : Option SaveKind
  -- the image's own pages
  pub pages : Pages

-- the base's run has touched the page, and has the same words on it
abbrev pub is_same_in : Conditions → NodeNo → NodeNo → ℕ → ℕ → ℕ → Bool
is_same_in c node base since t page =
    touches c (Reach base) since page && not (page_differs (words_in c (Reach base) since) (words_in c (Reach node) t) page)

-- a page of an image over a base: touched by its run, unless it is the same in the base
abbrev pub is_own : Conditions → NodeNo → NodeNo → ℕ → ℕ → ℕ → Bool
is_own c node base since t page = touches c (Reach node) t page && not (is_same_in c node base since t page)

-- how many pages these are
abbrev pub own_over : Conditions → NodeNo → NodeNo → ℕ → ℕ → ℕ
own_over c node base since t = count_below (is_own c node base since t) (page_count (words_at_start (machine_of c.design)))

-- Pages over those of a base, whose save point is turn `since` of its own run: each own page has the words of turn t, and every other
-- page has the same words in both.
pub record StandsOver (c : Conditions) (node base : NodeNo) (since t : ℕ) (pages : Pages) : Type 0 where
  pub zero : pages.zero ≡ c.zero
  pub own : (at : ℕ) (e : Page) → at < word_count c.design → entry (at / 64) pages.pages ≡ Some e
      → slice_index e.words (at % 64) ≡ slice_index (words_in c (Reach node) t) at
  pub others : (at : ℕ) → at < word_count c.design → entry (at / 64) pages.pages ≡ None
      → slice_index (words_in c (Reach base) since) at ≡ slice_index (words_in c (Reach node) t) at
  pub touched : (page : ℕ) → (is_some (entry page pages.pages) || touches c (Reach base) since page) ≡ touches c (Reach node) t page
  pub exact : (page : ℕ) → is_some (entry page pages.pages) ≡ is_own c node base since t page

-- A base is the save point of a node above, at an earlier turn, and fits whatever limits the later save point fits.
pub record IsBase (c : Conditions) (node base : NodeNo) (since t : ℕ) : Type 0 where
  pub above : is_below c.plan base.0 node.0 ≡ true
  pub proper : base.0 ≢ node.0
  pub saved : IsSavedAt c base since
  pub earlier : since < t
  pub serves : (limits : Limits) → fits limits (moment_in c (Reach node) t).header ≡ true → fits limits (moment_in c (Reach base) since).header ≡ true

-- the words at the save point, by themselves, or over those of a base, which are at the save point of its own node
pub data IsHeldBy (i : Checkpoint) : Type 0 where
  full : i.base ≡ None → Stands i.setup (Reach i.node) i.header.turns i.pages → IsHeldBy i
  over : (base : NodeNo) (since : ℕ) → i.base ≡ Some base → IsBase i.setup i.node base since i.header.turns
      → StandsOver i.setup i.node base since i.header.turns i.pages → IsHeldBy i

-- an image is the save point of its node: words, header and all bytes written
pub record IsImage (i : Checkpoint) : Type 0 where
  pub setup : IsSetup i.setup
  pub node : i.node.0 < length i.setup.plan
  pub at_save : IsSavedAt i.setup i.node i.header.turns
  pub saved : i.saved ≡ last_save i.setup (Reach i.node) i.header.turns
  pub sound : AreSound i.setup (Reach i.node) i.header.turns
  pub run : IsRunAt i.setup (Reach i.node) i.header.turns i.header i.text
  pub held : IsHeldBy i

-- how many pages an image has of its own: as many as its run has touched, or over a base those that are not the same there
abbrev pub IsOwnCount : Checkpoint → Option NodeNo → ℕ → Type 0
IsOwnCount i None n = n ≡ touched_in i.setup (Reach i.node) i.header.turns
IsOwnCount i (Some base) n = (since : ℕ) → IsSavedAt i.setup base since → n ≡ own_over i.setup i.node base since i.header.turns

-- the image serves the job: it stands on the way to the job's node, and its counts fit the job's limits
pub record Serves (i : Checkpoint) (job : Job) : Type 0 where
  pub below : is_below i.setup.plan i.node.0 (node_of job) ≡ true
  pub within : fits (limits_for i.setup job) i.header ≡ true

-- a full image that has the pages which the image lacks
pub record IsBaseOf (i base : Checkpoint) : Type 0 where
  pub named : i.base ≡ Some base.node
  pub full : base.base ≡ None
  pub setup : base.setup ≡ i.setup

-- the base is there exactly where the image names one
abbrev pub HasBase : Checkpoint → Option Checkpoint → Type 0
HasBase i None = i.base ≡ None
HasBase i (Some base) = IsBaseOf i base

abbrev pub base_holders : Option Checkpoint → List Holder
base_holders None = []
base_holders (Some base) = base.pages.holder ∷ []

-- the pages are those of the image, over those of the base if there is one, and have one of the parts of the holder that went from one
-- to the other
abbrev pub ForkedFrom : Checkpoint → Option Checkpoint → Holder → Holder → Pages → Type 0
ForkedFrom i None from from' new = Forked i.pages from from' new
ForkedFrom i (Some base) from from' new = ForkedOver i.pages base.pages from from' new
