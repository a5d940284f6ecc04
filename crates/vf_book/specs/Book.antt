-- What contracts see of a book, and what it keeps (docs/FARM.md, "The book").
use Rattle.std.specs.Prelude.{◌≡◌, ℕ, ◌+◌, ◌<◌, ◌≤◌, ◌==◌, Bool, true, false, List, [], ◌∷◌, length, get_or, slice_set, Option, Some, None, is_some, option_map}
use Rattle.std.specs.List.{list_any}
use Rattle.vf_base.specs.declared.names.NodeNo.{NodeNo}
use Rattle.vf_base.specs.declared.run.SaveKind.{SaveKind}
use Rattle.vf_frames.specs.declared.holder.Name.{Name}
use Rattle.vf_frames.specs.declared.holder.Holder.{Holder}
use Rattle.vf_frames.specs.Numbers.{has}
use Rattle.vf_frames.specs.Calls.{capped, NoWin, NotesGrow}
use Rattle.vf_jobs.specs.Jobs.{node_no}
use Rattle.vf_jobs.specs.Setup.{Conditions}
use Rattle.vf_journal.specs.declared.entry.Entry.{Entry}
use Rattle.vf_journal.specs.declared.entry.Entry.TheVariants.{Start, Saved, Pass, End, Pages, Copy, Lost, Short, Evict, Retire, Rest}
use Rattle.vf_journal.specs.Records.{Held, image_of}
use Rattle.vf_journal.specs.Journal.{base_for, next_evicted, SavesSolo}
use Rattle.vf_records.specs.Account.{Account, farm_of, records_in, records_after, with_entry}
use Rattle.vf_image.specs.Images.{Checkpoint}

-- the setup and the journal, and for each node of the plan its image, where one is held
pub record BookView : Type 0 where
  pub account : Account
  pub images : List (Option Checkpoint)

abbrev pub image_at : List (Option Checkpoint) → ℕ → Option Checkpoint
image_at images n = get_or images n None

-- the holders of the images, in the order of their nodes
abbrev pub holders : List (Option Checkpoint) → List Holder
holders [] = []
holders (None ∷ more) = holders more
holders (Some i ∷ more) = i.pages.holder ∷ holders more

-- ---- the images are those that the records hold

-- the image is the one that the records hold, and has a frame for each of its own pages
pub record IsHeldAs (c : Conditions) (i : Checkpoint) (h : Held) : Type 0 where
  pub setup : i.setup ≡ c
  pub node : i.node ≡ h.node
  pub turn : i.header.turns ≡ h.turn
  pub base : i.base ≡ h.base
  pub pages : length i.pages.pages ≡ h.pages
  pub frames : length i.pages.holder.frames ≡ h.pages

-- an image is there exactly where the records hold one
abbrev pub Fits : Conditions → Option Checkpoint → Option Held → Type 0
Fits c None None = Unit {0}
Fits c None (Some h) = ⊥
Fits c (Some i) None = ⊥
Fits c (Some i) (Some h) = IsHeldAs c i h

-- an image is there at least where the records hold one
abbrev pub Covered : Conditions → Option Checkpoint → Option Held → Type 0
Covered c None None = Unit {0}
Covered c None (Some h) = ⊥
Covered c (Some i) None = Unit {0}
Covered c (Some i) (Some h) = IsHeldAs c i h

abbrev pub FitsAt : Account → List (Option Checkpoint) → ℕ → Type 0
FitsAt a images n = Fits a.setup (image_at images n) (image_of (records_in a) (node_no n))

abbrev pub CoveredAt : Account → List (Option Checkpoint) → ℕ → Type 0
CoveredAt a images n = Covered a.setup (image_at images n) (image_of (records_in a) (node_no n))

-- there is a place for each node of the plan, and in it the image that the records hold
pub record IsBook (b : BookView) : Type 0 where
  pub long : length b.images ≡ length b.account.setup.plan
  pub held : (n : ℕ) → FitsAt b.account b.images n

-- and perhaps some image that they do not hold any more
pub record Covers (a : Account) (images : List (Option Checkpoint)) : Type 0 where
  pub long : length images ≡ length a.setup.plan
  pub held : (n : ℕ) → CoveredAt a images n

-- ---- images that were retired

-- the node whose image an entry retires
abbrev pub retired_by : Entry → Option NodeNo
retired_by (Start job origin) = None
retired_by (Saved node turn pages base) = None
retired_by (Pass node turn) = None
retired_by (End job turn) = None
retired_by (Pages job turn pages) = None
retired_by (Copy job node) = None
retired_by (Lost job turn) = None
retired_by (Short job turn) = None
retired_by (Evict node) = None
retired_by (Retire node) = Some node
retired_by Rest = None

abbrev pub retired_in : Option Entry → Option NodeNo
retired_in None = None
retired_in (Some e) = retired_by e

abbrev pub is_node : ℕ → Option NodeNo → Bool
is_node n None = false
is_node n (Some node) = node.0 == n

abbrev pub retires : ℕ → Entry → Bool
retires n e = is_node n (retired_by e)

-- the images without that of a node
abbrev pub without : Option NodeNo → List (Option Checkpoint) → List (Option Checkpoint)
without None images = images
without (Some node) images = slice_set images node.0 None

-- the images are those that the records hold, and those that these entries retire
pub record Lags (a : Account) (images : List (Option Checkpoint)) (entries : List Entry) : Type 0 where
  pub covers : Covers a images
  pub retired : (n : ℕ) → image_of (records_in a) (node_no n) ≡ None → is_some (image_at images n) ≡ true → list_any (retires n) entries ≡ true
  pub gone : (n : ℕ) → list_any (retires n) entries ≡ true → (n < length a.setup.plan) × (image_of (records_in a) (node_no n) ≡ None)

-- ---- the pool

-- a holder of the pool that has one of its parts
pub record IsOf (pool : Name) (h : Holder) : Type 0 where
  pub name : h.name ≡ pool
  pub parts : h.parts ≡ 1

-- the images are of the pool
abbrev pub AreOf : Name → List (Option Checkpoint) → Type 0
AreOf pool images = (n : ℕ) (i : Checkpoint) → image_at images n ≡ Some i → IsOf pool i.pages.holder

-- the pool serves the book: it has as many frames as a run may touch pages, and hand and images are of it
pub record Serves (pool : Name) (b : BookView) (h : Holder) : Type 0 where
  pub frames : pool.frames ≡ b.account.setup.budget
  pub hand : h.name ≡ pool
  pub images : AreOf pool b.images

-- The hand has the frames that it had, and parts and misses of what was given back.
pub record HandKept (before after : Holder) : Type 0 where
  pub frames : (f : ℕ) → has f after.frames ≡ has f before.frames
  pub misses : capped before.misses ≤ after.misses
  pub parts : capped before.parts ≤ after.parts
  pub name : after.name ≡ before.name
  pub notes : NotesGrow (λ _. Unit {0}) before.notes after.notes

-- The hand has given one of its parts to a new holder of the pool.
pub record HandLent (pool : Name) (before after fresh : Holder) : Type 0 where
  pub frames : after.frames ≡ before.frames
  pub misses : after.misses ≡ before.misses
  pub parts : after.parts + 1 ≡ before.parts
  pub name : after.name ≡ before.name
  pub notes : NotesGrow NoWin before.notes after.notes
  pub new : IsOf pool fresh

-- ---- entries

-- the journal has the entry more, with what follows from it
pub record Appends (e : Entry) (before after : Account) : Type 0 where
  pub account : after ≡ with_entry e before
  pub records : records_in after ≡ records_after e before

-- the image that the order chooses was given back
pub record Evicts (before after : Account) : Type 0 where
  pub node : NodeNo
  pub chosen : option_map (λ (h : Held). h.node) (next_evicted (farm_of before.setup) (records_in before)) ≡ Some node
  pub entry : Appends (Evict node) before after

-- the node's image was kept, over the base that it must have
pub record Saves (before after : Account) (node : NodeNo) (turn : ℕ) (kind : SaveKind) : Type 0 where
  pub pages : ℕ
  pub base : Option NodeNo
  pub based : base ≡ option_map (λ (h : Held). h.node) (base_for (records_in before) node kind)
  pub solo : SavesSolo (farm_of before.setup) (records_in before) node turn pages base
  pub entry : Appends (Saved node turn pages base) before after
