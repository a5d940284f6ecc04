-- How a simulator goes on from an image of a book.
use Rattle.std.specs.Prelude.{◌≡◌, ◌≢◌, ℕ, ◌<◌, true, false, List, length, is_some, Option, Some, None}
use Rattle.vf_base.specs.declared.names.Job.{Job}
use Rattle.vf_base.specs.declared.names.NodeNo.{NodeNo}
use Rattle.vf_jobs.specs.Jobs.{node_of}
use Rattle.vf_jobs.specs.Setup.{Conditions}
use Rattle.vf_image.specs.Images.{Checkpoint, Serves, IsImage, IsBaseOf}
use Rattle.vf_image.specs.Simulators.{Simulator}
use Rattle.vf_book.specs.Book.{image_at}

-- the image of a base
abbrev pub base_in : List (Option Checkpoint) → Option NodeNo → Option Checkpoint
base_in images None = None
base_in images (Some b) = image_at images b.0

-- the base that an image names is there, in another place
abbrev pub HasBaseIn : List (Option Checkpoint) → Checkpoint → Option NodeNo → Type 0
HasBaseIn images i None = Unit {0}
HasBaseIn images i (Some b) =
    (base : Checkpoint) × (image_at images b.0 ≡ Some base) × (b.0 < length images) × IsBaseOf i base × (b.0 ≢ i.node.0)

-- the image is there, serves the job, and has its base
pub record IsSource (images : List (Option Checkpoint)) (node : NodeNo) (j : Job) (i : Checkpoint) : Type 0 where
  pub inside : node.0 < length images
  pub there : image_at images node.0 ≡ Some i
  pub named : i.node ≡ node
  pub job : node_of j < length i.setup.plan
  pub serves : Serves i j
  pub base : HasBaseIn images i i.base

-- where the job starts from an image, it is there
abbrev pub HasSource : List (Option Checkpoint) → Option NodeNo → Job → Type 0
HasSource images None j = Unit {0}
HasSource images (Some node) j = (node.0 < length images) × (is_some (image_at images node.0) ≡ true)
    × ((i : Checkpoint) → image_at images node.0 ≡ Some i → IsImage i → IsSource images node j i)

-- a simulator of the job that has come so far
pub record StandsAt (c : Conditions) (j : Job) (t : ℕ) (s : Simulator) : Type 0 where
  pub setup : s.setup ≡ c
  pub job : s.job ≡ j
  pub turns : s.header.turns ≡ t
  pub settled : s.short ≡ false

-- and stands at the job's origin
abbrev pub StandsAtOrigin : Conditions → List (Option Checkpoint) → Option NodeNo → Job → Simulator → Type 0
StandsAtOrigin c images None j s = StandsAt c j 0 s
StandsAtOrigin c images (Some node) j s = (i : Checkpoint) → image_at images node.0 ≡ Some i → StandsAt i.setup j i.header.turns s

-- the full image that a simulator's state is kept over
pub record IsBaseFor (s : Simulator) (b : NodeNo) (i : Checkpoint) : Type 0 where
  pub named : i.node ≡ b
  pub full : i.base ≡ None
  pub setup : i.setup ≡ s.setup
  pub serves : Serves i s.job
  pub proper : i.node.0 ≢ node_of s.job

abbrev pub HasBaseOf : List (Option Checkpoint) → Simulator → Option NodeNo → Type 0
HasBaseOf images s None = Unit {0}
HasBaseOf images s (Some b) = (b.0 < length images) × (is_some (image_at images b.0) ≡ true)
    × ((i : Checkpoint) → image_at images b.0 ≡ Some i → IsImage i → IsBaseFor s b i)

-- the image is the simulator's state, over that base
pub record IsKeptAs (s : Simulator) (base : Option NodeNo) (i : Checkpoint) : Type 0 where
  pub setup : i.setup ≡ s.setup
  pub node : i.node.0 ≡ node_of s.job
  pub based : i.base ≡ base
  pub header : i.header ≡ s.header
