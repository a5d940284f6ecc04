-- How the image to be evicted is chosen, image after image.
use Rattle.std.specs.Prelude.{ℕ, List, length, Option}
use Rattle.vf_plan.specs.declared.plan.Node.{Node}
use Rattle.vf_plan.specs.Paths.{path}
use Rattle.vf_jobs.specs.declared.setup.Order.{Order}
use Rattle.vf_jobs.specs.declared.setup.Order.TheVariants.{Oldest, Deepest, Widest}
use Rattle.vf_journal.specs.Records.{Held}
use Rattle.vf_journal.specs.Journal.{earlier_of}

-- what an order counts of an image
abbrev pub much_of : List Node → Order → Held → ℕ
much_of nodes Oldest h = h.pages
much_of nodes Deepest h = length (path nodes h.node.0)
much_of nodes Widest h = h.pages

-- the one that goes first of an image and the one chosen of those saved after it
abbrev pub earlier_in : List Node → Order → Held → Option Held → Held
earlier_in nodes Oldest h best = h
earlier_in nodes Deepest h best = earlier_of (much_of nodes Deepest) h best
earlier_in nodes Widest h best = earlier_of (much_of nodes Widest) h best
