-- The lines of a journal (docs/FORMATS.md, "The journal").
use Rattle.std.specs.Prelude.{ℕ, List, [], ◌∷◌, ◌++◌, length, codes, decimal, Option, Some, None, slice_get}
use Rattle.vf_base.specs.declared.names.Job.{Job}
use Rattle.vf_base.specs.declared.names.Job.TheVariants.{Reach, Finish}
use Rattle.vf_base.specs.declared.names.NodeNo.{NodeNo}
use Rattle.vf_plan.specs.declared.plan.Node.{Node}
use Rattle.vf_journal.specs.declared.entry.Entry.{Entry}
use Rattle.vf_journal.specs.declared.entry.Entry.TheVariants.{Start, Saved, Pass, End, Pages, Copy, Lost, Short, Evict, Retire, Rest}

abbrev pub name_in : Option Node → List ℕ
name_in None = []
name_in (Some node) = node.name

-- the name of a node of the plan
abbrev pub name_of : List Node → NodeNo → List ℕ
name_of plan n = name_in (slice_get plan n.0)

abbrev pub job_text : List Node → Job → List ℕ
job_text plan (Reach n) = codes "reach " ++ name_of plan n
job_text plan (Finish n) = codes "finish " ++ name_of plan n

-- where a job starts; a dash is time zero
abbrev pub origin_text : List Node → Option NodeNo → List ℕ
origin_text plan None = codes "-"
origin_text plan (Some n) = name_of plan n

-- the base of an incremental image
abbrev pub base_text : List Node → Option NodeNo → List ℕ
base_text plan None = []
base_text plan (Some n) = codes " base " ++ name_of plan n

-- the line of an entry, without its newline
abbrev pub entry_text : List Node → Entry → List ℕ
entry_text plan (Start job origin) = codes "start " ++ job_text plan job ++ codes " from " ++ origin_text plan origin
entry_text plan (Saved node turn pages base) = codes "save " ++ name_of plan node ++ codes " at " ++ decimal turn ++ codes " pages " ++ decimal pages ++ base_text plan base
entry_text plan (Pass node turn) = codes "pass " ++ name_of plan node ++ codes " at " ++ decimal turn
entry_text plan (End job turn) = codes "end " ++ job_text plan job ++ codes " at " ++ decimal turn
entry_text plan (Pages job turn pages) = codes "pages " ++ job_text plan job ++ codes " at " ++ decimal turn ++ codes " needs " ++ decimal pages
entry_text plan (Copy job node) = codes "copy " ++ job_text plan job ++ codes " from " ++ name_of plan node
entry_text plan (Lost job turn) = codes "lost " ++ job_text plan job ++ codes " at " ++ decimal turn
entry_text plan (Short job turn) = codes "short " ++ job_text plan job ++ codes " at " ++ decimal turn
entry_text plan (Evict node) = codes "evict " ++ name_of plan node
entry_text plan (Retire node) = codes "retire " ++ name_of plan node
entry_text plan Rest = codes "rest"

-- a line for each entry
abbrev pub lines_text : List Node → List Entry → List ℕ
lines_text plan [] = []
lines_text plan (e ∷ more) = entry_text plan e ++ codes "\n" ++ lines_text plan more

-- how many entries there are, and a line for each
abbrev pub journal_text : List Node → List Entry → List ℕ
journal_text plan journal = codes "journal " ++ decimal (length journal) ++ codes "\n" ++ lines_text plan journal
