-- The statuses, and the line that a refusal writes (docs/FORMATS.md, "Statuses and fault lines").
use Rattle.std.specs.Prelude.{ℕ, ◌+◌, List, [], ◌∷◌, ◌++◌, Option, Some, None, codes, decimal}
use Rattle.vf_plan.specs.declared.fault.PlanKind.{PlanKind}
use Rattle.vf_plan.specs.declared.fault.PlanKind.TheVariants as kinds
use Rattle.vf_words.specs.declared.fault.WordFault.{WordFault}
use Rattle.vf_words.specs.declared.fault.WordFault.TheVariants as words
use Rattle.vf_top.specs.declared.limits.TheConstants.{LONGEST_DESIGN, LONGEST_PLAN}
use Rattle.vf_top.specs.declared.refusal.What.{What}
use Rattle.vf_top.specs.declared.refusal.What.TheVariants.{Design, Plan}
use Rattle.vf_top.specs.declared.refusal.Refusal.{Refusal}
use Rattle.vf_top.specs.declared.refusal.Refusal.TheVariants.{WrongWords, Failed, TooLong, DesignNotBuilt, NoTop, WrongPlan, NoTest, Write, Memory}

-- the most bytes of a design's file, 1 MiB, and of a plan's, 64 MiB
abbrev pub limit_of : What → ℕ
limit_of Design = LONGEST_DESIGN
limit_of Plan = LONGEST_PLAN

abbrev pub what_text : What → List ℕ
what_text Design = codes "design"
what_text Plan = codes "plan"

abbrev pub status_of : Refusal → ℕ
status_of (WrongWords fault) = 2
status_of DesignNotBuilt = 3
status_of NoTop = 3
status_of (WrongPlan fault) = 4
status_of (NoTest name) = 4
status_of (Failed what) = 6
status_of (TooLong what) = 6
status_of Write = 7
status_of Memory = 8

-- what is wrong with the words, by its number and name, and the option at fault
abbrev pub word_text : WordFault → List ℕ
word_text words.Refused = codes "1 Refused"
word_text (words.Range option) = codes "2 Range " ++ option
word_text words.Files = codes "3 Files"
word_text words.Test = codes "4 Test"
word_text words.Memory = codes "5 Memory"

-- what is wrong with a plan, by its number and name
abbrev pub kind_text : PlanKind → List ℕ
kind_text kinds.NotJson = codes "1 NotJson"
kind_text kinds.Shape = codes "2 Shape"
kind_text kinds.DuplicateName = codes "3 DuplicateName"
kind_text kinds.UnknownParent = codes "4 UnknownParent"
kind_text kinds.TooMany = codes "5 TooMany"
kind_text kinds.TooLong = codes "6 TooLong"
kind_text kinds.BadHex = codes "7 BadHex"
kind_text kinds.NoTest = codes "8 NoTest"
kind_text kinds.TooDeep = codes "9 TooDeep"
kind_text kinds.Memory = codes "10 Memory"

-- and the node at fault, where one is
abbrev pub node_text : Option ℕ → List ℕ
node_text None = []
node_text (Some node) = codes " at node " ++ decimal node

-- the line without its newline; of a file that is too long, one byte more than its limit was taken
abbrev pub fault_of : Refusal → List ℕ
fault_of (WrongWords fault) = codes "words: " ++ word_text fault
fault_of DesignNotBuilt = codes "design: early 1 NotBuilt"
fault_of NoTop = codes "design: elab 1 NoTop at 1:1"
fault_of (WrongPlan fault) = codes "plan: " ++ kind_text fault.kind ++ node_text fault.node
fault_of (NoTest name) = codes "plan: no test " ++ name
fault_of (Failed what) = codes "read: " ++ what_text what ++ codes " failed"
fault_of (TooLong what) = codes "read: " ++ what_text what ++ codes " too long " ++ decimal (limit_of what + 1)
fault_of Write = codes "write failed"
fault_of Memory = codes "memory"

abbrev pub fault_text : Refusal → List ℕ
fault_text refusal = codes "vfarm: " ++ fault_of refusal ++ 10 ∷ []
