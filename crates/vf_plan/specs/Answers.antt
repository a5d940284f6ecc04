-- Answers of the reader against those of its definition.
use Rattle.std.specs.Prelude.{◌≡◌, ◌≢◌, Result, Ok, Err}
use Rattle.vf_plan.specs.declared.fault.PlanFault.{PlanFault}
use Rattle.vf_plan.specs.declared.fault.PlanKind.{PlanKind}
use Rattle.vf_plan.specs.declared.fault.PlanKind.TheVariants as kinds

-- the kind is out of memory, or what the definition gives
abbrev pub FailsWith : {Y : Type 0} → PlanKind → Result Y PlanKind → Type 0
FailsWith kind is = kind ≢ kinds.Memory → is ≡ Err kind

-- what was answered, seen by view, is what the definition gives, unless memory ran out
abbrev pub Gives : {X Y : Type 0} → (X → Y) → Result X PlanKind → Result Y PlanKind → Type 0
Gives view (Ok x) is = is ≡ Ok (view x)
Gives view (Err kind) is = FailsWith kind is

-- the same of answers that tell the node at fault
abbrev pub Reads : {X Y : Type 0} → (X → Y) → Result X PlanFault → Result Y PlanFault → Type 0
Reads view (Ok x) is = is ≡ Ok (view x)
Reads view (Err fault) is = fault.kind ≢ kinds.Memory → is ≡ Err fault
