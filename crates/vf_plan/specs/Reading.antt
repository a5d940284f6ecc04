-- What the bytes of a plan are: a list of nodes, or the first fault.
use Rattle.std.specs.Prelude.{ℕ, ◌+◌, Bool, false, not, ◌==◌, ◌||◌, nat_lt, if◌then◌else◌, List, [], ◌∷◌, ◌++◌, length, codes, Option, Some, None, is_some, position, Result, Ok, Err}
use Rattle.std.specs.List.{list_any}
use Rattle.std.specs.Str.{is_utf8, bytes_eq}
use Rattle.hex.specs.Hex.{decode_of}
use Rattle.serde_json.specs.Data.{Data, Items, no_items, item}
use Rattle.serde_json.specs.Find.{get, as_array, as_number, as_u64}
use Rattle.serde_json.specs.Read.{read}
use Rattle.vf_base.specs.declared.names.NodeNo.{NodeNo}
use Rattle.vf_plan.specs.declared.limits.TheConstants.{MOST_NODES, MOST_DEPTH, LONGEST_SEGMENT, LONGEST_PATH, LONGEST_EXPECTATION}
use Rattle.vf_plan.specs.declared.fault.PlanFault.{PlanFault}
use Rattle.vf_plan.specs.declared.fault.PlanKind.{PlanKind}
use Rattle.vf_plan.specs.declared.fault.PlanKind.TheVariants.{NotJson, Shape, DuplicateName, UnknownParent, TooMany, TooLong, BadHex, NoTest, TooDeep}
use Rattle.vf_plan.specs.declared.json.Keys.TheVariants as keys
use Rattle.vf_plan.specs.declared.plan.Node.{Node}
use Rattle.vf_plan.specs.declared.plan.PathSize.{PathSize}
use Rattle.vf_plan.specs.Form.{Texts, Marks, form_of, has_only}
use Rattle.vf_plan.specs.Paths.{path_to}

infixl 10 ◌>>=◌
abbrev pub ◌>>=◌ : {A B F : Type 0} → Result A F → (A → Result B F) → Result B F
Ok x >>= f = f x
Err fault >>= f = Err fault

-- ---- a node after others

-- the bytes of hex digits
unfoldable pub decoded : List ℕ → Result (List ℕ) PlanKind
decoded digits = elim (decode_of digits) [ Ok bytes ↦ Ok bytes | Err fault ↦ Err BadHex ]

abbrev pub segment_of : Option (List ℕ) → Option (List ℕ) → Result (List ℕ) PlanKind
segment_of (Some text) hex = Ok text
segment_of None (Some hex) = decoded hex
segment_of None None = Ok []

abbrev pub expect_of : Option (List ℕ) → Option (List ℕ) → Result (Option (List ℕ)) PlanKind
expect_of (Some text) hex = Ok (Some text)
expect_of None (Some hex) = decoded hex >>= λ bytes. Ok (Some bytes)
expect_of None None = Ok None

-- the number of the first node of that name
abbrev pub node_named : List ℕ → List Node → Option ℕ
node_named name nodes = position (λ node. bytes_eq name node.name) nodes

abbrev pub parent_at : Option ℕ → Result (Option NodeNo) PlanKind
parent_at (Some n) = Ok (Some (record { 0 = n }))
parent_at None = Err UnknownParent

-- the parent: the earlier node that `after` names
abbrev pub parent_of : List Node → Option (List ℕ) → Result (Option NodeNo) PlanKind
parent_of before None = Ok None
parent_of before (Some name) = parent_at (node_named name before)

-- the parent of a node whose name is new
unfoldable pub placed : List Node → List ℕ → Option (List ℕ) → Result (Option NodeNo) PlanKind
placed before name after = if is_some (node_named name before) then Err DuplicateName else parent_of before after

abbrev pub is_long : Option (List ℕ) → Bool
is_long None = false
is_long (Some bytes) = nat_lt LONGEST_EXPECTATION (length bytes)

abbrev pub if_within : Node → PathSize → Result Node PlanKind
if_within node path =
    if nat_lt LONGEST_SEGMENT (length node.segment) || (nat_lt LONGEST_PATH path.bytes || is_long node.expect) then Err TooLong
    else if nat_lt MOST_DEPTH path.nodes then Err TooDeep
    else Ok node

-- the node, where it is not too long and not too deep
unfoldable pub bounded : List Node → Node → Result Node PlanKind
bounded before node = if_within node (path_to before node)

abbrev pub node_from : List Node → Option (Texts × Marks) → Result Node PlanKind
node_from before None = Err Shape
node_from before (Some form) = do
  segment ← segment_of form.0.text form.0.hex
  expect ← expect_of form.0.expect_text form.0.expect
  parent ← placed before form.0.name form.0.after
  bounded before (record {
    name = form.0.name;
    parent = parent;
    segment = segment;
    test = form.1.test;
    expect = expect;
    turns = form.1.turns;
    output = form.1.output;
  })

-- the node that a value writes after others, or its first fault
unfoldable pub node_after : ℕ → List Node → Data → Result Node PlanKind
node_after version before value = node_from before (form_of version value)

-- ---- the plan

abbrev pub at_node : {A : Type 0} → ℕ → Result A PlanKind → Result A PlanFault
at_node n (Ok x) = Ok x
at_node n (Err kind) = Err (record { kind = kind; node = Some n })

abbrev pub at_none : PlanKind → PlanFault
at_none kind = record { kind = kind; node = None }

-- the nodes with the one that a value writes after them
abbrev pub with_next : ℕ → List Node → Data → Result (List Node) PlanFault
with_next version before value = at_node (length before) (node_after version before value) >>= λ node. Ok (before ++ node ∷ [])

-- the nodes with those that the values write after them
unfoldable pub nodes_after : ℕ → List Node → Items → Result (List Node) PlanFault
nodes_after version before no_items = Ok before
nodes_after version before (item value more) =
    with_next version before value >>= λ nodes. nodes_after version nodes more

abbrev pub items_len : Items → ℕ
items_len no_items = 0
items_len (item value more) = items_len more + 1

-- a plan file's version and the values of its nodes
pub record Outline : Type 0 where
  pub version : ℕ
  pub values : Items

abbrev pub if_some : ℕ → Items → Result Outline PlanKind
if_some version values =
    if not (version == 1 || version == 2) || items_len values == 0 then Err Shape
    else if nat_lt MOST_NODES (items_len values) then Err TooMany
    else Ok (record { version = version; values = values })

abbrev pub outline_with : Option ℕ → Option Items → Result Outline PlanKind
outline_with (Some version) (Some values) = if_some version values
outline_with _ _ = Err Shape

abbrev pub whole_at : List ℕ → Data → Option ℕ
whole_at key value = elim (get key value) [ None ↦ None | Some found ↦ elim (as_number found) [ None ↦ None | Some number ↦ as_u64 number ] ]

abbrev pub list_at : List ℕ → Data → Option Items
list_at key value = elim (get key value) [ None ↦ None | Some found ↦ as_array found ]

-- an object of `version`, 1 or 2, and `nodes`, a list of 1 to 4,096, and no other key
unfoldable pub outline_of : Data → Result Outline PlanKind
outline_of value =
    if has_only keys.Plan value then outline_with (whole_at (codes "version") value) (list_at (codes "nodes") value) else Err Shape

abbrev pub if_tested : List Node → Result (List Node) PlanFault
if_tested nodes = if list_any (λ node. node.test) nodes then Ok nodes else Err (at_none NoTest)

-- the JSON value that the bytes write: none where they are not UTF-8 or no JSON text
unfoldable pub read_bytes : List ℕ → Option Data
read_bytes bytes = if is_utf8 bytes then read bytes else None

abbrev pub outline_in : Option Data → Result Outline PlanKind
outline_in None = Err NotJson
outline_in (Some value) = outline_of value

abbrev pub outer : Result Outline PlanKind → Result Outline PlanFault
outer (Ok outline) = Ok outline
outer (Err kind) = Err (at_none kind)

-- what the bytes of a plan file are: the nodes of a plan, or the first fault
unfoldable pub plan_of : List ℕ → Result (List Node) PlanFault
plan_of bytes = do
  outline ← outer (outline_in (read_bytes bytes))
  nodes ← nodes_after outline.version [] outline.values
  if_tested nodes
