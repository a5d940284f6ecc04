-- A node that the reading gives keeps to the rules.
use Rattle.std.proofs.Common.{◌≡◌, ◌==◌, ℕ, ◌<◌, ◌≤◌, Bool, true, false, List, [], length, Option, Some, None, Result, Ok, Err, refl, sym, ◌∙◌, ap, subst, arith, position, ◌||◌, ◌&&◌, nat_lt, nat_le, unwrap_or, IfSome, if◌then◌else◌, codes, is_some}
use Rattle.std.specs.List.{position_or_len}
use Rattle.std.specs.Str.{bytes_eq}
use Rattle.std.proofs.lemmas.Bool.{leb-true, ltb-true, ltb-false, and_parts, or_parts}
use Rattle.hex.specs.Hex.{decode_of}
use Rattle.hex.specs.declared.error.FromHexError.{FromHexError}
use Rattle.hex.proofs.HexLemmas.{decode_of-ok}
use Rattle.serde_json.specs.Data.{Data}
use Rattle.serde_json.specs.Find.{get, as_number, as_u64}
use Rattle.vf_base.specs.declared.names.NodeNo.{NodeNo}
use Rattle.vf_plan.specs.declared.fault.PlanKind.{PlanKind}
use Rattle.vf_plan.specs.declared.fault.PlanKind.TheVariants as kinds
use Rattle.vf_plan.specs.declared.plan.Node.{Node}
use Rattle.vf_plan.specs.Paths.{path_to}
use Rattle.vf_plan.specs.Form as form
use Rattle.vf_plan.specs.Form.{Texts, Marks, texts_of, truth_in, has_limits, limits_in, marks_of, whole_in, in_range, segment_text, is_name, is_lawful, is_one, if_formed, form_of, has_only, keys_of_node}
use Rattle.vf_plan.specs.Reading.{◌>>=◌, decoded, segment_of, expect_of, node_named, parent_at, parent_of, placed, is_long, bounded, node_from, node_after}
use Rattle.vf_plan.specs.Rules.{IsNodeAfter}

-- ---- steps that succeeded

bind_ok : {A B F : Type 0} (r : Result A F) (f : A → Result B F) (y : B) → (r >>= f) ≡ Ok y → (x : A) × (r ≡ Ok x) × (f x ≡ Ok y)
bind_ok (Ok x) f y h = (x, refl, h)
bind_ok (Err e) f y h = cc

bind_some : {A B : Type 0} (r : Option A) (f : A → Option B) (y : B) → form.◌>>=◌ r f ≡ Some y → (x : A) × (r ≡ Some x) × (f x ≡ Some y)
bind_some (Some x) f y h = (x, refl, h)
bind_some None f y h = cc

some_is : {X : Type 0} (x y : X) → Some x ≡ Some y → x ≡ y
some_is x y h = ap (λ o. unwrap_or o x) h

abbrev ok_value : {X F : Type 0} → X → Result X F → X
ok_value x (Ok y) = y
ok_value x (Err e) = x

ok_is : {X : Type 0} (x y : X) → (a b : Result X PlanKind) → a ≡ Ok x → b ≡ Ok y → a ≡ b → x ≡ y
ok_is x y a b e f h = ap (ok_value x) (sym e ∙ h ∙ f)

checked : {X : Type 0} (b : Bool) (x y : X) → (if b then Some x else None) ≡ Some y → (b ≡ true) × (x ≡ y)
checked true x y h = (refl, some_is x y h)
checked false x y h = cc

allowed : {A K : Type 0} (b : Bool) (k : K) (r : Result A K) (y : A) → (if b then Err k else r) ≡ Ok y → (b ≡ false) × (r ≡ Ok y)
allowed true k r y h = cc
allowed false k r y h = (refl, h)

-- ---- the form

range : (least most : ℕ) (found : Option Data) (n : ℕ) → whole_in least most found ≡ Some (Some n) → (least ≤ n) × (n ≤ most)
range least most None n h = let wrong = some_is _ _ h in cc
range least most (Some value) n h =
    let step = bind_some (form.◌>>=◌ (as_number value) as_u64) (in_range least most) (Some n) h in
    let test = checked (nat_le least step.0 && nat_le step.0 most) (Some step.0) (Some n) step.2 in
    let same = some_is step.0 n test.1 in
    let ends = and_parts (nat_le least step.0) (nat_le step.0 most) test.0 in
    (let low = leb-true least step.0 ends.0 in omega (arith, same, low), let high = leb-true step.0 most ends.1 in omega (arith, same, high))

-- a node's own limits
abbrev IsLimited : Bool → Marks → Type 0
IsLimited test marks = IfSome marks.turns (λ turns. (1 ≤ turns) × (turns ≤ 4294967296) × (test ≡ true)) × IfSome marks.output (λ output. (output ≤ 262144) × (test ≡ true))

turns_limited : (test : Bool) (found : Option Data) (turns : Option ℕ) → test ≡ true → whole_in 1 4294967296 found ≡ Some turns → IfSome turns (λ turns. (1 ≤ turns) × (turns ≤ 4294967296) × (test ≡ true))
turns_limited test found None t h = tt
turns_limited test found (Some n) t h = let ends = range 1 4294967296 found n h in (ends.0, ends.1, t)

output_limited : (test : Bool) (found : Option Data) (output : Option ℕ) → test ≡ true → whole_in 0 262144 found ≡ Some output → IfSome output (λ output. (output ≤ 262144) × (test ≡ true))
output_limited test found None t h = tt
output_limited test found (Some n) t h = ((range 0 262144 found n h).1, t)

limited : (limits test : Bool) (node : Data) (marks : Marks) → (limits ≡ true → test ≡ true) → limits_in limits node ≡ Some marks → IsLimited test marks
limited true test node marks t h =
    let a = bind_some (whole_in 1 4294967296 (get (codes "turns") node)) _ marks h in
    let b = bind_some (whole_in 0 262144 (get (codes "output") node)) _ marks a.2 in
    subst (IsLimited test) (some_is (record { test = true; turns = a.0; output = b.0 }) marks b.2) (turns_limited test (get (codes "turns") node) a.0 (t refl) a.1, output_limited test (get (codes "output") node) b.0 (t refl) b.1)
limited false test node marks t h = subst (IsLimited test) (some_is (record { test = false; turns = None; output = None }) marks h) (tt, tt)

marked : (version : ℕ) (node : Data) (marks : Marks) → marks_of version node ≡ Some marks → IsLimited marks.test marks
unfolding marks_of
marked version node marks h =
    let a = bind_some (truth_in (get (codes "test") node)) _ marks h in
    let b = bind_some (limits_in (has_limits version a.0) node) _ marks a.2 in
    subst (λ (m : Marks). IsLimited m.test m) (some_is (record b.0 { test = a.0 }) marks b.2) (limited (has_limits version a.0) a.0 node b.0 (λ t. (and_parts (version == 2) a.0 t).1) b.1)

record IsFormed (texts : Texts) (marks : Marks) : Type 0 where
  pub name : is_name texts.name ≡ true
  pub some : IfSome texts.after (λ _. 0 < length (segment_text texts))
  pub limits : IsLimited marks.test marks

below_root : (after : Option (List ℕ)) (n : ℕ) → (form.not_some after || nat_lt 0 n) ≡ true → IfSome after (λ _. 0 < n)
below_root None n h = tt
below_root (Some name) n h = ltb-true 0 n h

formed : (version : ℕ) (value : Data) (got : Texts × Marks) → form_of version value ≡ Some got → IsFormed got.0 got.1
unfolding form_of
formed version value got h =
    let a = bind_some (texts_of value) _ got h in
    let b = bind_some (marks_of version value) _ got a.2 in
    let c = checked (has_only (keys_of_node (has_limits version b.0.test)) value && is_lawful a.0) (a.0, b.0) got b.2 in
    let lawful = (and_parts (has_only (keys_of_node (has_limits version b.0.test)) value) (is_lawful a.0) c.0).1 in
    let name = and_parts (is_name a.0.name) _ lawful in
    let one = and_parts (is_one a.0.text a.0.hex) _ name.1 in
    let rest = and_parts (form.at_most_one a.0.expect_text a.0.expect) _ one.1 in
    subst (λ (g : Texts × Marks). IsFormed g.0 g.1) c.1 (record { name = name.0; some = below_root a.0.after _ rest.1; limits = marked version value b.0 b.1 })

-- ---- the parts

decoded-some : (digits bytes : List ℕ) → decoded digits ≡ Ok bytes → 0 < length digits → 0 < length bytes
unfolding decoded
decoded-some digits bytes h some = by (decode_of digits) refl h
  where
    by : (r : Result (List ℕ) FromHexError) → decode_of digits ≡ r → elim r as (λ _. Result (List ℕ) PlanKind) [ Ok found ↦ Ok found | Err fault ↦ Err kinds.BadHex ] ≡ Ok bytes → 0 < length bytes
    by (Ok found) e g = let same = ap length (ok_is found bytes (Ok found) (Ok bytes) refl refl g) in let long = (decode_of-ok digits found e).2 in omega (arith, same, long)
    by (Err fault) e g = cc

segment-some : (text hex : Option (List ℕ)) (segment : List ℕ) → segment_of text hex ≡ Ok segment → 0 < length (unwrap_or text (unwrap_or hex [])) → 0 < length segment
segment-some (Some text) hex segment h some = let same = ap length (ok_is text segment (Ok text) (Ok segment) refl refl h) in omega (arith, same)
segment-some None (Some digits) segment h some = decoded-some digits segment h some
segment-some None None segment h some = absurd (omega arith)

position-within : {X : Type 0} (test : X → Bool) (xs : List X) (n : ℕ) → position test xs ≡ Some n → n < length xs
position-within test xs n h =
    let found = checked (nat_lt (position_or_len test xs) (length xs)) (position_or_len test xs) n h in
    let within = ltb-true (position_or_len test xs) (length xs) found.0 in omega (arith, within, found.1)

parent-within : (before : List Node) (name : List ℕ) (n : Option ℕ) (parent : Option NodeNo) → node_named name before ≡ n → parent_at n ≡ Ok parent → IfSome parent (λ p. p.0 < length before)
parent-within before name (Some n) None e h = tt
parent-within before name (Some n) (Some parent) e h =
    let within = position-within (λ node. bytes_eq name node.name) before n e in
    let same : n ≡ parent.0 = ap (λ (p : NodeNo). p.0) (some_is (record { 0 = n }) parent (ok_is (Some (record { 0 = n })) (Some parent) (Ok (Some (record { 0 = n }))) (Ok (Some parent)) refl refl h)) in
    omega (arith, within, same)
parent-within before name None parent e h = cc

record IsPlaced (before : List Node) (name : List ℕ) (after : Option (List ℕ)) (parent : Option NodeNo) : Type 0 where
  pub new : node_named name before ≡ None
  pub within : IfSome parent (λ p. p.0 < length before)
  pub some : (n : ℕ) → IfSome after (λ _. 0 < n) → IfSome parent (λ _. 0 < n)

not_found : (found : Option ℕ) → is_some found ≡ false → found ≡ None
not_found None h = refl
not_found (Some n) h = cc

parent-placed : (before : List Node) (name : List ℕ) (after : Option (List ℕ)) (parent : Option NodeNo) → node_named name before ≡ None → parent_of before after ≡ Ok parent → IsPlaced before name after parent
parent-placed before name None None e h = record { new = e; within = tt; some = λ _ _. tt }
parent-placed before name None (Some parent) e h = cc
parent-placed before name (Some after) None e h = record { new = e; within = tt; some = λ _ _. tt }
parent-placed before name (Some after) (Some parent) e h = record { new = e; within = parent-within before after (node_named after before) (Some parent) refl h; some = λ _ p. p }

is_placed : (before : List Node) (name : List ℕ) (after : Option (List ℕ)) (parent : Option NodeNo) → placed before name after ≡ Ok parent → IsPlaced before name after parent
unfolding placed
is_placed before name after parent h =
    let new = allowed (is_some (node_named name before)) kinds.DuplicateName (parent_of before after) parent h in
    parent-placed before name after parent (not_found (node_named name before) new.0) new.1

short : (expect : Option (List ℕ)) → is_long expect ≡ false → IfSome expect (λ bytes. length bytes ≤ 262144)
short None h = tt
short (Some bytes) h = ltb-false 262144 (length bytes) h

record IsBounded (before : List Node) (node : Node) : Type 0 where
  pub segment : length node.segment ≤ 65536
  pub bytes : (path_to before node).bytes ≤ 1048576
  pub depth : (path_to before node).nodes ≤ 64
  pub expect : IfSome node.expect (λ bytes. length bytes ≤ 262144)

is_bounded : (before : List Node) (node got : Node) → bounded before node ≡ Ok got → (node ≡ got) × IsBounded before node
unfolding bounded
is_bounded before node got h =
    let path = path_to before node in
    let a = allowed (nat_lt 65536 (length node.segment) || (nat_lt 1048576 path.bytes || is_long node.expect)) kinds.TooLong _ got h in
    let b = allowed (nat_lt 64 path.nodes) kinds.TooDeep (Ok node) got a.1 in
    let c = or_parts (nat_lt 65536 (length node.segment)) (nat_lt 1048576 path.bytes || is_long node.expect) a.0 in
    let d = or_parts (nat_lt 1048576 path.bytes) (is_long node.expect) c.1 in
    (ok_is node got (Ok node) (Ok got) refl refl b.1, record { segment = ltb-false 65536 (length node.segment) c.0; bytes = ltb-false 1048576 path.bytes d.0; depth = ltb-false 64 path.nodes b.0; expect = short node.expect d.1 })

-- ---- the node

behind : (before : List Node) (texts : Texts) (marks : Marks) (node : Node) → IsFormed texts marks → node_from before (Some (texts, marks)) ≡ Ok node → IsNodeAfter before node
behind before texts marks node is h =
    let s = bind_ok (segment_of texts.text texts.hex) _ node h in
    let e = bind_ok (expect_of texts.expect_text texts.expect) _ node s.2 in
    let p = bind_ok (placed before texts.name texts.after) _ node e.2 in
    let place = is_placed before texts.name texts.after p.0 p.1 in
    let b = is_bounded before _ node p.2 in
    subst (IsNodeAfter before) b.0 (record {
      name = is.name;
      new = place.new;
      parent = place.within;
      segment = b.1.segment;
      some = place.some (length s.0) (grown texts.after (segment-some texts.text texts.hex s.0 s.1) is.some);
      bytes = b.1.bytes;
      depth = b.1.depth;
      expect = b.1.expect;
      turns = is.limits.0;
      output = is.limits.1;
    })
  where
    grown : {P Q : Type 0} (after : Option (List ℕ)) → (P → Q) → IfSome after (λ _. P) → IfSome after (λ _. Q)
    grown None f p = tt
    grown (Some name) f p = f p

pub node_after_is_behind : (version : ℕ) (before : List Node) (value : Data) (node : Node) → node_after version before value ≡ Ok node → IsNodeAfter before node
unfolding node_after
node_after_is_behind version before value node h = by (form_of version value) refl h
  where
    by : (r : Option (Texts × Marks)) → form_of version value ≡ r → node_from before r ≡ Ok node → IsNodeAfter before node
    by (Some got) e g = behind before got.0 got.1 node (formed version value got e) g
    by None e g = cc
