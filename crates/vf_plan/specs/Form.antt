-- The form of a node in JSON.
use Rattle.std.specs.Prelude.{ℕ, ◌+◌, Bool, true, false, not, ◌==◌, ◌&&◌, ◌||◌, nat_lt, nat_le, if◌then◌else◌, List, [], ◌∷◌, length, codes, Option, Some, None, is_some, unwrap_or}
use Rattle.std.specs.Char.{is_ascii_alphabetic, is_ascii_alphanumeric}
use Rattle.std.specs.List.{list_all}
use Rattle.std.specs.Str.{byte, bytes_eq}
use Rattle.serde_json.specs.Data.{Data, object, Members, no_members, member}
use Rattle.vf_plan.specs.declared.limits.TheConstants.{LONGEST_NAME, MOST_TURNS, MOST_OUTPUT}
use Rattle.vf_plan.specs.declared.json.Keys.{Keys}
use Rattle.vf_plan.specs.declared.json.Keys.TheVariants.{Plan, Node, LimitedTest}
use Rattle.serde_json.specs.Find.{get, as_bool, as_number, as_str, as_u64}

infixl 10 ◌>>=◌
abbrev pub ◌>>=◌ : {A B : Type 0} → Option A → (A → Option B) → Option B
(Some x) >>= f = f x
None >>= f = None

-- ---- the keys of an object

-- a key that any node may have
unfoldable pub is_node_key : List ℕ → Bool
is_node_key key =
    bytes_eq key (codes "name") || bytes_eq key (codes "after") || bytes_eq key (codes "text") || bytes_eq key (codes "hex")
    || bytes_eq key (codes "test") || bytes_eq key (codes "expect_text") || bytes_eq key (codes "expect")

-- a key of the whole plan, of a node, or of a test that may have limits of its own
unfoldable pub is_key : Keys → List ℕ → Bool
is_key Plan key = bytes_eq key (codes "version") || bytes_eq key (codes "nodes")
is_key Node key = is_node_key key
is_key LimitedTest key = is_node_key key || bytes_eq key (codes "turns") || bytes_eq key (codes "output")

abbrev pub all_keys : (List ℕ → Bool) → Members → Bool
all_keys test no_members = true
all_keys test (member key value more) = test key && all_keys test more

-- an object whose keys are all of these
unfoldable pub has_only : Keys → Data → Bool
has_only keys (object members) = all_keys (is_key keys) members
has_only keys _ = false

-- ---- the name of a node

abbrev pub is_name_byte : ℕ → Bool
is_name_byte b = is_ascii_alphanumeric b || b == byte "_" || b == byte "." || b == byte "-"

-- 1 to 64 bytes of ASCII letters, digits, `_`, `.` and `-`, of which a letter is the first
unfoldable pub is_name : List ℕ → Bool
is_name [] = false
is_name (first ∷ more) = is_ascii_alphabetic first && nat_lt (length more) LONGEST_NAME && list_all is_name_byte more

-- ---- what stands at a key: a text, or what may be left out. None is another form

abbrev pub text_at : List ℕ → Data → Option (List ℕ)
text_at key node = get key node >>= as_str

abbrev pub text_in : Option Data → Option (Option (List ℕ))
text_in None = Some None
text_in (Some value) = as_str value >>= λ text. Some (Some text)

abbrev pub truth_in : Option Data → Option Bool
truth_in None = Some false
truth_in (Some value) = as_bool value

abbrev pub in_range : ℕ → ℕ → ℕ → Option (Option ℕ)
in_range least most n = if nat_le least n && nat_le n most then Some (Some n) else None

-- a whole number in a range
abbrev pub whole_in : ℕ → ℕ → Option Data → Option (Option ℕ)
whole_in least most None = Some None
whole_in least most (Some value) = as_number value >>= as_u64 >>= in_range least most

-- ---- the parts of a node

-- the texts that a node writes
pub record Texts : Type 0 where
  pub name : List ℕ
  pub after : Option (List ℕ)
  pub text : Option (List ℕ)
  pub hex : Option (List ℕ)
  pub expect_text : Option (List ℕ)
  pub expect : Option (List ℕ)

unfoldable pub texts_of : Data → Option Texts
texts_of node = do
  name ← text_at (codes "name") node
  after ← text_in (get (codes "after") node)
  text ← text_in (get (codes "text") node)
  hex ← text_in (get (codes "hex") node)
  expect_text ← text_in (get (codes "expect_text") node)
  expect ← text_in (get (codes "expect") node)
  Some (record { name = name; after = after; text = text; hex = hex; expect_text = expect_text; expect = expect })

-- whether it is a test, and limits of its own
pub record Marks : Type 0 where
  pub test : Bool
  pub turns : Option ℕ
  pub output : Option ℕ

-- only a test of version 2 has limits
abbrev pub limits_in : Bool → Data → Option Marks
limits_in true node = do
  turns ← whole_in 1 MOST_TURNS (get (codes "turns") node)
  output ← whole_in 0 MOST_OUTPUT (get (codes "output") node)
  Some (record { test = true; turns = turns; output = output })
limits_in false node = Some (record { test = false; turns = None; output = None })

abbrev pub has_limits : ℕ → Bool → Bool
has_limits version test = (version == 2) && test

abbrev pub keys_of_node : Bool → Keys
keys_of_node limited = if limited then LimitedTest else Node

unfoldable pub marks_of : ℕ → Data → Option Marks
marks_of version node = do
  test ← truth_in (get (codes "test") node)
  marks ← limits_in (has_limits version test) node
  Some (record marks { test = test })

-- what a segment is written as
abbrev pub segment_text : Texts → List ℕ
segment_text texts = unwrap_or texts.text (unwrap_or texts.hex [])

-- one of the two is there, and not the other
abbrev pub is_one : Option (List ℕ) → Option (List ℕ) → Bool
is_one (Some text) None = true
is_one None (Some text) = true
is_one _ _ = false

abbrev pub at_most_one : Option (List ℕ) → Option (List ℕ) → Bool
at_most_one first second = not (is_some first && is_some second)

abbrev pub not_some : Option (List ℕ) → Bool
not_some found = not (is_some found)

-- a lawful name, exactly one of `text` and `hex`, not both expectations, and no empty segment below a root
abbrev pub is_lawful : Texts → Bool
is_lawful texts =
    is_name texts.name && (is_one texts.text texts.hex && (at_most_one texts.expect_text texts.expect
    && (not_some texts.after || nat_lt 0 (length (segment_text texts)))))

abbrev pub if_formed : ℕ → Data → Texts → Marks → Option (Texts × Marks)
if_formed version node texts marks =
    if has_only (keys_of_node (has_limits version marks.test)) node && is_lawful texts then Some (texts, marks) else None

-- what a node of a plan of the version writes, if it has the form of one
unfoldable pub form_of : ℕ → Data → Option (Texts × Marks)
form_of version node = do
  texts ← texts_of node
  marks ← marks_of version node
  if_formed version node texts marks
