-- What `serde_json` says of a value, in the words of a plan.
use Rattle.std.proofs.Common.{◌≡◌, ◌&&◌, ℕ, Bool, true, false, map, string_bytes, List, [], ◌∷◌, length, Some, None, String, Global, refl, ap, IsUtf8, if◌then◌else◌}
use Rattle.std.proofs.lemmas.Str.{is_utf8-from_IsUtf8, IsUtf8-from_is_utf8}
use Rattle.std.specs.List.{list_all}
use Rattle.std.specs.Str.{is_utf8}
use Rattle.serde_json.specs.Data.{Data, null, boolean, number, string, array, object, Members}
use Rattle.serde_json.specs.Find.{as_object}
use Rattle.serde_json.specs.Read.{read}
use Rattle.serde_json.specs.View.{members_view}
use Rattle.serde_json.specs.declared.value.Value.{Value}
use Rattle.vf_plan.specs.Form.{is_key, all_keys, has_only}
use Rattle.vf_plan.specs.declared.json.Keys.{Keys}
use Rattle.vf_plan.specs.Reading.{read_bytes}

pub all_keys-members_view : (test : List ℕ → Bool) (es : List (String Global × Value)) → all_keys test (members_view es) ≡ list_all (λ key. test (string_bytes key)) (map (λ e. e.0) es)
all_keys-members_view test [] = refl
all_keys-members_view test (e ∷ es) = ap (λ b. test (string_bytes e.0) && b) (all_keys-members_view test es)

pub has_only-object : (keys : Keys) (value : Data) (ms : Members) → Some ms ≡ as_object value → has_only keys value ≡ all_keys (is_key keys) ms
unfolding has_only
has_only-object keys null ms h = cc
has_only-object keys (boolean b) ms h = cc
has_only-object keys (number n) ms h = cc
has_only-object keys (string s) ms h = cc
has_only-object keys (array ds) ms h = cc
has_only-object keys (object found) ms h = cc

pub has_only-other : (keys : Keys) (value : Data) → None ≡ as_object value → has_only keys value ≡ false
unfolding has_only
has_only-other keys null h = refl
has_only-other keys (boolean b) h = refl
has_only-other keys (number n) h = refl
has_only-other keys (string s) h = refl
has_only-other keys (array ds) h = refl
has_only-other keys (object found) h = cc

pub read_bytes-read : (bytes : List ℕ) (value : Data) → IsUtf8 bytes → read bytes ≡ Some value → read_bytes bytes ≡ Some value
unfolding read_bytes
read_bytes-read bytes value utf8 h = rw (is_utf8-from_IsUtf8 bytes utf8) h

pub read_bytes-refused : (bytes : List ℕ) → (IsUtf8 bytes → read bytes ≡ None) → read_bytes bytes ≡ None
unfolding read_bytes
read_bytes-refused bytes h = elim (is_utf8 bytes) as (λ b. is_utf8 bytes ≡ b → (if b then read bytes else None) ≡ None) [
  | true ↦ λ e. h (IsUtf8-from_is_utf8 bytes e)
  | false ↦ λ _. refl
] refl
