-- The text of a macro (docs/LANGUAGE.md, "Text and tokens"; IEEE Std 1364-2005, clause 19.3.1).
use Rattle.std.specs.Prelude.{◌≡◌, ◌≢◌, ℕ, ◌<◌, ◌⊎◌, true, List, [], ◌∷◌, ◌++◌, length, codes}
use Rattle.std.specs.List.{list_all}
use Rattle.vf_lexeme.specs.Bytes.{is_no_blank, is_no_newline, Ends, Lacks}
use Rattle.vf_lexeme.specs.Signs.{is_close, OpensSkip}
use Rattle.vf_lexeme.specs.Strings.{IsQuoted}

-- a `\` and the end of its line, after which a macro's text goes on
abbrev pub IsJoint : List ℕ → Type 0
IsJoint joint = (joint ≡ 92 ∷ 10 ∷ []) ⊎ (joint ≡ 92 ∷ 13 ∷ 10 ∷ [])

-- the bytes begin with a joint, and what follows it
pub record IsJoined (bytes after : List ℕ) : Type 0 where
  pub joint : List ℕ
  pub is : IsJoint joint
  pub parts : bytes ≡ joint ++ after

-- a joint stands across the border of two runs of bytes
pub record Straddles (front rest : List ℕ) : Type 0 where
  pub before : List ℕ
  pub head : List ℕ
  pub tail : List ℕ
  pub after : List ℕ
  pub some_head : 0 < length head
  pub some_tail : 0 < length tail
  pub front_is : front ≡ before ++ head
  pub rest_is : rest ≡ tail ++ after
  pub is : IsJoint (head ++ tail)

-- What bytes of a macro's text count as: a joint as a blank, and every other byte as itself. No newline stands outside of a joint.
pub data Counts : List ℕ → List ℕ → Type 0 where
  nothing : Counts [] []
  joined : {bytes after text : List ℕ} → IsJoined bytes after → Counts after text → Counts bytes (32 ∷ text)
  plain : {byte : ℕ} {after text : List ℕ} → byte ≢ 10 → Counts after text → Counts (byte ∷ after) (byte ∷ text)

-- an escaped name ends before a blank, a joint, or the end of all
abbrev pub EndsName : List ℕ → Type 0
EndsName bytes = Ends is_no_blank bytes ⊎ ((after : List ℕ) × IsJoined bytes after)

-- A whole part of a macro's text at the front of the bytes, and what follows it.
pub data IsPart (bytes after : List ℕ) : Type 0 where
  joint : IsJoined bytes after → IsPart bytes after
  string : (quoted value : List ℕ) → IsQuoted quoted value after → bytes ≡ 34 ∷ quoted → IsPart bytes after
  comment : (inside : List ℕ) → list_all is_no_newline inside ≡ true → Lacks (codes "*/") (inside ++ codes "*")
      → bytes ≡ codes "/*" ++ (inside ++ (codes "*/" ++ after)) → IsPart bytes after
  attribute : (inside text : List ℕ) → Counts inside text → Lacks (codes "*)") (inside ++ codes "*") → Ends is_close inside
      → bytes ≡ codes "(*" ++ (inside ++ (codes "*)" ++ after)) → IsPart bytes after
  escaped : (name : List ℕ) → list_all is_no_blank name ≡ true → EndsName after → (Straddles (92 ∷ name) after → ⊥)
      → bytes ≡ 92 ∷ (name ++ after) → IsPart bytes after
  other : (byte : ℕ) → byte ≢ 10 → byte ≢ 34 → byte ≢ 92 → (OpensSkip bytes → ⊥) → bytes ≡ byte ∷ after → IsPart bytes after

-- What stands last in a macro's text, nothing or a part that goes on to the end of the line, and the rest.
pub data IsLast (bytes rest : List ℕ) : Type 0 where
  end : Ends is_no_newline bytes → rest ≡ bytes → IsLast bytes rest
  line_comment : (inside : List ℕ) → list_all is_no_newline inside ≡ true → Ends is_no_newline rest
      → bytes ≡ codes "//" ++ (inside ++ rest) → IsLast bytes rest
  open_comment : (inside : List ℕ) → list_all is_no_newline inside ≡ true → Lacks (codes "*/") inside → Ends is_no_newline rest
      → bytes ≡ codes "/*" ++ (inside ++ rest) → IsLast bytes rest
  open_string : (inside : List ℕ) → ((value after : List ℕ) → IsQuoted (inside ++ rest) value after → ⊥)
      → list_all is_no_newline inside ≡ true → Ends is_no_newline rest → bytes ≡ 34 ∷ (inside ++ rest) → IsLast bytes rest
  open_attribute : (inside text : List ℕ) → Counts inside text → Lacks (codes "*)") inside → Ends is_close inside
      → Ends is_no_newline rest → (Straddles inside rest → ⊥)
      → bytes ≡ codes "(*" ++ (inside ++ rest) → IsLast bytes rest

-- a macro's text stands from the bytes on up to the rest: whole parts, and what stands last
pub data Reaches : List ℕ → List ℕ → Type 0 where
  ends : {bytes rest : List ℕ} → IsLast bytes rest → Reaches bytes rest
  goes : {bytes rest : List ℕ} (after : List ℕ) → IsPart bytes after → Reaches after rest → Reaches bytes rest

-- the bytes begin with a macro's text, and its rest
pub record IsMacroText (bytes text rest : List ℕ) : Type 0 where
  pub front : List ℕ
  pub parts : bytes ≡ front ++ rest
  pub reaches : Reaches bytes rest
  pub counts : Counts front text
