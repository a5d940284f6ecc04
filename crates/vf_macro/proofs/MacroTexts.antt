-- The text of a macro: bytes begin with one, and with no other.
use Rattle.std.proofs.Common.{◌≡◌, ◌≢◌, ℕ, zero, suc, ◌+◌, ◌-◌, ◌<◌, ◌≤◌, true, List, [], ◌∷◌, ◌++◌, length, take, refl, sym, ap, ◌∙◌, subst, arith, append_assoc, length-append}
use Rattle.std.specs.List.{list_all}
use Rattle.std.proofs.Math.Seq.{take-append_seam}
use Rattle.std.proofs.lemmas.Bool.{and_parts, both_ways}
use Rattle.std.proofs.lemmas.List.{append_cancel_right, append-nil}
use Rattle.vf_lexeme.specs.Bytes.{is_no_blank, is_no_newline}
use Rattle.vf_lexeme.specs.Laws.{PassesOnce, PassesSome}
use Rattle.vf_lexeme.specs.Strings as strings
use Rattle.vf_lexeme.specs.Strings.{is_octal, IsEscape, Spells, IsQuoted}
use Rattle.vf_macro.specs.MacroText.{Counts, joined, nothing, IsPart, joint, string, comment, attribute, escaped, other, IsLast, end, line_comment, open_comment, open_string, open_attribute, Reaches, ends, goes, IsMacroText}
use Rattle.vf_macro.specs.Scanning.{after_joint, Seen, Whole, Last, Sees}
use Rattle.vf_macro.proofs.Counting.{some_joint, counts_once, counts_append, counts_line, is_in_line}
use Rattle.vf_macro.proofs.Parts.{IsSeen, sees_sound, seen_once, seen_some}

-- ---- no newline stands in a name or a string

no_blank_byte : (byte : ℕ) → is_no_blank byte ≡ true → byte ≢ 10
no_blank_byte byte h e = both_ways (is_no_blank byte) (ap is_no_blank e) h

name_line : (name : List ℕ) → list_all is_no_blank name ≡ true → list_all is_no_newline name ≡ true
name_line [] h = refl
name_line (byte ∷ name) h =
    let p = and_parts (is_no_blank byte) (list_all is_no_blank name) h in
    rw (is_in_line byte (no_blank_byte byte p.0)) (name_line name p.1)

octal_byte : (byte : ℕ) → is_octal byte ≡ true → byte ≢ 10
octal_byte byte h e = both_ways (is_octal byte) (ap is_octal e) h

octal_line : (byte : ℕ) → is_octal byte ≡ true → is_no_newline byte ≡ true
octal_line byte h = is_in_line byte (octal_byte byte h)

code_line : (code : List ℕ) (byte : ℕ) (rest : List ℕ) → IsEscape code byte rest → list_all is_no_newline code ≡ true
code_line code byte rest (strings.newline e v) = rw e refl
code_line code byte rest (strings.tab e v) = rw e refl
code_line code byte rest (strings.one a h stop e v) = rw (e, octal_line a h) refl
code_line code byte rest (strings.two a b h k stop e v) = rw (e, octal_line a h, octal_line b k) refl
code_line code byte rest (strings.three a b c h k l e v) = rw (e, octal_line a h, octal_line b k, octal_line c l) refl
code_line code byte rest (strings.itself n t line o e) = rw (e, is_in_line byte line) refl

all_append : (front back : List ℕ) → list_all is_no_newline front ≡ true → list_all is_no_newline back ≡ true
    → list_all is_no_newline (front ++ back) ≡ true
all_append [] back h k = k
all_append (byte ∷ front) back h k =
    let p = and_parts (is_no_newline byte) (list_all is_no_newline front) h in
    rw p.0 (all_append front back p.1 k)

string_line : (inside value : List ℕ) → Spells inside value → list_all is_no_newline inside ≡ true
string_line _ _ strings.nothing = refl
string_line _ _ (strings.plain {byte} {rest} {value} quote backslash line s) = rw (is_in_line byte line) (string_line rest value s)
string_line text _ (strings.escape {code} {rest} {value} {byte} c s e) =
    rw e (all_append code rest (code_line code byte rest c) (string_line rest value s))

-- ---- what a part takes

-- the bytes are a front that counts as a text, and the rest
pub record Fronts (bytes rest : List ℕ) : Type 0 where
  pub front : List ℕ
  pub text : List ℕ
  pub parts : bytes ≡ front ++ rest
  pub counts : Counts front text

fronts_line : (bytes front rest : List ℕ) → bytes ≡ front ++ rest → list_all is_no_newline front ≡ true → Fronts bytes rest
fronts_line bytes front rest e all = record { front = front; text = front; parts = e; counts = counts_line front all }

abbrev Takes : List ℕ → List ℕ → Type 0
Takes bytes after = Fronts bytes after × (length after < length bytes)

taken : (bytes after front : List ℕ) → bytes ≡ front ++ after → 0 < length front → length after < length bytes
taken bytes after front e some = omega (arith, ap length e, length-append front after, some)

takes_by : (bytes after : List ℕ) (f : Fronts bytes after) → 0 < length f.front → Takes bytes after
takes_by bytes after f some = (f, taken bytes after f.front f.parts some)

line_takes : (bytes after front : List ℕ) → bytes ≡ front ++ after → list_all is_no_newline front ≡ true → 0 < length front
    → Takes bytes after
line_takes bytes after front e all some = (fronts_line bytes front after e all, taken bytes after front e some)

part_takes : (bytes after : List ℕ) → IsPart bytes after → Takes bytes after
part_takes bytes after (joint j) =
    takes_by bytes after (record {
      front = j.joint;
      text = 32 ∷ [];
      parts = j.parts;
      counts = joined (record { joint = j.joint; is = j.is; parts = sym (append-nil j.joint) }) nothing;
    }) (some_joint j.joint j.is)
part_takes bytes after (string quoted value q e) =
    line_takes bytes after (34 ∷ (q.inside ++ 34 ∷ []))
    (e ∙ ap (λ (t : List ℕ). 34 ∷ t) (q.closed ∙ sym (append_assoc q.inside (34 ∷ []) after)))
    (all_append q.inside (34 ∷ []) (string_line q.inside value q.spelled) refl) (omega arith)
part_takes bytes after (comment inside all lacks e) =
    line_takes bytes after (47 ∷ 42 ∷ (inside ++ 42 ∷ 47 ∷ []))
    (e ∙ ap (λ (t : List ℕ). 47 ∷ 42 ∷ t) (sym (append_assoc inside (42 ∷ 47 ∷ []) after)))
    (all_append inside (42 ∷ 47 ∷ []) all refl) (omega arith)
part_takes bytes after (attribute inside text counts lacks front e) =
    takes_by bytes after (record {
      front = 40 ∷ 42 ∷ (inside ++ 42 ∷ 41 ∷ []);
      text = 40 ∷ 42 ∷ (text ++ 42 ∷ 41 ∷ []);
      parts = e ∙ ap (λ (t : List ℕ). 40 ∷ 42 ∷ t) (sym (append_assoc inside (42 ∷ 41 ∷ []) after));
      counts = counts_append (40 ∷ 42 ∷ []) (40 ∷ 42 ∷ []) (inside ++ 42 ∷ 41 ∷ []) (text ++ 42 ∷ 41 ∷ [])
          (counts_line (40 ∷ 42 ∷ []) refl)
          (counts_append inside text (42 ∷ 41 ∷ []) (42 ∷ 41 ∷ []) counts (counts_line (42 ∷ 41 ∷ []) refl));
    }) (omega arith)
part_takes bytes after (escaped name all ending border e) =
    line_takes bytes after (92 ∷ name) e (name_line name all) (omega arith)
part_takes bytes after (other byte line quote backslash skip e) =
    line_takes bytes after (byte ∷ []) e (rw (is_in_line byte line) refl) (omega arith)

last_fronts : (bytes rest : List ℕ) → IsLast bytes rest → Fronts bytes rest
last_fronts bytes rest (end stop is) = fronts_line bytes [] rest (sym is) refl
last_fronts bytes rest (line_comment inside all stop e) = fronts_line bytes (47 ∷ 47 ∷ inside) rest e all
last_fronts bytes rest (open_comment inside all lacks stop e) = fronts_line bytes (47 ∷ 42 ∷ inside) rest e all
last_fronts bytes rest (open_string inside none all stop e) = fronts_line bytes (34 ∷ inside) rest e all
last_fronts bytes rest (open_attribute inside text counts lacks front stop border e) = record {
  front = 40 ∷ 42 ∷ inside;
  text = 40 ∷ 42 ∷ text;
  parts = e;
  counts = counts_append (40 ∷ 42 ∷ []) (40 ∷ 42 ∷ []) inside text (counts_line (40 ∷ 42 ∷ []) refl) counts;
}

pub reaches_fronts : (bytes rest : List ℕ) → Reaches bytes rest → Fronts bytes rest
reaches_fronts bytes rest (ends l) = last_fronts bytes rest l
reaches_fronts bytes rest (goes after p r) =
    let f = (part_takes bytes after p).0 in
    let g = reaches_fronts after rest r in
    record {
      front = f.front ++ g.front;
      text = f.text ++ g.text;
      parts = f.parts ∙ ap (λ t. f.front ++ t) g.parts ∙ sym (append_assoc f.front g.front rest);
      counts = counts_append f.front f.text g.front g.text f.counts g.counts;
    }

-- ---- one text

module _ (passes : PassesOnce) where
  reaches_once : (bytes one two : List ℕ) → Reaches bytes one → Reaches bytes two → one ≡ two
  reaches_once bytes one two (ends l) (ends m) = let same : Last one ≡ Last two = seen_once passes bytes (Last one) (Last two) l m in cc
  reaches_once bytes one two (ends l) (goes after p r) =
      let same : Last one ≡ Whole after = seen_once passes bytes (Last one) (Whole after) l p in absurd cc
  reaches_once bytes one two (goes after p r) (ends l) =
      let same : Whole after ≡ Last two = seen_once passes bytes (Whole after) (Last two) p l in absurd cc
  reaches_once bytes one two (goes after p r) (goes after_2 q s) =
      let same : Whole after_2 ≡ Whole after = seen_once passes bytes (Whole after_2) (Whole after) q p in
      let is : after_2 ≡ after = cc in
      reaches_once after one two r (subst (λ b. Reaches b two) is s)

  pub text_once : {bytes text rest text_2 rest_2 : List ℕ} → IsMacroText bytes text rest → IsMacroText bytes text_2 rest_2
      → (text ≡ text_2) × (rest ≡ rest_2)
  text_once {bytes} {text} {rest} {text_2} {rest_2} a b =
      let same = reaches_once bytes rest rest_2 a.reaches b.reaches in
      let front = append_cancel_right a.front b.front rest (sym a.parts ∙ b.parts ∙ ap (λ r. b.front ++ r) (sym same)) in
      (counts_once b.front text text_2 (subst (λ f. Counts f text) front a.counts) b.counts, same)

-- ---- and some text

found_reaches : (bytes : List ℕ) (found : Seen) → IsSeen bytes found
    → ((after : List ℕ) → length after < length bytes → (rest : List ℕ) × Reaches after rest)
    → (rest : List ℕ) × Reaches bytes rest
found_reaches bytes (Last rest) is on = (rest, ends is)
found_reaches bytes (Whole after) is on =
    let r = on after (part_takes bytes after is).1 in
    (r.0, goes after is r.1)

module _ (passes : PassesSome) where
  reaches_within : (n : ℕ) (bytes : List ℕ) → length bytes < n → (rest : List ℕ) × Reaches bytes rest
  reaches_within zero bytes h = absurd (omega (arith, h))
  reaches_within (suc n) bytes h =
      let s = seen_some passes bytes in
      found_reaches bytes s.0 s.1 (λ after less. reaches_within n after (omega (arith, less, h)))

  pub text_some : (bytes : List ℕ) → (text : List ℕ) × (rest : List ℕ) × IsMacroText bytes text rest
  text_some bytes =
      let r = reaches_within (length bytes + 1) bytes (omega arith) in
      let f = reaches_fronts bytes r.0 r.1 in
      (f.text, r.0, record { front = f.front; parts = f.parts; reaches = r.1; counts = f.counts })

-- ---- what the code answers

-- what the rest reaches, the bytes reach
abbrev pub ReachesOn : List ℕ → List ℕ → Type 0
ReachesOn bytes after = (rest : List ℕ) → Reaches after rest → Reaches bytes rest

pub goes_on : (start bytes after : List ℕ) → Sees (after_joint bytes) bytes (Whole after) → ReachesOn start bytes
    → ReachesOn start after
goes_on start bytes after s on rest r = on rest (goes after (sees_sound bytes (Whole after) s) r)

pub ends_here : (start bytes rest : List ℕ) → Sees (after_joint bytes) bytes (Last rest) → ReachesOn start bytes
    → Reaches start rest
ends_here start bytes rest s on = on rest (ends (sees_sound bytes (Last rest) s))

pub shorter : (bytes after : List ℕ) → Sees (after_joint bytes) bytes (Whole after) → length after < length bytes
shorter bytes after s = (part_takes bytes after (sees_sound bytes (Whole after) s)).1

-- the bytes before the rest
front_is : (bytes rest : List ℕ) (f : Fronts bytes rest) → take (length bytes - length rest) bytes ≡ f.front
front_is bytes rest f =
    let size : length bytes - length rest ≡ length f.front = omega (arith, ap length f.parts, length-append f.front rest) in
    ap (λ n. take n bytes) size ∙ ap (take (length f.front)) f.parts ∙ take-append_seam f.front rest

pub within : (bytes rest : List ℕ) → Reaches bytes rest → length rest ≤ length bytes
within bytes rest r =
    let f = reaches_fronts bytes rest r in
    omega (arith, ap length f.parts, length-append f.front rest)

pub countable : (bytes rest : List ℕ) → Reaches bytes rest
    → (text : List ℕ) × Counts (take (length bytes - length rest) bytes) text
countable bytes rest r =
    let f = reaches_fronts bytes rest r in
    (f.text, subst (λ t. Counts t f.text) (sym (front_is bytes rest f)) f.counts)

pub is_text : (bytes text rest : List ℕ) → Reaches bytes rest → Counts (take (length bytes - length rest) bytes) text
    → IsMacroText bytes text rest
is_text bytes text rest r c =
    let f = reaches_fronts bytes rest r in
    record {
      front = f.front;
      parts = f.parts;
      reaches = r;
      counts = subst (λ t. Counts t text) (front_is bytes rest f) c;
    }
