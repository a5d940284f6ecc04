-- What the reader does, as functions on lists. The grammar does not rest on them: the proofs show that they read exactly
-- what the grammar says.
use Rattle.std.specs.Prelude.{◌≡◌, ℕ, zero, suc, ◌+◌, ◌-◌, ◌%◌, ◌^◌, Bool, true, false, not, ◌==◌, ◌||◌, ◌&&◌, nat_lt, List, [], ◌∷◌, ◌++◌, length, slice_set, Option, Some, None, Result, Ok, Err, codes, take_while, if◌then◌else◌}
use Rattle.std.specs.Option.{option_map}
use Rattle.std.specs.Str.{bytes_eq}
use Rattle.vf_design.specs.declared.code.Condition.{Condition}
use Rattle.vf_design.specs.declared.code.Instr.{Instr}
use Rattle.vf_design.specs.declared.code.Instr.TheVariants.{Getc, Jump, Unless, Show, Save, IncSave, Finish, Halt}
use Rattle.vf_early.specs.declared.fault.EarlyFault.{EarlyFault}
use Rattle.vf_early.specs.declared.fault.EarlyFault.TheVariants.{NotBuilt, Memory}
use Rattle.vf_early.specs.declared.words.Keyword.{Keyword}
use Rattle.vf_early.specs.declared.words.Keyword.TheVariants as words
use Rattle.vf_early.specs.Tokens.{is_word_byte}
use Rattle.vf_early.specs.Words.{is_name, number_of}

-- what a function returned, seen by view, is what reading gives, unless memory ran out
abbrev pub Fails : {Y : Type 0} → EarlyFault → Option Y → Type 0
Fails NotBuilt read = read ≡ None
Fails Memory read = Unit {0}

abbrev pub Gives : {X Y : Type 0} → (X → Y) → Result X EarlyFault → Option Y → Type 0
Gives view (Ok x) read = read ≡ Some (view x)
Gives view (Err e) read = Fails e read

infixl 10 ◌>>=◌
abbrev pub ◌>>=◌ : {A B : Type 0} → Option A → (A → Option B) → Option B
(Some x) >>= f = f x
None >>= f = None

-- ---- tokens of a text

-- how many bytes stand before the quote that ends a string; the byte before the text may be a `\` that takes the first along
unfoldable pub inside_from : Bool → List ℕ → Option ℕ
inside_from escaped [] = None
inside_from escaped (b ∷ rest) = if b == 10 then None else if not escaped && b == 34 then Some 0 else option_map (λ n. n + 1) (inside_from (not escaped && b == 92) rest)

abbrev pub with_quotes : Option ℕ → ℕ
with_quotes None = 0
with_quotes (Some n) = n + 2

abbrev pub is_sign : ℕ → Bool
is_sign b = b == 59 || b == 61 || b == 40 || b == 41 || b == 45 || b == 44

abbrev pub is_long_sign : ℕ → ℕ → Bool
is_long_sign b c = (b == 61 || b == 33) && c == 61

-- of the sign that begins with the byte, before the rest; 0 where none does
unfoldable pub sign_length : ℕ → List ℕ → ℕ
sign_length b [] = if is_sign b then 1 else 0
sign_length b (c ∷ rest) = if is_long_sign b c then 2 else if is_sign b then 1 else 0

-- of the token at the front; 0 where none begins
unfoldable pub token_length : List ℕ → ℕ
token_length [] = 0
token_length (b ∷ rest) = if is_word_byte b then 1 + length (take_while is_word_byte rest) else if b == 34 then with_quotes (inside_from false rest) else sign_length b rest

-- ---- the grammar

abbrev pub Tokens : Type 0
Tokens = List (List ℕ)

-- the tokens after the one that is wanted
unfoldable pub after : List ℕ → Tokens → Option Tokens
after word [] = None
after word (first ∷ rest) = if bytes_eq first word then Some rest else None

-- the tokens after all that are wanted, one after the other
unfoldable pub after_all : Tokens → Tokens → Option Tokens
after_all [] tokens = Some tokens
after_all (word ∷ words) tokens = after word tokens >>= λ rest. after_all words rest

-- the first token, and those after it
abbrev pub next : Tokens → Option (List ℕ × Tokens)
next [] = None
next (first ∷ rest) = Some (first, rest)

unfoldable pub name_at : Tokens → Option (List ℕ × Tokens)
name_at tokens = do
  a ← next tokens
  if is_name a.0 then Some a else None

unfoldable pub number_at : Tokens → Option (ℕ × Tokens)
number_at tokens = do
  a ← next tokens
  n ← number_of a.0
  Some (n, a.1)

unfoldable pub string_after : Tokens → Option Tokens
string_after [] = None
string_after ([] ∷ rest) = None
string_after ((b ∷ bs) ∷ rest) = if b == 34 then Some rest else None

unfoldable pub minus_at : Tokens → Option (ℕ × Tokens)
minus_at tokens = do
  n ← number_at tokens
  Some ((2 ^ 32 - n.0) % 2 ^ 32, n.1)

unfoldable pub operand_at : Tokens → Option (ℕ × Tokens)
operand_at [] = None
operand_at (first ∷ rest) = if bytes_eq first (codes "-") then minus_at rest else number_at (first ∷ rest)

-- whether the token is `==`, or `!=`
unfoldable pub comparison : List ℕ → Option Bool
comparison token = if bytes_eq token (codes "==") then Some true else if bytes_eq token (codes "!=") then Some false else None

unfoldable pub condition_at : List ℕ → Tokens → Option (Condition × Tokens)
condition_at variable tokens = do
  a ← after_all (codes "(" ∷ variable ∷ []) tokens
  b ← next a
  e ← comparison b.0
  n ← operand_at b.1
  c ← after (codes ")") n.1
  Some (record { equal = e; number = n.0 }, c)

-- the code with one more instruction, where it still fits
unfoldable pub emitted : List Instr → Instr → Option (List Instr)
emitted code instr = if nat_lt (length code) 65536 then Some (code ++ instr ∷ []) else None

-- A statement's reader takes the code before the statement, and gives the code with the statement's.
abbrev pub Read : Type 0
Read = Option (List Instr × Tokens)

-- one instruction for tokens that were read
abbrev pub emitting : List Instr → Instr → Option Tokens → Read
emitting code instr None = None
emitting code instr (Some rest) = emitted code instr >>= λ more. Some (more, rest)

unfoldable pub getc_at : List Instr → Tokens → Read
getc_at code tokens = emitting code Getc (after_all (codes "=" ∷ codes "$fgetc" ∷ codes "(" ∷ codes "32'h8000_0000" ∷ codes ")" ∷ codes ";" ∷ []) tokens)

unfoldable pub show_at : List ℕ → List Instr → Tokens → Read
show_at variable code tokens = emitting code Show (after_all (codes "(" ∷ codes "\"%c\"" ∷ codes "," ∷ variable ∷ codes ")" ∷ codes ";" ∷ []) tokens)

unfoldable pub save_at : Instr → List Instr → Tokens → Read
save_at instr code tokens = do
  a ← after (codes "(") tokens
  b ← string_after a
  emitting code instr (after_all (codes ")" ∷ codes ";" ∷ []) b)

unfoldable pub finish_at : List Instr → Tokens → Read
finish_at code tokens = do
  a ← after (codes "(") tokens
  n ← number_at a
  emitting code (Finish n.0) (after_all (codes ")" ∷ codes ";" ∷ []) n.1)

unfoldable pub keyword_of : List ℕ → Option Keyword
keyword_of token = if bytes_eq token (codes "begin") then Some words.Begin else if bytes_eq token (codes "while") then Some words.While else if bytes_eq token (codes "if") then Some words.If
    else if bytes_eq token (codes "$write") then Some words.Write else if bytes_eq token (codes "$save") then Some words.Save else if bytes_eq token (codes "$incsave") then Some words.IncSave
    else if bytes_eq token (codes "$finish") then Some words.Finish else None

-- the code as it is where `end` has come, and what is read further otherwise
abbrev pub ended_or : List Instr → Option Tokens → Read → Read
ended_or code (Some rest) further = Some (code, rest)
ended_or code None further = further

module _ (statement : List Instr → Tokens → Read) (variable : List ℕ) where
  -- statements up to `end`, at most so many
  unfoldable pub block_from : ℕ → List Instr → Tokens → Read
  block_from zero code tokens = None
  block_from (suc n) code tokens = ended_or code (after (codes "end") tokens) (statement code tokens >>= λ x. block_from n x.0 x.1)

  -- a condition, and a statement after its jump
  unfoldable pub guarded_at : List Instr → Tokens → Option (Condition × List Instr × Tokens)
  guarded_at code tokens = do
    c ← condition_at variable tokens
    opened ← emitted code (Unless c.0 0)
    s ← statement opened c.1
    Some (c.0, s.0, s.1)

  unfoldable pub loop_at : List Instr → Tokens → Read
  loop_at code tokens = do
    g ← guarded_at code tokens
    closed ← emitted g.1 (Jump (length code))
    Some (slice_set closed (length code) (Unless g.0 (length closed)), g.2)

  unfoldable pub guard_at : List Instr → Tokens → Read
  guard_at code tokens = do
    g ← guarded_at code tokens
    Some (slice_set g.1 (length code) (Unless g.0 (length g.1)), g.2)

  unfoldable pub statement_by : Option Keyword → List ℕ → List Instr → Tokens → Read
  statement_by (Some words.Begin) first code rest = block_from (length rest) code rest
  statement_by (Some words.While) first code rest = loop_at code rest
  statement_by (Some words.If) first code rest = guard_at code rest
  statement_by (Some words.Write) first code rest = show_at variable code rest
  statement_by (Some words.Save) first code rest = save_at Save code rest
  statement_by (Some words.IncSave) first code rest = save_at IncSave code rest
  statement_by (Some words.Finish) first code rest = finish_at code rest
  statement_by None first code rest = if bytes_eq first variable then getc_at code rest else None

  unfoldable pub statement_with : List Instr → Tokens → Read
  statement_with code [] = None
  statement_with code (first ∷ rest) = statement_by (keyword_of first) first code rest

unfoldable pub statement_at : List ℕ → ℕ → List Instr → Tokens → Read
statement_at variable zero code tokens = None
statement_at variable (suc depth) code tokens = statement_with (statement_at variable depth) variable code tokens

pub record Source : Type 0 where
  pub top : List ℕ
  pub variable : List ℕ
  pub code : List Instr

unfoldable pub header_at : Tokens → Option (List ℕ × List ℕ × Tokens)
header_at tokens = do
  a ← after (codes "module") tokens
  top ← name_at a
  b ← after_all (codes ";" ∷ codes "integer" ∷ []) top.1
  variable ← name_at b
  c ← after_all (codes ";" ∷ codes "initial" ∷ []) variable.1
  Some (top.0, variable.0, c)

-- nothing after the last token
abbrev pub ended : Tokens → Option (Unit {0})
ended [] = Some tt
ended (first ∷ rest) = None

-- the code after which the process halts, where nothing stands after `endmodule`
unfoldable pub closed_at : List Instr → Tokens → Option (List Instr)
closed_at code tokens = do
  rest ← after (codes "endmodule") tokens
  end ← ended rest
  emitted code Halt

unfoldable pub source_of : Tokens → Option Source
source_of tokens = do
  h ← header_at tokens
  s ← statement_at h.1 200 [] h.2
  code ← closed_at s.0 s.1
  Some (record { top = h.0; variable = h.1; code = code })
