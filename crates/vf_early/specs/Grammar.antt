-- The grammar of early designs over tokens, with the code of each statement. A jump goes to the place of an instruction in
-- the whole code, counted from 0; base is the place of a statement's first instruction.
use Rattle.std.specs.Prelude.{◌≡◌, ℕ, zero, suc, ◌+◌, ◌-◌, ◌%◌, ◌^◌, true, false, List, [], ◌∷◌, ◌++◌, length, Some, codes}
use Rattle.vf_design.specs.declared.code.Condition.{Condition}
use Rattle.vf_design.specs.declared.code.Instr.{Instr}
use Rattle.vf_design.specs.declared.code.Instr.TheVariants.{Getc, Jump, Unless, Show, Save, IncSave, Finish, Halt}
use Rattle.vf_early.specs.Words.{is_name, number_of}

-- a number, or a minus and a number, as 32 bits in two's complement
pub data IsOperand (tokens : List (List ℕ)) (bits : ℕ) : Type 0 where
  plain : (word : List ℕ) → number_of word ≡ Some bits → tokens ≡ word ∷ [] → IsOperand tokens bits
  minus : (word : List ℕ) (n : ℕ) → number_of word ≡ Some n → tokens ≡ codes "-" ∷ word ∷ [] → bits ≡ (2 ^ 32 - n) % 2 ^ 32 → IsOperand tokens bits

-- the variable, `==` or `!=`, and an operand
pub data IsCondition (variable : List ℕ) (tokens : List (List ℕ)) (condition : Condition) : Type 0 where
  equal : (operand : List (List ℕ)) → IsOperand operand condition.number → tokens ≡ variable ∷ codes "==" ∷ operand → condition.equal ≡ true → IsCondition variable tokens condition
  differs : (operand : List (List ℕ)) → IsOperand operand condition.number → tokens ≡ variable ∷ codes "!=" ∷ operand → condition.equal ≡ false → IsCondition variable tokens condition

-- statements one after the other
pub data IsSequence (Inner : ℕ → List (List ℕ) → List Instr → Type 0) : ℕ → List (List ℕ) → List Instr → Type 0 where
  nothing : {base : ℕ} → IsSequence Inner base [] []
  followed : {base : ℕ} {tokens : List (List ℕ)} {code : List Instr} (ts us : List (List ℕ)) (cs ds : List Instr) → Inner base ts cs → IsSequence Inner (base + length cs) us ds
      → tokens ≡ ts ++ us → code ≡ cs ++ ds → IsSequence Inner base tokens code

-- one statement over the statements in it
pub data IsStatementOver (Inner : ℕ → List (List ℕ) → List Instr → Type 0) (variable : List ℕ) (base : ℕ) (tokens : List (List ℕ)) (code : List Instr) : Type 0 where
  block : (inner : List (List ℕ)) → IsSequence Inner base inner code → tokens ≡ codes "begin" ∷ (inner ++ codes "end" ∷ []) → IsStatementOver Inner variable base tokens code
  loop : (test inner : List (List ℕ)) (condition : Condition) (body : List Instr) → IsCondition variable test condition → Inner (base + 1) inner body
      → tokens ≡ codes "while" ∷ codes "(" ∷ (test ++ codes ")" ∷ inner)
      → code ≡ Unless condition (base + length body + 2) ∷ (body ++ Jump base ∷ []) → IsStatementOver Inner variable base tokens code
  guard : (test inner : List (List ℕ)) (condition : Condition) (body : List Instr) → IsCondition variable test condition → Inner (base + 1) inner body
      → tokens ≡ codes "if" ∷ codes "(" ∷ (test ++ codes ")" ∷ inner)
      → code ≡ Unless condition (base + length body + 1) ∷ body → IsStatementOver Inner variable base tokens code
  getc : tokens ≡ variable ∷ codes "=" ∷ codes "$fgetc" ∷ codes "(" ∷ codes "32'h8000_0000" ∷ codes ")" ∷ codes ";" ∷ [] → code ≡ Getc ∷ [] → IsStatementOver Inner variable base tokens code
  show : tokens ≡ codes "$write" ∷ codes "(" ∷ codes "\"%c\"" ∷ codes "," ∷ variable ∷ codes ")" ∷ codes ";" ∷ [] → code ≡ Show ∷ [] → IsStatementOver Inner variable base tokens code
  save : (name : List ℕ) → tokens ≡ codes "$save" ∷ codes "(" ∷ (34 ∷ name) ∷ codes ")" ∷ codes ";" ∷ [] → code ≡ Save ∷ [] → IsStatementOver Inner variable base tokens code
  inc_save : (name : List ℕ) → tokens ≡ codes "$incsave" ∷ codes "(" ∷ (34 ∷ name) ∷ codes ")" ∷ codes ";" ∷ [] → code ≡ IncSave ∷ [] → IsStatementOver Inner variable base tokens code
  finish : (word : List ℕ) (n : ℕ) → number_of word ≡ Some n → tokens ≡ codes "$finish" ∷ codes "(" ∷ word ∷ codes ")" ∷ codes ";" ∷ [] → code ≡ Finish n ∷ [] → IsStatementOver Inner variable base tokens code

-- a statement that is at most so deep: 1 without a statement in it, else 1 more than the deepest in it
unfoldable pub IsStatement : List ℕ → ℕ → ℕ → List (List ℕ) → List Instr → Type 0
IsStatement variable zero base tokens code = ⊥
IsStatement variable (suc depth) base tokens code = IsStatementOver (IsStatement variable depth) variable base tokens code

-- the whole text: one module with one integer and one process, which halts after its statement
pub record IsSource (tokens : List (List ℕ)) (top variable : List ℕ) (code : List Instr) : Type 0 where
  pub inner : List (List ℕ)
  pub body : List Instr
  pub statement : IsStatement variable 200 0 inner body
  pub top_named : is_name top ≡ true
  pub variable_named : is_name variable ≡ true
  pub spelled : tokens ≡ codes "module" ∷ top ∷ codes ";" ∷ codes "integer" ∷ variable ∷ codes ";" ∷ codes "initial" ∷ (inner ++ codes "endmodule" ∷ [])
  pub halts : code ≡ body ++ Halt ∷ []
