-- Names and reserved words. (docs/LANGUAGE.md, "Text and tokens"; IEEE Std 1364-2005, clause 3.7.)
use Rattle.std.specs.Prelude.{◌≡◌, ℕ, Bool, true, List, [], ◌∷◌, ◌++◌, codes}
use Rattle.std.specs.List.{list_all, list_any}
use Rattle.std.specs.Str.{bytes_eq}
use Rattle.vf_lexeme.specs.Bytes.{begins_name, is_name_byte, Ends}

-- the words that the grammar of the language quotes
abbrev pub grammar_words : List (List ℕ)
grammar_words = codes "module" ∷ codes "parameter" ∷ codes "signed" ∷ codes "wire" ∷ codes "reg" ∷ codes "input" ∷ codes "output"
    ∷ codes "tri" ∷ codes "integer" ∷ codes "time" ∷ codes "localparam" ∷ codes "assign" ∷ codes "initial" ∷ codes "always"
    ∷ codes "begin" ∷ codes "end" ∷ codes "if" ∷ codes "else" ∷ codes "case" ∷ codes "casez" ∷ codes "casex" ∷ codes "endcase"
    ∷ codes "default" ∷ codes "while" ∷ codes "repeat" ∷ codes "forever" ∷ codes "for" ∷ codes "or" ∷ codes "posedge"
    ∷ codes "negedge" ∷ codes "wait" ∷ codes "endmodule" ∷ []

-- the words of the standard that the language leaves out
abbrev pub left_out_words : List (List ℕ)
left_out_words = codes "real" ∷ codes "realtime" ∷ codes "event" ∷ codes "fork" ∷ codes "join" ∷ codes "disable" ∷ codes "force"
    ∷ codes "release" ∷ codes "deassign" ∷ codes "defparam" ∷ codes "generate" ∷ codes "endgenerate" ∷ codes "genvar" ∷ codes "task"
    ∷ codes "endtask" ∷ codes "function" ∷ codes "endfunction" ∷ codes "automatic" ∷ codes "specify" ∷ codes "endspecify"
    ∷ codes "specparam" ∷ codes "primitive" ∷ codes "endprimitive" ∷ codes "table" ∷ codes "endtable" ∷ codes "config"
    ∷ codes "endconfig" ∷ codes "inout" ∷ codes "wand" ∷ codes "wor" ∷ codes "triand" ∷ codes "trior" ∷ codes "tri0"
    ∷ codes "tri1" ∷ codes "trireg" ∷ codes "supply0" ∷ codes "supply1" ∷ codes "macromodule" ∷ codes "nand" ∷ codes "nor"
    ∷ codes "xor" ∷ codes "xnor" ∷ codes "not" ∷ codes "buf" ∷ codes "bufif0" ∷ codes "bufif1" ∷ codes "notif0" ∷ codes "notif1"
    ∷ codes "nmos" ∷ codes "pmos" ∷ codes "cmos" ∷ codes "rnmos" ∷ codes "rpmos" ∷ codes "rcmos" ∷ codes "tran" ∷ codes "rtran"
    ∷ codes "tranif0" ∷ codes "tranif1" ∷ codes "rtranif0" ∷ codes "rtranif1" ∷ codes "pullup" ∷ codes "pulldown" ∷ []

-- the reserved words
abbrev pub words : List (List ℕ)
words = grammar_words ++ left_out_words

-- a name is one of the reserved words
unfoldable pub is_reserved : List ℕ → Bool
is_reserved name = list_any (bytes_eq name) words

-- a letter or `_`, then letters, digits, `_` and `$`
abbrev pub IsName : List ℕ → Type 0
IsName [] = ⊥
IsName (first ∷ more) = (begins_name first ≡ true) × (list_all is_name_byte more ≡ true)

-- The plain name at the front of a text, and what follows it: the longest one, or the empty name where none begins there.
pub data IsNameAt (text name rest : List ℕ) : Type 0 where
  named : IsName name → Ends is_name_byte rest → text ≡ name ++ rest → IsNameAt text name rest
  unnamed : Ends begins_name text → name ≡ [] → rest ≡ text → IsNameAt text name rest
