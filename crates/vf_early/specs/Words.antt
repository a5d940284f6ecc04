-- Names and numbers among the words.
use Rattle.std.specs.Prelude.{ℕ, ◌^◌, Bool, false, ◌==◌, ◌&&◌, ◌||◌, not, nat_lt, List, [], ◌∷◌, ◌++◌, Option, Some, None, filter, codes, if◌then◌else◌}
use Rattle.std.specs.List.{list_all, list_any}
use Rattle.std.specs.Str.{bytes_eq}
use Rattle.std.specs.Str.Parse.{digits_value}
use Rattle.vf_early.specs.Tokens.{is_digit, is_letter, is_name_byte}

-- the words that the grammar of the whole language quotes
abbrev pub grammar_words : List (List ℕ)
grammar_words = codes "module" ∷ codes "parameter" ∷ codes "signed" ∷ codes "wire" ∷ codes "reg" ∷ codes "input" ∷ codes "output"
    ∷ codes "tri" ∷ codes "integer" ∷ codes "time" ∷ codes "localparam" ∷ codes "assign" ∷ codes "initial" ∷ codes "always"
    ∷ codes "begin" ∷ codes "end" ∷ codes "if" ∷ codes "else" ∷ codes "case" ∷ codes "casez" ∷ codes "casex" ∷ codes "endcase"
    ∷ codes "default" ∷ codes "while" ∷ codes "repeat" ∷ codes "forever" ∷ codes "for" ∷ codes "or" ∷ codes "posedge"
    ∷ codes "negedge" ∷ codes "wait" ∷ codes "endmodule" ∷ []

-- the words of the standard that the language leaves out
abbrev pub left_out_words : List (List ℕ)
left_out_words = codes "real" ∷ codes "realtime" ∷ codes "event" ∷ codes "fork" ∷ codes "join" ∷ codes "disable" ∷ codes "force"
    ∷ codes "release" ∷ codes "deassign" ∷ codes "defparam" ∷ codes "generate" ∷ codes "endgenerate" ∷ codes "genvar" ∷ codes "task"
    ∷ codes "endtask" ∷ codes "function" ∷ codes "endfunction" ∷ codes "automatic" ∷ codes "specify" ∷ codes "endspecify"
    ∷ codes "specparam" ∷ codes "primitive" ∷ codes "endprimitive" ∷ codes "table" ∷ codes "endtable" ∷ codes "config"
    ∷ codes "endconfig" ∷ codes "inout" ∷ codes "wand" ∷ codes "wor" ∷ codes "triand" ∷ codes "trior" ∷ codes "tri0"
    ∷ codes "tri1" ∷ codes "trireg" ∷ codes "supply0" ∷ codes "supply1" ∷ codes "macromodule" ∷ codes "nand" ∷ codes "nor"
    ∷ codes "xor" ∷ codes "xnor" ∷ codes "not" ∷ codes "buf" ∷ codes "bufif0" ∷ codes "bufif1" ∷ codes "notif0" ∷ codes "notif1"
    ∷ codes "nmos" ∷ codes "pmos" ∷ codes "cmos" ∷ codes "rnmos" ∷ codes "rpmos" ∷ codes "rcmos" ∷ codes "tran" ∷ codes "rtran"
    ∷ codes "tranif0" ∷ codes "tranif1" ∷ codes "rtranif0" ∷ codes "rtranif1" ∷ codes "pullup" ∷ codes "pulldown" ∷ []

unfoldable pub is_reserved : List ℕ → Bool
is_reserved word = list_any (bytes_eq word) (grammar_words ++ left_out_words)

abbrev pub begins_name : ℕ → Bool
begins_name byte = is_letter byte || byte == 95

-- a name: a letter or `_`, then letters, digits, `_` and `$` (3.7), and no reserved word
unfoldable pub is_name : List ℕ → Bool
is_name [] = false
is_name (first ∷ more) = begins_name first && list_all is_name_byte more && not (is_reserved (first ∷ more))

abbrev pub is_number_byte : ℕ → Bool
is_number_byte byte = is_digit byte || byte == 95

-- decimal digits and `_`, of which a digit is the first (3.5.1)
unfoldable pub is_number : List ℕ → Bool
is_number [] = false
is_number (first ∷ more) = is_digit first && list_all is_number_byte more

-- the digits of a number
abbrev pub digits_of : List ℕ → List ℕ
digits_of word = filter (λ byte. not (byte == 95)) word

-- the value of a number of at most 2^31 - 1
unfoldable pub number_of : List ℕ → Option ℕ
number_of word = if is_number word && nat_lt (digits_value 10 (digits_of word)) (2 ^ 31) then Some (digits_value 10 (digits_of word)) else None
