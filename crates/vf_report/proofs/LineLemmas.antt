-- No part of a line but its end has a newline.
use Rattle.std.proofs.Common.{◌≡◌, ◌≢◌, ℕ, ◌/◌, ◌%◌, ◌==◌, Bool, true, false, not, List, [], ◌∷◌, ◌++◌, length, get_or, slice_index, Option, Some, None, codes, refl, inl, inr, arith}
use Rattle.std.specs.Prelude.{decimal, if◌then◌else◌}
use Rattle.std.specs.List.{list_all}
use Rattle.std.specs.Str.{bytes_eq}
use Rattle.std.proofs.lemmas.Bool.{cases_lt}
use Rattle.std.proofs.lemmas.Bool.Decides.{nat_tests}
use Rattle.std.proofs.lemmas.List.{get_or_past}
use Rattle.std.proofs.lemmas.List.Elements.{All-append, All-cons, All-nil}
use Rattle.std.proofs.lemmas.List.Sums.{AllPass-from_list_all}
use Rattle.hex.specs.Hex.{encode_with, encode_lower, lower_digits}
use Rattle.vf_base.specs.declared.run.Ending.{Ending}
use Rattle.vf_base.specs.declared.run.Ending.TheVariants.{Finish, Stop, Drained, Turns, Output, Events, Time}
use Rattle.vf_base.specs.declared.run.Outcome.{Outcome}
use Rattle.vf_base.specs.declared.run.Outcome.TheVariants.{Done, Pages}
use Rattle.vf_report.specs.Totals.{Totals}
use Rattle.vf_report.specs.Texts.{ending_text, hex_text, first_difference, expect_text, outcome_text, test_text, summary_text}
use Rattle.vf_report.specs.Laws.{HasNoNewline, IsLine}
use Rattle.vf_report.proofs.WordLemmas.{is_inner, number_word}

-- the test of one byte
abbrev is_plain : ℕ → Bool
is_plain byte = not (byte == 10)

plain_byte : (byte : ℕ) → is_plain byte ≡ true → byte ≢ 10
plain_byte byte h e = grind (arith, nat_tests, h, e)

-- a literal text, by the test of each byte
literal : (text : List ℕ) → list_all is_plain text ≡ true → HasNoNewline text
literal text h = λ k d within. plain_byte (get_or text k d) (AllPass-from_list_all is_plain text h k d within)

joined : (a b : List ℕ) → HasNoNewline a → HasNoNewline b → HasNoNewline (a ++ b)
joined a b ha hb = All-append (λ byte. byte ≢ 10) a b ha hb

-- a literal and a text after it
labelled : (label text : List ℕ) → list_all is_plain label ≡ true → HasNoNewline text → HasNoNewline (label ++ text)
labelled label text h ht = joined label text (literal label h) ht

-- a word has no newline
inner_plain : (byte : ℕ) → is_inner byte ≡ true → byte ≢ 10
inner_plain byte h e = grind (arith, nat_tests, h, e)

decimal_plain : (n : ℕ) → HasNoNewline (decimal n)
decimal_plain n = λ k d within. inner_plain (get_or (decimal n) k d) (AllPass-from_list_all is_inner (decimal n) (number_word n) k d within)

-- an element of a table without newlines, and 0 past its end
table_plain : (table : List ℕ) → HasNoNewline table → (k : ℕ) → slice_index table k ≢ 10
table_plain table h k = elim (cases_lt k (length table)) [
  | inl within ↦ h k 0 within
  | inr past ↦ rw (get_or_past table k 0 past) (λ e. absurd (omega (arith, e)))
]

encoded_plain : (table bytes : List ℕ) → HasNoNewline table → HasNoNewline (encode_with table bytes)
unfolding encode_with
encoded_plain table [] h = All-nil (λ byte. byte ≢ 10)
encoded_plain table (b ∷ bytes) h =
    All-cons (λ byte. byte ≢ 10) (slice_index table (b / 16)) (slice_index table (b % 16) ∷ encode_with table bytes) (table_plain table h (b / 16))
    (All-cons (λ byte. byte ≢ 10) (slice_index table (b % 16)) (encode_with table bytes) (table_plain table h (b % 16)) (encoded_plain table bytes h))

hex_plain : (bytes : List ℕ) → HasNoNewline (hex_text bytes)
hex_plain bytes = elim (length bytes == 0) as (λ b. HasNoNewline (if b then codes "-" else encode_lower bytes)) [
  | true ↦ literal (codes "-") refl
  | false ↦ encoded_plain lower_digits bytes (literal lower_digits refl)
]

ending_plain : (ending : Ending) → HasNoNewline (ending_text ending)
ending_plain (Finish n) = labelled (codes "finish:") (decimal n) refl (decimal_plain n)
ending_plain (Stop n) = labelled (codes "stop:") (decimal n) refl (decimal_plain n)
ending_plain Drained = literal (codes "drained") refl
ending_plain Turns = literal (codes "turns") refl
ending_plain Output = literal (codes "output") refl
ending_plain Events = literal (codes "events") refl
ending_plain Time = literal (codes "time") refl

-- a text with a label and another text after it
followed : (text label more : List ℕ) → list_all is_plain label ≡ true → HasNoNewline text → HasNoNewline more → HasNoNewline (text ++ label ++ more)
followed text label more h ht hm = joined (text ++ label) more (joined text label ht (literal label h)) hm

expect_plain : (expectation : Option (List ℕ)) (bytes : List ℕ) → HasNoNewline (expect_text expectation bytes)
expect_plain None bytes = literal (codes "none") refl
expect_plain (Some expected) bytes =
    let differs : HasNoNewline (codes "differs:" ++ decimal (length expected) ++ codes ":" ++ decimal (first_difference expected bytes)) =
    followed (codes "differs:" ++ decimal (length expected)) (codes ":") (decimal (first_difference expected bytes)) refl (labelled (codes "differs:") (decimal (length expected)) refl (decimal_plain (length expected))) (decimal_plain (first_difference expected bytes)) in
    elim (bytes_eq expected bytes) as (λ b. HasNoNewline (if b then codes "met" else codes "differs:" ++ decimal (length expected) ++ codes ":" ++ decimal (first_difference expected bytes))) [
      | true ↦ literal (codes "met") refl
      | false ↦ differs
    ]

outcome_plain : (expectation : Option (List ℕ)) (outcome : Option Outcome) → HasNoNewline (outcome_text expectation outcome)
outcome_plain expectation None = literal (codes "memory") refl
outcome_plain expectation (Some (Pages needed)) = labelled (codes "pages ") (decimal needed) refl (decimal_plain needed)
outcome_plain expectation (Some (Done ending bytes turns)) =
    let run = followed (ending_text ending) (codes " turns ") (decimal turns) refl (ending_plain ending) (decimal_plain turns) in
    let sized = followed (ending_text ending ++ codes " turns " ++ decimal turns) (codes " bytes ") (decimal (length bytes)) refl run (decimal_plain (length bytes)) in
    let shown = followed (ending_text ending ++ codes " turns " ++ decimal turns ++ codes " bytes " ++ decimal (length bytes)) (codes " out ") (hex_text bytes) refl sized (hex_plain bytes) in
    followed (ending_text ending ++ codes " turns " ++ decimal turns ++ codes " bytes " ++ decimal (length bytes) ++ codes " out " ++ hex_text bytes) (codes " expect ") (expect_text expectation bytes) refl shown (expect_plain expectation bytes)

pub test_is_line : (name : List ℕ) (expectation : Option (List ℕ)) (outcome : Option Outcome) → HasNoNewline name → IsLine (test_text name expectation outcome)
test_is_line name expectation outcome h = record {
  text = codes "test " ++ name ++ codes " " ++ outcome_text expectation outcome;
  ends = refl;
  only = followed (codes "test " ++ name) (codes " ") (outcome_text expectation outcome) refl (labelled (codes "test ") name refl h) (outcome_plain expectation outcome);
}

-- a text with a label and a number after it
counted : (text label : List ℕ) (n : ℕ) → list_all is_plain label ≡ true → HasNoNewline text → HasNoNewline (text ++ label ++ decimal n)
counted text label n h ht = followed text label (decimal n) h ht (decimal_plain n)

pub summary_is_line : (totals : Totals) → IsLine (summary_text totals)
summary_is_line t = record {
  text = codes "tests " ++ decimal t.tests ++ codes " completed " ++ decimal t.completed ++ codes " met " ++ decimal t.met ++ codes " failed " ++ decimal t.failed ++ codes " pages " ++ decimal t.pages ++ codes " memory " ++ decimal t.memory ++ codes " turns " ++ decimal t.turns;
  ends = refl;
  only =
      let tests = labelled (codes "tests ") (decimal t.tests) refl (decimal_plain t.tests) in
      let completed = counted (codes "tests " ++ decimal t.tests) (codes " completed ") t.completed refl tests in
      let met = counted (codes "tests " ++ decimal t.tests ++ codes " completed " ++ decimal t.completed) (codes " met ") t.met refl completed in
      let failed = counted (codes "tests " ++ decimal t.tests ++ codes " completed " ++ decimal t.completed ++ codes " met " ++ decimal t.met) (codes " failed ") t.failed refl met in
      let pages = counted (codes "tests " ++ decimal t.tests ++ codes " completed " ++ decimal t.completed ++ codes " met " ++ decimal t.met ++ codes " failed " ++ decimal t.failed) (codes " pages ") t.pages refl failed in
      let memory = counted (codes "tests " ++ decimal t.tests ++ codes " completed " ++ decimal t.completed ++ codes " met " ++ decimal t.met ++ codes " failed " ++ decimal t.failed ++ codes " pages " ++ decimal t.pages) (codes " memory ") t.memory refl pages in
      counted (codes "tests " ++ decimal t.tests ++ codes " completed " ++ decimal t.completed ++ codes " met " ++ decimal t.met ++ codes " failed " ++ decimal t.failed ++ codes " pages " ++ decimal t.pages ++ codes " memory " ++ decimal t.memory) (codes " turns ") t.turns refl memory;
}
