-- A journal's text tells the journal: its lines are words, and the words of a line tell its entry.
use Rattle.std.proofs.Common.{◌≡◌, ◌≢◌, ℕ, zero, suc, ◌+◌, ◌<◌, ◌≤◌, ◌^◌, ◌==◌, nat_lt, Bool, true, false, not, cond, ◌&&◌, List, [], ◌∷◌, ◌++◌, length, take, Option, Some, None, IfSome, option_map, unwrap_or, slice_get, get_or, codes, if◌then◌else◌, refl, sym, ◌∙◌, ap, ap₂, subst, append_assoc, arith}
use Rattle.std.specs.Prelude.{decimal, position}
use Rattle.std.specs.List.{position_or_len}
use Rattle.std.specs.List.{list_all}
use Rattle.std.specs.Str.{bytes_eq}
use Rattle.std.specs.Str.Parse.{digits_value}
use Rattle.std.specs.Char.{is_ascii_alphabetic}
use Rattle.std.proofs.lemmas.Bool.{false≢true, false_from_ne_true, and_parts, ltb-false, lt-ltb}
use Rattle.std.proofs.lemmas.Bool.Decides.{nat_tests}
use Rattle.std.proofs.lemmas.Fmt.{decimal_is_IsNumeral}
use Rattle.std.proofs.lemmas.Option.{slice_get_within}
use Rattle.std.proofs.lemmas.Slice.Eq.{bytes_eq-Decides}
use Rattle.vf_base.specs.declared.names.Job.{Job}
use Rattle.vf_base.specs.declared.names.Job.TheVariants.{Reach, Finish}
use Rattle.vf_base.specs.declared.names.NodeNo.{NodeNo}
use Rattle.vf_plan.specs.declared.limits.TheConstants.{LONGEST_NAME}
use Rattle.vf_plan.specs.declared.plan.Node.{Node}
use Rattle.vf_plan.specs.Form.{is_name, is_name_byte}
use Rattle.vf_plan.specs.Reading.{node_named}
use Rattle.vf_plan.specs.Rules.{IsPlan, IsNodeAfter}
use Rattle.vf_journal.specs.declared.entry.Entry.{Entry}
use Rattle.vf_journal.specs.declared.entry.Entry.TheVariants.{Start, Saved, Pass, End, Pages, Copy, Lost, Short, Evict, Retire, Rest}
use Rattle.vf_report.specs.Journal.{name_in, name_of, origin_text, entry_text, lines_text, journal_text}
use Rattle.vf_report.specs.Laws.{IsNodeOf, IsJobOf, IsEntryOf, AreEntriesOf, TellsJournals}
use Rattle.vf_report.proofs.WordLemmas.{is_inner, is_word, and_both, number_word}

-- ---- words and lines

-- two words that stand before a blank or a newline are one word where the texts are one
split : (a b : List ℕ) (s t : ℕ) (x y : List ℕ) → is_word a ≡ true → is_word b ≡ true → is_inner s ≡ false → is_inner t ≡ false
    → a ++ s ∷ x ≡ b ++ t ∷ y → (a ≡ b) × (s ≡ t) × (x ≡ y)
split [] [] s t x y wa wb hs ht e = (refl, head s t x y e, tail s t x y e)
  where
    head : (s t : ℕ) (x y : List ℕ) → s ∷ x ≡ t ∷ y → s ≡ t
    head s t x y e = cc

    tail : (s t : ℕ) (x y : List ℕ) → s ∷ x ≡ t ∷ y → x ≡ y
    tail s t x y e = cc
split [] (c ∷ b) s t x y wa wb hs ht e =
    let inner = (and_parts (is_inner c) (is_word b) wb).0 in
    absurd (false≢true (sym hs ∙ (ap is_inner (ap (λ l. get_or l 0 0) e) ∙ inner)))
split (c ∷ a) [] s t x y wa wb hs ht e =
    let inner = (and_parts (is_inner c) (is_word a) wa).0 in
    absurd (false≢true (sym ht ∙ (ap is_inner (sym (ap (λ l. get_or l 0 0) e)) ∙ inner)))
split (c ∷ a) (d ∷ b) s t x y wa wb hs ht e =
    let more = split a b s t x y (and_parts (is_inner c) (is_word a) wa).1 (and_parts (is_inner d) (is_word b) wb).1 hs ht (rest c d (a ++ s ∷ x) (b ++ t ∷ y) e) in
    (ap₂ (λ z zs. z ∷ zs) (ap (λ l. get_or l 0 0) e) more.0, more.1, more.2)
  where
    rest : (c d : ℕ) (x y : List ℕ) → c ∷ x ≡ d ∷ y → x ≡ y
    rest c d x y e = cc

-- a line of one word or more, and the text after it
abbrev line_of : List ℕ → List (List ℕ) → List ℕ → List ℕ
line_of word [] rest = word ++ 10 ∷ rest
line_of word (next ∷ more) rest = word ++ 32 ∷ line_of next more rest

same_line : (a : List ℕ) (us : List (List ℕ)) (b : List ℕ) (vs : List (List ℕ)) (x y : List ℕ)
    → is_word a ≡ true → list_all is_word us ≡ true → is_word b ≡ true → list_all is_word vs ≡ true
    → line_of a us x ≡ line_of b vs y → (a ≡ b) × (us ≡ vs) × (x ≡ y)
same_line a [] b [] x y wa wus wb wvs e = let s = split a b 10 10 x y wa wb refl refl e in (s.0, refl, s.2)
same_line a [] b (d ∷ vs) x y wa wus wb wvs e =
    let s = split a b 10 32 x (line_of d vs y) wa wb refl refl e in
    absurd (false≢true (ap (λ n. n == 10) (sym s.1)))
same_line a (c ∷ us) b [] x y wa wus wb wvs e =
    let s = split a b 32 10 (line_of c us x) y wa wb refl refl e in
    absurd (false≢true (ap (λ n. n == 10) s.1))
same_line a (c ∷ us) b (d ∷ vs) x y wa wus wb wvs e =
    let s = split a b 32 32 (line_of c us x) (line_of d vs y) wa wb refl refl e in
    let wc = and_parts (is_word c) (list_all is_word us) wus in
    let wd = and_parts (is_word d) (list_all is_word vs) wvs in
    let more = same_line c us d vs x y wc.0 wc.1 wd.0 wd.1 s.2 in
    (s.0, ap₂ (λ z zs. z ∷ zs) more.0 more.1, more.2)

abbrev is_text : List ℕ → Bool
is_text [] = false
is_text (b ∷ text) = true

some_line : (word : List ℕ) (more : List (List ℕ)) (rest : List ℕ) → line_of word more rest ≢ []
some_line [] [] rest e = false≢true (sym (ap is_text e))
some_line [] (next ∷ more) rest e = false≢true (sym (ap is_text e))
some_line (b ∷ word) [] rest e = false≢true (sym (ap is_text e))
some_line (b ∷ word) (next ∷ more) rest e = false≢true (sym (ap is_text e))

-- ---- numbers and names are words

letter_inner : (b : ℕ) → is_ascii_alphabetic b ≡ true → is_inner b ≡ true
letter_inner b h = grind (arith, nat_tests, h)

name_byte_inner : (b : ℕ) → is_name_byte b ≡ true → is_inner b ≡ true
name_byte_inner b h = grind (arith, nat_tests, h)

name_bytes_word : (name : List ℕ) → list_all is_name_byte name ≡ true → is_word name ≡ true
name_bytes_word [] h = refl
name_bytes_word (b ∷ name) h =
    let parts = and_parts (is_name_byte b) (list_all is_name_byte name) h in
    and_both (is_inner b) (is_word name) (name_byte_inner b parts.0) (name_bytes_word name parts.1)

-- a name is a word, and no dash
name_word : (name : List ℕ) → is_name name ≡ true → (is_word name ≡ true) × (bytes_eq name (codes "-") ≡ false)
unfolding is_name
name_word [] h = absurd (false≢true h)
name_word (first ∷ more) h =
    let parts = and_parts (is_ascii_alphabetic first && nat_lt (length more) LONGEST_NAME) (list_all is_name_byte more) h in
    let letter = (and_parts (is_ascii_alphabetic first) (nat_lt (length more) LONGEST_NAME) parts.0).0 in
    (and_both (is_inner first) (is_word more) (letter_inner first letter) (name_bytes_word more parts.1), no_dash first more letter)
  where
    no_dash : (first : ℕ) (more : List ℕ) → is_ascii_alphabetic first ≡ true → bytes_eq (first ∷ more) (codes "-") ≡ false
    no_dash first more h =
        false_from_ne_true (bytes_eq (first ∷ more) (codes "-"))
        (λ same. false≢true (sym (ap (λ l. is_ascii_alphabetic (get_or l 0 0)) ((bytes_eq-Decides (first ∷ more) (codes "-")).0 same)) ∙ h))

same_bytes : (word : List ℕ) → bytes_eq word word ≡ true
same_bytes word = (bytes_eq-Decides word word).1 refl

-- ---- nodes of a plan and their names

-- what stands in a list and passes a test that nothing before it passes is what is found
module _ {X : Type 0} (test : X → Bool) where
  missing : (xs : List X) → position test xs ≡ None → length xs ≤ position_or_len test xs
  missing xs h = by (nat_lt (position_or_len test xs) (length xs)) refl h
    where
      by : (b : Bool) → nat_lt (position_or_len test xs) (length xs) ≡ b → cond b (Some (position_or_len test xs)) None ≡ None → length xs ≤ position_or_len test xs
      by true e g = cc
      by false e g = ltb-false (position_or_len test xs) (length xs) e

  place_there : (xs : List X) (n : ℕ) (x : X) → slice_get xs n ≡ Some x → test x ≡ true → length (take n xs) ≤ position_or_len test (take n xs) → position_or_len test xs ≡ n
  place_there [] n x e passes h = cc
  place_there (y ∷ xs) zero x e passes h =
      let is : y ≡ x = ap (λ o. unwrap_or o y) e in
      ap (λ b. cond (not b) (1 + position_or_len test xs) 0) (ap test is ∙ passes)
  place_there (y ∷ xs) (suc n) x e passes h = by (test y) refl (λ g. place_there xs n x e passes g)
    where
      by : (b : Bool) → test y ≡ b → (length (take n xs) ≤ position_or_len test (take n xs) → position_or_len test xs ≡ n) → position_or_len test (y ∷ xs) ≡ suc n
      by true g rest =
          let place : position_or_len test (y ∷ take n xs) ≡ 0 = ap (λ b. cond (not b) (1 + position_or_len test (take n xs)) 0) g in
          absurd (omega (arith, h, place))
      by false g rest =
          let before : position_or_len test (y ∷ take n xs) ≡ 1 + position_or_len test (take n xs) = ap (λ b. cond (not b) (1 + position_or_len test (take n xs)) 0) g in
          let place : position_or_len test (y ∷ xs) ≡ 1 + position_or_len test xs = ap (λ b. cond (not b) (1 + position_or_len test xs) 0) g in
          let more = rest (omega (arith, h, before)) in
          omega (arith, place, more)

  position_there : (xs : List X) (n : ℕ) (x : X) → slice_get xs n ≡ Some x → test x ≡ true → position test (take n xs) ≡ None → position test xs ≡ Some n
  position_there xs n x e passes new =
      let place = place_there xs n x e passes (missing (take n xs) new) in
      ap (λ k. cond (nat_lt k (length xs)) (Some k) None) place ∙ ap (λ b. cond b (Some n) None) (lt-ltb n (length xs) (slice_get_within xs n x e))

-- a name that no node before has is found where its node stands
found_there : (nodes : List Node) (n : ℕ) (node : Node) → slice_get nodes n ≡ Some node → node_named node.name (take n nodes) ≡ None → node_named node.name nodes ≡ Some n
found_there nodes n node e new = position_there (λ (other : Node). bytes_eq node.name other.name) nodes n node e (same_bytes node.name) new

abbrev node_no : ℕ → NodeNo
node_no n = record { 0 = n }

abbrev node_from : List Node → List ℕ → Option NodeNo
node_from plan name = option_map node_no (node_named name plan)

-- a node of the plan: its name is a word and no dash, and tells the node
record HasName (plan : List Node) (n : NodeNo) : Type 0 where
  pub word : is_word (name_of plan n) ≡ true
  pub no_dash : bytes_eq (name_of plan n) (codes "-") ≡ false
  pub tells : node_from plan (name_of plan n) ≡ Some n

-- an element stands at each number within a list
standing : {A : Type 0} (xs : List A) (k : ℕ) → k < length xs → (x : A) × (slice_get xs k ≡ Some x)
standing [] k h = absurd (omega (arith, h))
standing (x ∷ xs) zero h = (x, refl)
standing (x ∷ xs) (suc k) h = standing xs k (omega (arith, h))

has_name : (plan : List Node) → IsPlan plan → (n : NodeNo) → IsNodeOf plan n → HasName plan n
has_name plan lawful n within =
    let found = standing plan n.0 within in
    let node = found.0 in
    let rules : IsNodeAfter (take n.0 plan) node = subst (λ o. IfSome o (IsNodeAfter (take n.0 plan))) found.1 (lawful.each n.0) in
    let name = name_word node.name rules.name in
    let is : name_of plan n ≡ node.name = ap name_in found.1 in
    record {
      word = ap is_word is ∙ name.0;
      no_dash = ap (λ w. bytes_eq w (codes "-")) is ∙ name.1;
      tells = ap (node_from plan) is ∙ ap (option_map node_no) (found_there plan n.0 node found.1 rules.new);
    }

-- ---- what the words of a line tell

abbrev word_of_job : Job → List ℕ
word_of_job (Reach n) = codes "reach"
word_of_job (Finish n) = codes "finish"

abbrev node_of_job : Job → NodeNo
node_of_job (Reach n) = n
node_of_job (Finish n) = n

abbrev words_of_base : List Node → Option NodeNo → List (List ℕ)
words_of_base plan None = []
words_of_base plan (Some n) = codes "base" ∷ name_of plan n ∷ []

abbrev first_word : Entry → List ℕ
first_word (Start job origin) = codes "start"
first_word (Saved node turn pages base) = codes "save"
first_word (Pass node turn) = codes "pass"
first_word (End job turn) = codes "end"
first_word (Pages job turn pages) = codes "pages"
first_word (Copy job node) = codes "copy"
first_word (Lost job turn) = codes "lost"
first_word (Short job turn) = codes "short"
first_word (Evict node) = codes "evict"
first_word (Retire node) = codes "retire"
first_word Rest = codes "rest"

abbrev more_words : List Node → Entry → List (List ℕ)
more_words plan (Start job origin) = word_of_job job ∷ name_of plan (node_of_job job) ∷ codes "from" ∷ origin_text plan origin ∷ []
more_words plan (Saved node turn pages base) = name_of plan node ∷ codes "at" ∷ decimal turn ∷ codes "pages" ∷ decimal pages ∷ words_of_base plan base
more_words plan (Pass node turn) = name_of plan node ∷ codes "at" ∷ decimal turn ∷ []
more_words plan (End job turn) = word_of_job job ∷ name_of plan (node_of_job job) ∷ codes "at" ∷ decimal turn ∷ []
more_words plan (Pages job turn pages) = word_of_job job ∷ name_of plan (node_of_job job) ∷ codes "at" ∷ decimal turn ∷ codes "needs" ∷ decimal pages ∷ []
more_words plan (Copy job node) = word_of_job job ∷ name_of plan (node_of_job job) ∷ codes "from" ∷ name_of plan node ∷ []
more_words plan (Lost job turn) = word_of_job job ∷ name_of plan (node_of_job job) ∷ codes "at" ∷ decimal turn ∷ []
more_words plan (Short job turn) = word_of_job job ∷ name_of plan (node_of_job job) ∷ codes "at" ∷ decimal turn ∷ []
more_words plan (Evict node) = name_of plan node ∷ []
more_words plan (Retire node) = name_of plan node ∷ []
more_words plan Rest = []

grouped : (a b c d e f g h i j : List ℕ) → (a ++ b ++ c ++ d ++ e ++ f ++ (g ++ h)) ++ i ++ j ≡ a ++ (b ++ (c ++ (d ++ (e ++ (f ++ (g ++ (h ++ (i ++ j))))))))
grouped a b c d e f g h i j = simp append_assoc

-- a line is its words
line_is : (plan : List Node) (e : Entry) (rest : List ℕ) → entry_text plan e ++ codes "\n" ++ rest ≡ line_of (first_word e) (more_words plan e) rest
line_is plan (Start (Reach n) None) rest = simp append_assoc
line_is plan (Start (Reach n) (Some m)) rest = simp append_assoc
line_is plan (Start (Finish n) None) rest = simp append_assoc
line_is plan (Start (Finish n) (Some m)) rest = simp append_assoc
line_is plan (Saved node turn pages None) rest = simp append_assoc
line_is plan (Saved node turn pages (Some m)) rest =
    grouped (codes "save ") (name_of plan node) (codes " at ") (decimal turn) (codes " pages ") (decimal pages) (codes " base ") (name_of plan m) (codes "\n") rest
line_is plan (Pass node turn) rest = simp append_assoc
line_is plan (End (Reach n) turn) rest = simp append_assoc
line_is plan (End (Finish n) turn) rest = simp append_assoc
line_is plan (Pages (Reach n) turn pages) rest = simp append_assoc
line_is plan (Pages (Finish n) turn pages) rest = simp append_assoc
line_is plan (Copy (Reach n) node) rest = simp append_assoc
line_is plan (Copy (Finish n) node) rest = simp append_assoc
line_is plan (Lost (Reach n) turn) rest = simp append_assoc
line_is plan (Lost (Finish n) turn) rest = simp append_assoc
line_is plan (Short (Reach n) turn) rest = simp append_assoc
line_is plan (Short (Finish n) turn) rest = simp append_assoc
line_is plan (Evict node) rest = simp append_assoc
line_is plan (Retire node) rest = simp append_assoc
line_is plan Rest rest = simp append_assoc

-- ---- from the words back to the entry

abbrev both : {A B C : Type 0} → (A → B → C) → Option A → Option B → Option C
both f (Some a) (Some b) = Some (f a b)
both f (Some a) None = None
both f None (Some b) = None
both f None None = None

abbrev job_from : List Node → List ℕ → List ℕ → Option Job
job_from plan word name =
    if bytes_eq word (codes "reach") then option_map (λ n. Reach n) (node_from plan name) else option_map (λ n. Finish n) (node_from plan name)

abbrev origin_from : List Node → List ℕ → Option (Option NodeNo)
origin_from plan word = if bytes_eq word (codes "-") then Some None else option_map (λ n. Some n) (node_from plan word)

abbrev base_from : List Node → List (List ℕ) → Option (Option NodeNo)
base_from plan [] = Some None
base_from plan (word ∷ []) = None
base_from plan (word ∷ name ∷ more) = option_map (λ n. Some n) (node_from plan name)

abbrev number_from : List ℕ → ℕ
number_from word = digits_value 10 word

-- an entry that has a job and a turn
abbrev turned_from : List Node → (Job → ℕ → Entry) → List (List ℕ) → Option Entry
turned_from plan entry (word ∷ name ∷ at ∷ turn ∷ []) = option_map (λ job. entry job (number_from turn)) (job_from plan word name)
turned_from plan entry _ = None

abbrev named_from : List Node → (NodeNo → Entry) → List (List ℕ) → Option Entry
named_from plan entry (name ∷ []) = option_map entry (node_from plan name)
named_from plan entry _ = None

abbrev start_from : List Node → List (List ℕ) → Option Entry
start_from plan (word ∷ name ∷ from ∷ origin ∷ []) = both (λ job o. Start job o) (job_from plan word name) (origin_from plan origin)
start_from plan _ = None

abbrev saved_from : List Node → List (List ℕ) → Option Entry
saved_from plan (name ∷ at ∷ turn ∷ word ∷ pages ∷ base) = both (λ n b. Saved n (number_from turn) (number_from pages) b) (node_from plan name) (base_from plan base)
saved_from plan _ = None

abbrev pass_from : List Node → List (List ℕ) → Option Entry
pass_from plan (name ∷ at ∷ turn ∷ []) = option_map (λ n. Pass n (number_from turn)) (node_from plan name)
pass_from plan _ = None

abbrev pages_from : List Node → List (List ℕ) → Option Entry
pages_from plan (word ∷ name ∷ at ∷ turn ∷ needs ∷ pages ∷ []) = option_map (λ job. Pages job (number_from turn) (number_from pages)) (job_from plan word name)
pages_from plan _ = None

abbrev copy_from : List Node → List (List ℕ) → Option Entry
copy_from plan (word ∷ name ∷ from ∷ node ∷ []) = both (λ job n. Copy job n) (job_from plan word name) (node_from plan node)
copy_from plan _ = None

abbrev entry_from : List Node → List ℕ → List (List ℕ) → Option Entry
entry_from plan word more =
    if bytes_eq word (codes "start") then start_from plan more
    else if bytes_eq word (codes "save") then saved_from plan more
    else if bytes_eq word (codes "pass") then pass_from plan more
    else if bytes_eq word (codes "end") then turned_from plan (λ job turn. End job turn) more
    else if bytes_eq word (codes "pages") then pages_from plan more
    else if bytes_eq word (codes "copy") then copy_from plan more
    else if bytes_eq word (codes "lost") then turned_from plan (λ job turn. Lost job turn) more
    else if bytes_eq word (codes "short") then turned_from plan (λ job turn. Short job turn) more
    else if bytes_eq word (codes "evict") then named_from plan (λ n. Evict n) more
    else if bytes_eq word (codes "retire") then named_from plan (λ n. Retire n) more
    else Some Rest

number_back : (n : ℕ) → n < 2 ^ 64 → number_from (decimal n) ≡ n
number_back n h = (decimal_is_IsNumeral n h).1

both_some : {A B C : Type 0} (f : A → B → C) (a : Option A) (b : Option B) (x : A) (y : B) → a ≡ Some x → b ≡ Some y → both f a b ≡ Some (f x y)
both_some f a b x y ha hb = ap₂ (both f) ha hb

module _ (plan : List Node) (lawful : IsPlan plan) where
  name_back : (n : NodeNo) → IsNodeOf plan n → node_from plan (name_of plan n) ≡ Some n
  name_back n h = (has_name plan lawful n h).tells

  job_back : (job : Job) → IsJobOf plan job → job_from plan (word_of_job job) (name_of plan (node_of_job job)) ≡ Some job
  job_back (Reach n) h = ap (option_map (λ n. Reach n)) (name_back n h)
  job_back (Finish n) h = ap (option_map (λ n. Finish n)) (name_back n h)

  origin_back : (origin : Option NodeNo) → IfSome origin (IsNodeOf plan) → origin_from plan (origin_text plan origin) ≡ Some origin
  origin_back None h = refl
  origin_back (Some n) h =
      let name = has_name plan lawful n h in
      ap (λ b. if b then Some None else option_map (λ n. Some n) (node_from plan (name_of plan n))) name.no_dash ∙ ap (option_map (λ n. Some n)) name.tells

  base_back : (base : Option NodeNo) → IfSome base (IsNodeOf plan) → base_from plan (words_of_base plan base) ≡ Some base
  base_back None h = refl
  base_back (Some n) h = ap (option_map (λ n. Some n)) (name_back n h)

  turned_back : (entry : Job → ℕ → Entry) (job : Job) (turn : ℕ) → IsJobOf plan job → turn < 2 ^ 64
      → turned_from plan entry (word_of_job job ∷ name_of plan (node_of_job job) ∷ codes "at" ∷ decimal turn ∷ []) ≡ Some (entry job turn)
  turned_back entry job turn h small = ap (option_map (λ j. entry j (number_from (decimal turn)))) (job_back job h) ∙ ap (λ t. Some (entry job t)) (number_back turn small)

  entry_back : (e : Entry) → IsEntryOf plan e → entry_from plan (first_word e) (more_words plan e) ≡ Some e
  entry_back (Start job origin) h = both_some (λ j o. Start j o) (job_from plan (word_of_job job) (name_of plan (node_of_job job))) (origin_from plan (origin_text plan origin)) job origin (job_back job h.0) (origin_back origin h.1)
  entry_back (Saved node turn pages base) h =
      both_some (λ n b. Saved n (number_from (decimal turn)) (number_from (decimal pages)) b) (node_from plan (name_of plan node)) (base_from plan (words_of_base plan base)) node base (name_back node h.0) (base_back base h.3)
      ∙ ap₂ (λ t p. Some (Saved node t p base)) (number_back turn h.1) (number_back pages h.2)
  entry_back (Pass node turn) h = ap (option_map (λ n. Pass n (number_from (decimal turn)))) (name_back node h.0) ∙ ap (λ t. Some (Pass node t)) (number_back turn h.1)
  entry_back (End job turn) h = turned_back (λ j t. End j t) job turn h.0 h.1
  entry_back (Pages job turn pages) h =
      ap (option_map (λ j. Pages j (number_from (decimal turn)) (number_from (decimal pages)))) (job_back job h.0)
      ∙ ap₂ (λ t p. Some (Pages job t p)) (number_back turn h.1) (number_back pages h.2)
  entry_back (Copy job node) h = both_some (λ j n. Copy j n) (job_from plan (word_of_job job) (name_of plan (node_of_job job))) (node_from plan (name_of plan node)) job node (job_back job h.0) (name_back node h.1)
  entry_back (Lost job turn) h = turned_back (λ j t. Lost j t) job turn h.0 h.1
  entry_back (Short job turn) h = turned_back (λ j t. Short j t) job turn h.0 h.1
  entry_back (Evict node) h = ap (option_map (λ n. Evict n)) (name_back node h)
  entry_back (Retire node) h = ap (option_map (λ n. Retire n)) (name_back node h)
  entry_back Rest h = refl

  -- ---- the words of an entry are words

  first_is_word : (e : Entry) → is_word (first_word e) ≡ true
  first_is_word (Start job origin) = refl
  first_is_word (Saved node turn pages base) = refl
  first_is_word (Pass node turn) = refl
  first_is_word (End job turn) = refl
  first_is_word (Pages job turn pages) = refl
  first_is_word (Copy job node) = refl
  first_is_word (Lost job turn) = refl
  first_is_word (Short job turn) = refl
  first_is_word (Evict node) = refl
  first_is_word (Retire node) = refl
  first_is_word Rest = refl

  with_word : (word : List ℕ) (more : List (List ℕ)) → is_word word ≡ true → list_all is_word more ≡ true → list_all is_word (word ∷ more) ≡ true
  with_word word more h k = and_both (is_word word) (list_all is_word more) h k

  named : (n : NodeNo) (more : List (List ℕ)) → IsNodeOf plan n → list_all is_word more ≡ true → list_all is_word (name_of plan n ∷ more) ≡ true
  named n more h k = with_word (name_of plan n) more (has_name plan lawful n h).word k

  numbered : (n : ℕ) (more : List (List ℕ)) → list_all is_word more ≡ true → list_all is_word (decimal n ∷ more) ≡ true
  numbered n more k = with_word (decimal n) more (number_word n) k

  jobbed : (job : Job) (more : List (List ℕ)) → IsJobOf plan job → list_all is_word more ≡ true → list_all is_word (word_of_job job ∷ name_of plan (node_of_job job) ∷ more) ≡ true
  jobbed (Reach n) more h k = named n more h k
  jobbed (Finish n) more h k = named n more h k

  origin_word : (origin : Option NodeNo) → IfSome origin (IsNodeOf plan) → is_word (origin_text plan origin) ≡ true
  origin_word None h = refl
  origin_word (Some n) h = (has_name plan lawful n h).word

  base_words : (base : Option NodeNo) → IfSome base (IsNodeOf plan) → list_all is_word (words_of_base plan base) ≡ true
  base_words None h = refl
  base_words (Some n) h = named n [] h refl

  turned_words : (job : Job) (turn : ℕ) → IsJobOf plan job → list_all is_word (word_of_job job ∷ name_of plan (node_of_job job) ∷ codes "at" ∷ decimal turn ∷ []) ≡ true
  turned_words job turn h = jobbed job (codes "at" ∷ decimal turn ∷ []) h (numbered turn [] refl)

  more_are_words : (e : Entry) → IsEntryOf plan e → list_all is_word (more_words plan e) ≡ true
  more_are_words (Start job origin) h = jobbed job (codes "from" ∷ origin_text plan origin ∷ []) h.0 (with_word (origin_text plan origin) [] (origin_word origin h.1) refl)
  more_are_words (Saved node turn pages base) h =
      named node (codes "at" ∷ decimal turn ∷ codes "pages" ∷ decimal pages ∷ words_of_base plan base) h.0
      (numbered turn (codes "pages" ∷ decimal pages ∷ words_of_base plan base) (numbered pages (words_of_base plan base) (base_words base h.3)))
  more_are_words (Pass node turn) h = named node (codes "at" ∷ decimal turn ∷ []) h.0 (numbered turn [] refl)
  more_are_words (End job turn) h = turned_words job turn h.0
  more_are_words (Pages job turn pages) h =
      jobbed job (codes "at" ∷ decimal turn ∷ codes "needs" ∷ decimal pages ∷ []) h.0 (numbered turn (codes "needs" ∷ decimal pages ∷ []) (numbered pages [] refl))
  more_are_words (Copy job node) h = jobbed job (codes "from" ∷ name_of plan node ∷ []) h.0 (named node [] h.1 refl)
  more_are_words (Lost job turn) h = turned_words job turn h.0
  more_are_words (Short job turn) h = turned_words job turn h.0
  more_are_words (Evict node) h = named node [] h refl
  more_are_words (Retire node) h = named node [] h refl
  more_are_words Rest h = refl

  -- ---- whole journals

  same_lines : (a b : List Entry) → AreEntriesOf plan a → AreEntriesOf plan b → lines_text plan a ≡ lines_text plan b → a ≡ b
  same_lines [] [] ha hb e = refl
  same_lines [] (d ∷ b) ha hb e = absurd (some_line (first_word d) (more_words plan d) (lines_text plan b) (sym (line_is plan d (lines_text plan b)) ∙ sym e))
  same_lines (c ∷ a) [] ha hb e = absurd (some_line (first_word c) (more_words plan c) (lines_text plan a) (sym (line_is plan c (lines_text plan a)) ∙ e))
  same_lines (c ∷ a) (d ∷ b) ha hb e =
      let lines = sym (line_is plan c (lines_text plan a)) ∙ (e ∙ line_is plan d (lines_text plan b)) in
      let same = same_line (first_word c) (more_words plan c) (first_word d) (more_words plan d) (lines_text plan a) (lines_text plan b)
      (first_is_word c) (more_are_words c ha.0) (first_is_word d) (more_are_words d hb.0) lines in
      let entries : Some c ≡ Some d = sym (entry_back c ha.0) ∙ (ap₂ (entry_from plan) same.0 same.1 ∙ entry_back d hb.0) in
      ap₂ (λ z zs. z ∷ zs) (ap (λ o. unwrap_or o c) entries) (same_lines a b ha.1 hb.1 same.2)

  head_is : (journal : List Entry) → journal_text plan journal ≡ line_of (codes "journal") (decimal (length journal) ∷ []) (lines_text plan journal)
  head_is journal = simp append_assoc

  pub journals_told : TellsJournals plan
  journals_told a b ha hb e =
      let heads = sym (head_is a) ∙ (e ∙ head_is b) in
      let same = same_line (codes "journal") (decimal (length a) ∷ []) (codes "journal") (decimal (length b) ∷ []) (lines_text plan a) (lines_text plan b)
      refl (numbered (length a) [] refl) refl (numbered (length b) [] refl) heads in
      same_lines a b ha hb same.2
