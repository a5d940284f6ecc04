-- How far a solo run has come.
use Rattle.std.proofs.Common.{◌≡◌, ℕ, suc, ◌+◌, ◌*◌, ◌/◌, ◌<◌, ◌≤◌, Bool, true, false, ◌||◌, ◌==◌, List, [], ◌∷◌, ◌++◌, length, replicate, nat_lt, slice_set, refl, sym, ◌∙◌, ap, ap₂, subst, arith, ⊎_elim}
use Rattle.std.proofs.lemmas.Bool.{cases_lt, eqb-true, eqb-false, le-ltb}
use Rattle.std.proofs.lemmas.List.{get_or-set_same, get_or-set_other, length-set, length-replicate, get_or-replicate}
use Rattle.vf_base.specs.declared.run.Header.{Header}
use Rattle.vf_base.specs.declared.run.Limits.{Limits}
use Rattle.vf_base.specs.declared.run.Ending.{Ending}
use Rattle.vf_base.specs.declared.write.Write.{Write}
use Rattle.vf_machine.specs.declared.mark.Mark.{Mark}
use Rattle.vf_machine.specs.declared.mark.Mark.TheVariants as marks
use Rattle.vf_machine.specs.Search.{count_below}
use Rattle.vf_machine.specs.Run.{moment_at, text_at, turn_at, turn_of, mark_at, is_ending, words_at}
use Rattle.vf_machine.specs.Pages.{page_count, is_touched, pages_touched, page_differs}
use Rattle.vf_machine.specs.Writes.{IsChange, written, writes_page}
use Rattle.vf_machine.proofs.CallerLemmas.{NoneBelow, none_below_more, reads_once, moment_at-zero, moment_at-suc, text_at-zero, text_at-suc, turn-counts, changed_pages_lem, is_touched-zero, is_touched-suc, KeepsWithin, count_below-ext}
use Rattle.vf_design.specs.declared.turn.Turn.{Turn}
use Rattle.vf_design.specs.Program.{Program, IsWellFormed}
use Rattle.vf_design.specs.State.{IsSound}
use Rattle.vf_design.specs.Step.{start}
use Rattle.vf_design.specs.Words.{words_of, machine_of}
use Rattle.vf_design.proofs.CallerLemmas.{start_sound, length-words_of}
use Rattle.vf_design.specs.Turn.{IsTurn}
use Rattle.vf_solo.proofs.FlagLemmas.{count_below-none}
use Rattle.vf_solo.specs.Flags.{flag_at, flags_set, marked}

or_true : (a : Bool) → true ≡ a || true
or_true true = refl
or_true false = refl

or_false : (a : Bool) → a ≡ a || false
or_false true = refl
or_false false = refl

-- the pages of a state
abbrev pub all_pages : Program → ℕ
all_pages p = page_count (words_of p start)

-- after k turns, none of which ended the run or passed the budget
pub record IsRunning (p : Program) (stim : List ℕ) (limits : Limits) (budget : ℕ) (words : List ℕ) (touched : List Bool) (header : Header) (text : List ℕ) (k : ℕ) : Type 0 where
  pub header_is : (moment_at (machine_of p) stim limits k).header ≡ header
  pub words_are : words_of p (moment_at (machine_of p) stim limits k).state ≡ words
  pub formed : IsWellFormed p
  pub sound : IsSound p (moment_at (machine_of p) stim limits k).state
  pub text_is : text ≡ text_at (machine_of p) stim limits k
  pub goes_on : NoneBelow (λ j. is_ending (mark_at (machine_of p) stim limits j)) k
  pub counted : header.turns ≡ k
  pub reads : header.reads ≤ k
  pub pages : length touched ≡ all_pages p
  pub flags : (page : ℕ) → page < all_pages p → flag_at touched page ≡ is_touched (machine_of p) stim limits k page
  pub within : KeepsWithin (machine_of p) stim limits budget k

-- the flags count the pages touched
pub flags_count : (p : Program) (stim : List ℕ) (limits : Limits) (touched : List Bool) (k : ℕ) → length touched ≡ all_pages p
    → ((page : ℕ) → page < all_pages p → flag_at touched page ≡ is_touched (machine_of p) stim limits k page) → flags_set touched ≡ pages_touched (machine_of p) stim limits k
flags_count p stim limits touched k pages flags =
    ap (count_below (flag_at touched)) pages
    ∙ count_below-ext (flag_at touched) (is_touched (machine_of p) stim limits k) (all_pages p) flags

length-marked : (flags : List Bool) (writes : List Write) → length (marked flags writes) ≡ length flags
length-marked flags [] = refl
length-marked flags (write ∷ more) = length-marked (slice_set flags (write.at / 64) true) more ∙ length-set flags (write.at / 64) true

flag_by : (b : Bool) (flags : List Bool) (at page : ℕ) (rest : Bool) → (at == page) ≡ b → page < length flags
    → flag_at (slice_set flags at true) page || rest ≡ flag_at flags page || (b || rest)
flag_by true flags at page rest e within =
    let same = eqb-true at page e in
    ap (λ i. flag_at (slice_set flags i true) page || rest) same ∙ ap (λ b. b || rest) (get_or-set_same flags page true false within) ∙ or_true (flag_at flags page)
flag_by false flags at page rest e within =
    ap (λ b. b || rest) (get_or-set_other flags at page true false (λ same. eqb-false at page e (sym same)))

flag_of_marked : (flags : List Bool) (writes : List Write) (page : ℕ) → page < length flags → flag_at (marked flags writes) page ≡ flag_at flags page || writes_page writes page
flag_of_marked flags [] page within = or_false (flag_at flags page)
flag_of_marked flags (write ∷ more) page within =
    flag_of_marked (slice_set flags (write.at / 64) true) more page (omega (arith, length-set flags (write.at / 64) true))
    ∙ flag_by (write.at / 64 == page) flags (write.at / 64) page (writes_page more page) refl within

-- the run at time zero
pub running_at_zero : (p : Program) (stim : List ℕ) (limits : Limits) (budget : ℕ) (words : List ℕ) (touched : List Bool) → IsWellFormed p
    → words ≡ words_of p start → touched ≡ replicate (all_pages p) false
    → IsRunning p stim limits budget words touched (record { turns = 0; reads = 0; written = 0 }) [] 0
running_at_zero p stim limits budget words touched wf words_are touched_is =
    let m = machine_of p in
    let zero_moment = moment_at-zero m stim limits in
    let pages : length touched ≡ all_pages p = ap length touched_is ∙ length-replicate (all_pages p) false in
    let flags : (page : ℕ) → page < all_pages p → flag_at touched page ≡ is_touched m stim limits 0 page =
    λ page below. ap (λ fs. flag_at fs page) touched_is ∙ get_or-replicate (all_pages p) page false false below ∙ sym (is_touched-zero (machine_of p) stim limits page) in
    record {
      header_is = ap (λ now. now.header) zero_moment;
      words_are = ap (λ now. words_of p now.state) zero_moment ∙ sym words_are;
      formed = wf;
      sound = subst (λ now. IsSound p now.state) (sym zero_moment) (start_sound p wf);
      text_is = sym (text_at-zero m stim limits);
      goes_on = λ j below. absurd (omega arith);
      counted = refl;
      reads = omega arith;
      pages = pages;
      flags = flags;
      within = λ j below.
          let first : j ≡ 0 = omega arith in
          ap (λ i. nat_lt budget (pages_touched m stim limits i)) first
          ∙ ap (nat_lt budget) (count_below-none (is_touched m stim limits 0) (all_pages p) (λ page lt. is_touched-zero (machine_of p) stim limits page))
          ∙ le-ltb budget 0 (omega arith);
    }

-- the next turn, when it goes on
pub record NextTurn (p : Program) (stim : List ℕ) (limits : Limits) (words : List ℕ) (header : Header) (k : ℕ) (next : Turn) : Type 0 where
  pub change : IsChange words (words_at (machine_of p) stim limits (suc k)) next.writes.items
  pub text : next.text ≡ (turn_at (machine_of p) stim limits k).text
  pub header_is : next.header ≡ (turn_at (machine_of p) stim limits k).after.header
  pub mark : next.mark ≡ mark_at (machine_of p) stim limits k
  pub sound : IsSound p (moment_at (machine_of p) stim limits (suc k)).state

pub next_turn : (p : Program) (stim : List ℕ) (limits : Limits) (budget : ℕ) (words : List ℕ) (touched : List Bool) (header : Header) (text : List ℕ) (k : ℕ) (next : Turn)
    → IsRunning p stim limits budget words touched header text k
    → IsTurn p (moment_at (machine_of p) stim limits k).state (turn_of (machine_of p) stim limits (record { state = (moment_at (machine_of p) stim limits k).state; header = header })) next
    → NextTurn p stim limits words header k next
next_turn p stim limits budget words touched header text k next run turn =
    let m = machine_of p in
    let now = moment_at m stim limits k in
    let here : turn_of m stim limits (record { state = now.state; header = header }) ≡ turn_at m stim limits k =
    ap (λ h. turn_of m stim limits (record { state = now.state; header = h })) (sym run.header_is) in
    let after : (turn_of m stim limits (record { state = now.state; header = header })).after.state ≡ (moment_at m stim limits (suc k)).state =
    ap (λ t. t.after.state) here ∙ ap (λ n. n.state) (sym (moment_at-suc m stim limits k)) in
    record {
      change = subst (λ (ws : List ℕ). IsChange ws (words_of p (moment_at m stim limits (suc k)).state) next.writes.items) run.words_are
          (subst (λ s. IsChange (words_of p now.state) (words_of p s) next.writes.items) after turn.writes);
      text = turn.text ∙ ap (λ t. t.text) here;
      header_is = turn.header ∙ ap (λ t. t.after.header) here;
      mark = turn.mark ∙ ap (λ t. t.mark) here;
      sound = subst (IsSound p) after turn.sound;
    }

-- the flags after the next turn
pub record NextFlags (p : Program) (stim : List ℕ) (limits : Limits) (touched : List Bool) (k : ℕ) : Type 0 where
  pub pages : length touched ≡ all_pages p
  pub flags : (page : ℕ) → page < all_pages p → flag_at touched page ≡ is_touched (machine_of p) stim limits (suc k) page
  pub count : flags_set touched ≡ pages_touched (machine_of p) stim limits (suc k)

pub next_flags : (p : Program) (stim : List ℕ) (limits : Limits) (budget : ℕ) (words : List ℕ) (touched : List Bool) (header : Header) (text : List ℕ) (k : ℕ) (next : Turn)
    → IsRunning p stim limits budget words touched header text k → NextTurn p stim limits words header k next → NextFlags p stim limits (marked touched next.writes.items) k
next_flags p stim limits budget words touched header text k next run turn =
    let m = machine_of p in
    let pages : length (marked touched next.writes.items) ≡ all_pages p = length-marked touched next.writes.items ∙ run.pages in
    let flags : (page : ℕ) → page < all_pages p → flag_at (marked touched next.writes.items) page ≡ is_touched m stim limits (suc k) page =
    λ page below.
    flag_of_marked touched next.writes.items page (omega (arith, run.pages))
    ∙ ap₂ ◌||◌ (run.flags page below)
    (sym (changed_pages_lem words (words_at m stim limits (suc k)) next.writes.items page turn.change)
    ∙ ap (λ ws. page_differs ws (words_at m stim limits (suc k)) page) (sym run.words_are))
    ∙ sym (is_touched-suc (machine_of p) stim limits k page) in
    record { pages = pages; flags = flags; count = flags_count p stim limits (marked touched next.writes.items) (suc k) pages flags }

-- a run goes on by one turn
pub advance : (p : Program) (stim : List ℕ) (limits : Limits) (budget : ℕ) (words : List ℕ) (touched : List Bool) (header : Header) (text : List ℕ) (k : ℕ) (next : Turn)
    → IsRunning p stim limits budget words touched header text k → NextTurn p stim limits words header k next → is_ending next.mark ≡ false
    → nat_lt budget (flags_set (marked touched next.writes.items)) ≡ false
    → IsRunning p stim limits budget (written words next.writes.items) (marked touched next.writes.items) next.header (text ++ next.text) (suc k)
advance p stim limits budget words touched header text k next run turn going fits =
    let m = machine_of p in
    let now = moment_at m stim limits k in
    let touched_next = next_flags p stim limits budget words touched header text k next run turn in
    let not_ended : is_ending (mark_at m stim limits k) ≡ false = ap is_ending (sym turn.mark) ∙ going in
    let turns_now : now.header.turns ≡ k = ap (λ h. h.turns) run.header_is ∙ run.counted in
    let turns_after = turn-counts m stim limits now not_ended in
    let reads_now = ap (λ h. h.reads) run.header_is in
    let reads_after = reads_once m stim limits now in
    let header_turns = ap (λ h. h.turns) turn.header_is in
    let header_reads = ap (λ h. h.reads) turn.header_is in
    record {
      header_is = ap (λ n. n.header) (moment_at-suc m stim limits k) ∙ sym turn.header_is;
      words_are = sym turn.change.result;
      formed = run.formed;
      sound = turn.sound;
      text_is = ap₂ ◌++◌ run.text_is turn.text ∙ sym (text_at-suc m stim limits k);
      goes_on = none_below_more (λ j. is_ending (mark_at m stim limits j)) k run.goes_on not_ended;
      counted = omega (arith, header_turns, turns_after, turns_now);
      reads = omega (arith, header_reads, reads_after, reads_now, run.reads);
      pages = touched_next.pages;
      flags = touched_next.flags;
      within = λ j below. ⊎_elim
          (λ lt. run.within j lt)
          (λ ge. let last : j ≡ suc k = omega arith in
          ap (λ i. nat_lt budget (pages_touched m stim limits i)) last ∙ ap (nat_lt budget) (sym touched_next.count) ∙ fits)
          (cases_lt j (k + 1));
    }

-- a mark that is no ending
pub not_ended : (mark : Mark) → ((ending : Ending) → mark ≡ marks.Ended ending → ⊥) → is_ending mark ≡ false
not_ended marks.Plain h = refl
not_ended (marks.Saved kind) h = refl
not_ended (marks.Ended ending) h = absurd (h ending refl)

-- the words fit into the pages
pub length-words : (p : Program) (stim : List ℕ) (limits : Limits) (budget : ℕ) (words : List ℕ) (touched : List Bool) (header : Header) (text : List ℕ) (k : ℕ)
    → IsRunning p stim limits budget words touched header text k → length words ≤ 64 * length touched
length-words p stim limits budget words touched header text k run =
    let now = ap length (sym run.words_are) ∙ length-words_of p (moment_at (machine_of p) stim limits k).state run.sound in
    let zero = length-words_of p start (start_sound p run.formed) in
    omega (arith, now, zero, run.pages)
