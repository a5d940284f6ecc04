-- One turn more.
use Rattle.std.proofs.Common.{◌≡◌, ℕ, suc, ◌+◌, ◌/◌, ◌<◌, true, false, cond, ◌&&◌, ◌||◌, ◌==◌, nat_le, nat_lt, map, List, [], ◌∷◌, ◌++◌, length, slice_index, slice_set, is_some, refl, sym, ap, ap₂, subst, ◌∙◌, arith, ⊎_elim}
use Rattle.std.proofs.lemmas.Bool.{cases_lt, cases_eq, eq-eqb, ne_eqb, and_parts, and_from, lt-ltb}
use Rattle.std.proofs.lemmas.List.{get_or-set_same, get_or-set_other, length-set}
use Rattle.std.proofs.Math.Bool.{or_comm}
use Rattle.vf_base.specs.declared.run.Header.{Header}
use Rattle.vf_base.specs.declared.write.Write.{Write}
use Rattle.vf_machine.specs.Run.{Moment, Turned, is_ending}
use Rattle.vf_machine.specs.Writes.{IsChange, AllChange, writes_page}
use Rattle.vf_machine.specs.Writes as machine
use Rattle.vf_machine.proofs.CallerLemmas.{moment_at-suc, text_at-suc, turn-counts, before_limit, changed_pages_lem, is_touched-suc}
use Rattle.vf_design.specs.declared.turn.Turn.{Turn}
use Rattle.vf_design.specs.State.{State, IsSound}
use Rattle.vf_design.specs.Step.{start}
use Rattle.vf_design.proofs.CallerLemmas.{length-words_of, start_sound}
use Rattle.vf_frames.specs.Numbers.{rises}
use Rattle.vf_design.specs.Words.{machine_of, words_of}
use Rattle.vf_jobs.specs.Kinds.{save_of}
use Rattle.vf_pages.specs.Pages.{Pages, entry}
use Rattle.vf_pages.specs.Writes.{written, touches, address, AreWrites}
use Rattle.vf_pages.specs.Calls.{Wrote}
use Rattle.vf_image.specs.Runs.{stimulus_of, limits_for, moment_in, text_in, words_in, turn_in, last_save, AreSound, GoesPast, Stands, IsAt}
use Rattle.vf_image.specs.Runs as runs
use Rattle.vf_image.specs.Simulators.{Simulator, IsSimulator, IsNext}

-- a word that is set, seen at an address
word_set : (words : List ℕ) (a at value : ℕ) → at < length words → cond (a == at) value (slice_index words a) ≡ slice_index (slice_set words at value) a
word_set words a at value within =
    ⊎_elim
    (λ same. ap (λ b. cond b value (slice_index words a)) (eq-eqb a at same) ∙ sym (ap (slice_index (slice_set words at value)) same ∙ get_or-set_same words at value 0 within))
    (λ differ. ap (λ b. cond b value (slice_index words a)) (ne_eqb a at differ) ∙ sym (get_or-set_other words at a value 0 differ))
    (cases_eq a at)

-- the two ways to write words
words_written : (before words : List ℕ) (writes : List Write) (a : ℕ) → AllChange before writes → length words ≡ length before
    → written writes a (slice_index words a) ≡ slice_index (machine.written words writes) a
words_written before words [] a all long = refl
words_written before words (write ∷ more) a all long =
    ap (written more a) (word_set words a write.at write.word (omega (arith, all.0, long)))
    ∙ words_written before (slice_set words write.at write.word) more a all.2 (length-set words write.at write.word ∙ long)

pub same_test : (a b : ℕ) → (a == b) ≡ (b == a)
same_test a b =
    ⊎_elim (λ same. eq-eqb a b same ∙ sym (eq-eqb b a (sym same))) (λ differ. ne_eqb a b differ ∙ sym (ne_eqb b a (λ same. differ (sym same)))) (cases_eq a b)

pub pages_written : (page : ℕ) (writes : List Write) → touches page writes ≡ writes_page writes page
pages_written page [] = refl
pages_written page (write ∷ more) = ap₂ ◌||◌ (same_test page (write.at / 64)) (pages_written page more)

-- a turn that goes on counts as one
pub turn_counts : (s : Simulator) (turn : Turn) → IsSimulator s → IsNext s turn → is_ending turn.mark ≡ false → turn.header.turns ≡ s.header.turns + 1
turn_counts s turn sim next goes_on =
    let now = moment_in s.setup s.job s.header.turns in
    let here = ap (λ (h : Header). h.turns) sim.at.run.counts in
    let more = turn-counts (machine_of s.setup.design) (stimulus_of s.setup s.job) (limits_for s.setup s.job) now (ap is_ending (sym next.mark) ∙ goes_on) in
    let given = ap (λ (h : Header). h.turns) next.header in
    omega (arith, here, more, given)

-- and comes before the limit on turns
pub before_the_limit : (s : Simulator) (turn : Turn) → IsSimulator s → IsNext s turn → is_ending turn.mark ≡ false → s.header.turns < (limits_for s.setup s.job).turns
before_the_limit s turn sim next goes_on =
    let here = ap (λ (h : Header). h.turns) sim.at.run.counts in
    let less = before_limit (machine_of s.setup.design) (stimulus_of s.setup s.job) (limits_for s.setup s.job) (moment_in s.setup s.job s.header.turns) (ap is_ending (sym next.mark) ∙ goes_on) in
    omega (arith, here, less)

module _ (s : Simulator) (turn : Turn) (pages : Pages) (sim : IsSimulator s) (next : IsNext s turn) (goes_on : is_ending turn.mark ≡ false) (past : GoesPast s.setup s.job s.header.turns) (wrote : Wrote turn.writes.items s.pages pages) where
  abbrev k : ℕ
  k = s.header.turns

  abbrev the_turn : Turned State
  the_turn = turn_in s.setup s.job k

  after : moment_in s.setup s.job (suc k) ≡ the_turn.after
  after = moment_at-suc (machine_of s.setup.design) (stimulus_of s.setup s.job) (limits_for s.setup s.job) k

  goes_here : is_ending the_turn.mark ≡ false
  goes_here = ap is_ending (sym next.mark) ∙ goes_on

  goes : runs.GoesOn s.setup s.job (suc k)
  goes j below =
      ⊎_elim (λ lt. sim.at.run.goes j lt)
      (λ ge. let same : j ≡ k = omega (arith, ge, below) in ap (λ i. is_ending (turn_in s.setup s.job i).mark) same ∙ goes_here)
      (cases_lt j k)

  goes_past : (j : ℕ) → j < suc k → GoesPast s.setup s.job j
  goes_past j below =
      ⊎_elim (λ lt. sim.at.run.goes_past j lt)
      (λ ge. let same : k ≡ j = omega (arith, ge, below) in subst (λ i. GoesPast s.setup s.job i) same past)
      (cases_lt j k)

  change : IsChange (words_in s.setup s.job k) (words_in s.setup s.job (suc k)) turn.writes.items
  change = subst (λ (now : Moment State). IsChange (words_in s.setup s.job k) (words_of s.setup.design now.state) turn.writes.items) (sym after) next.writes

  stands : Stands s.setup s.job (suc k) pages
  stands = record {
    zero = wrote.zero ∙ sim.at.stands.zero;
    words = λ at below. wrote.words at ∙ ap (written turn.writes.items at) (sim.at.stands.words at below)
        ∙ words_written (words_in s.setup s.job k) (words_in s.setup s.job k) turn.writes.items at change.change refl
        ∙ ap (λ ws. slice_index ws at) change.result;
    touched = λ page. wrote.held page ∙ or_comm (touches page turn.writes.items) (is_some (entry page s.pages.pages))
        ∙ ap₂ ◌||◌ (sim.at.stands.touched page)
        (pages_written page turn.writes.items ∙ sym (changed_pages_lem (words_in s.setup s.job k) (words_in s.setup s.job (suc k)) turn.writes.items page change))
        ∙ sym (is_touched-suc (machine_of s.setup.design) (stimulus_of s.setup s.job) (limits_for s.setup s.job) k page);
  }

  counted : turn.header.turns ≡ suc k
  counted = let one = turn_counts s turn sim next goes_on in omega (arith, one)

  pub at_next : IsAt s.setup s.job turn.header.turns turn.header (s.text ++ turn.text) pages
  at_next = subst (λ n. IsAt s.setup s.job n turn.header (s.text ++ turn.text) pages) (sym counted) (record {
    run = record {
      goes = goes;
      goes_past = goes_past;
      counts = next.header ∙ ap (λ (now : Moment State). now.header) (sym after);
      says = ap₂ ◌++◌ sim.at.run.says next.text ∙ sym (text_at-suc (machine_of s.setup.design) (stimulus_of s.setup s.job) (limits_for s.setup s.job) k);
    };
    stands = stands;
  })

  pub sound_next : AreSound s.setup s.job turn.header.turns
  sound_next j below =
      ⊎_elim (λ lt. sim.sound j (omega (arith, lt)))
      (λ ge.
      let counts : turn.header.turns ≡ suc s.header.turns = counted in
      let last : suc s.header.turns ≡ j = omega (arith, ge, below, counts) in
      subst (λ n. IsSound s.setup.design (moment_in s.setup s.job n).state) last
      (subst (λ (now : Moment State). IsSound s.setup.design now.state) (sym after) next.sound))
      (cases_lt j (suc s.header.turns))

  pub saves_next : save_of turn.mark ≡ last_save s.setup s.job turn.header.turns
  saves_next = ap save_of next.mark ∙ ap (last_save s.setup s.job) (sym counted)

-- rising writes inside the words
rising : (words : List ℕ) (writes : List Write) (from limit : ℕ) → machine.rises_from from writes ≡ true → AllChange words writes → length words ≡ limit
    → rises from limit (map address writes) ≡ true
rising words [] from limit r all long = refl
rising words (write ∷ more) from limit r all long =
    let parts = and_parts (nat_le from write.at) (machine.rises_from (suc write.at) more) r in
    let later = rising words more (suc write.at) limit parts.1 all.2 long in
    and_from (nat_le from write.at) (nat_lt write.at limit && rises (write.at + 1) limit (map address more)) parts.0
    (and_from (nat_lt write.at limit) (rises (write.at + 1) limit (map address more)) (lt-ltb write.at limit (omega (arith, all.0, long)))
    (ap (λ n. rises n limit (map address more)) (let e : write.at + 1 ≡ suc write.at = omega arith in e) ∙ later))

-- the kernel's writes are writes to the simulator's pages
pub next_writes : (s : Simulator) (turn : Turn) → IsSimulator s → IsNext s turn → AreWrites (length s.pages.zero) turn.writes.items
next_writes s turn sim next =
    let long = length-words_of s.setup.design (moment_in s.setup s.job s.header.turns).state (sim.sound s.header.turns (omega arith)) in
    let first = length-words_of s.setup.design start (start_sound s.setup.design sim.setup.formed) in
    let zero : length s.pages.zero ≡ length (words_of s.setup.design start) = ap length (sim.at.stands.zero ∙ sim.setup.zero) in
    rising (words_in s.setup s.job s.header.turns) turn.writes.items 0 (length s.pages.zero) next.writes.rises next.writes.change (omega (arith, long, first, zero))
