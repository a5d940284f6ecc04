-- Images over a base.
use Rattle.std.proofs.Common.{◌≡◌, ◌≢◌, ◌&&◌, nat_le, ℕ, suc, zero, ◌+◌, ◌-◌, ◌/◌, ◌%◌, ◌<◌, ◌≤◌, ◌||◌, ◌==◌, not, ◌*◌, Bool, true, false, cond, if◌then◌else◌, List, Option, None, Some, length, slice_index, is_some, length-append, refl, sym, ap, ap₂, subst, ◌∙◌, arith, ⊎_elim}
use Rattle.std.proofs.lemmas.Bool.{false≢true, cases_lt, eqb-true, eq-eqb, and_parts, leb-true, le-leb}
use Rattle.vf_pages.proofs.CallerLemmas.{entry-page, same_at}
use Rattle.vf_base.specs.declared.names.Job.{Job}
use Rattle.vf_base.specs.declared.names.Job.TheVariants.{Reach}
use Rattle.vf_base.specs.declared.names.NodeNo.{NodeNo}
use Rattle.vf_base.specs.declared.run.Limits.{Limits}
use Rattle.vf_machine.specs.Machine.{Machine}
use Rattle.vf_machine.specs.Search.{any_below}
use Rattle.vf_machine.specs.Pages.{is_touched, page_differs}
use Rattle.vf_machine.specs.Run.{Moment, words_at, moment_at, mark_at}
use Rattle.vf_machine.specs.Solo.{turns_before_end}
use Rattle.vf_machine.specs.Laws.{SameFor}
use Rattle.vf_machine.proofs.CallerLemmas.{is_touched-suc, later, reads_grow, written_grows, counts_once, IsFirst, Finds, first_finds}
use Rattle.vf_design.specs.Program.{page_count, word_count}
use Rattle.vf_design.specs.Words.{machine_of}
use Rattle.vf_jobs.specs.Kinds.{save_of, save_at, all_read}
use Rattle.vf_jobs.specs.Setup.{Conditions}
use Rattle.vf_jobs.proofs.CallerLemmas.{begins, begins_more, below, descends}
use Rattle.vf_pages.specs.Pages.{Page, Pages, entry, or_entry, word_or, word_of}
use Rattle.vf_pages.specs.Bases.{left_of, is_in_base, has_words, same_below}
use Rattle.vf_pages.specs.Calls.{KeptChanged}
use Rattle.vf_design.specs.State.{State}
use Rattle.vf_base.specs.declared.run.Header.{Header}
use Rattle.vf_jobs.specs.Jobs.{node_of, fits}
use Rattle.vf_image.specs.Runs.{stimulus_of, limits_for, moment_in, words_in, last_save, touches, AreSound, IsRunAt, Stands}
use Rattle.vf_image.specs.Simulators.{Simulator, IsSimulator}
use Rattle.vf_image.specs.Images.{Checkpoint, IsImage, IsBase, IsHeldBy, full, over, Serves, StandsOver}
use Rattle.vf_image.specs.Runs.{IsSavedAt}
use Rattle.vf_image.proofs.StepLemmas.{same_test}
use Rattle.vf_image.proofs.CountLemmas.{touched_within}
use Rattle.vf_image.proofs.ForkLemmas.{shared, touched_alike, read_at, full_stands}

-- ---- a touched page stays touched

or_stays : (a b : Bool) → a ≡ true → (a || b) ≡ true
or_stays true b h = refl
or_stays false b h = absurd (false≢true h)

stays_touched : {S : Type 0} (m : Machine S) (stim : List ℕ) (limits : Limits) (page k n : ℕ) → is_touched m stim limits k page ≡ true → is_touched m stim limits (k + n) page ≡ true
stays_touched m stim limits page k zero h = ap (λ j. is_touched m stim limits j page) (let e : k + 0 ≡ k = omega arith in e) ∙ h
stays_touched m stim limits page k (suc n) h =
    ap (λ j. is_touched m stim limits j page) (let e : k + suc n ≡ suc (k + n) = omega arith in e)
    ∙ is_touched-suc m stim limits (k + n) page
    ∙ or_stays (is_touched m stim limits (k + n) page) (page_differs (words_at m stim limits (k + n)) (words_at m stim limits (suc (k + n))) page) (stays_touched m stim limits page k n h)

pub touched_later : (c : Conditions) (job : Job) (page k t : ℕ) → k ≤ t → touches c job k page ≡ true → touches c job t page ≡ true
touched_later c job page k t h on =
    subst (λ j. touches c job j page ≡ true) (let e : k + (t - k) ≡ t = omega (arith, h) in e)
    (stays_touched (machine_of c.design) (stimulus_of c job) (limits_for c job) page k (t - k) on)

-- ---- words of pages

-- the base has the page, with the same words
record InBase (base : List Page) (e : Page) : Type 0 where
  pub there : Page
  pub is : entry e.page base ≡ Some there
  pub words : (i : ℕ) → i < 64 → slice_index e.words i ≡ slice_index there.words i

in_base : (base : List Page) (e : Page) → is_in_base base e ≡ true → InBase base e
in_base base e h = by (entry e.page base) refl h
  where
    by : (o : Option Page) → entry e.page base ≡ o → has_words o e.words ≡ true → InBase base e
    by None is h = absurd (false≢true h)
    by (Some b) is h = record { there = b; is = is; words = λ i below. same_at e.words b.words 64 i h below }

none_some : {A : Type 0} (o : Option A) (x : A) → o ≡ None → o ≡ Some x → ⊥
none_some o x none some = let wrong = sym none ∙ some in cc

-- a held page has its words of the run
word_there : (c : Conditions) (job : Job) (k : ℕ) (pages : Pages) → Stands c job k pages → (page i : ℕ) (e : Page) → entry page pages.pages ≡ Some e
    → 64 * page + i < word_count c.design → i < 64 → slice_index e.words i ≡ slice_index (words_in c job k) (64 * page + i)
word_there c job k pages stands page i e is below small =
    let number : (64 * page + i) / 64 ≡ page = omega (arith, small) in
    let index : (64 * page + i) % 64 ≡ i = omega (arith, small) in
    sym (ap (λ n. slice_index e.words n) index)
    ∙ sym (ap (word_or pages.zero (64 * page + i)) (ap (λ n. entry n pages.pages) number ∙ is))
    ∙ stands.words (64 * page + i) below

and_not : (a b : Bool) → (not a && b) ≡ not (a || not b)
and_not true b = refl
and_not false true = refl
and_not false false = refl

-- two pages have the same words just where none differs in what they are pages of
same_or_differs : (before now xs ys : List ℕ) (page n : ℕ) → ((i : ℕ) → i < n → slice_index xs i ≡ slice_index now (64 * page + i))
    → ((i : ℕ) → i < n → slice_index ys i ≡ slice_index before (64 * page + i))
    → same_below xs ys n ≡ not (any_below (λ at. not (slice_index before (64 * page + at) == slice_index now (64 * page + at))) n)
unfolding same_below any_below
same_or_differs before now xs ys page zero of_now of_before = refl
same_or_differs before now xs ys page (suc n) of_now of_before =
    ap₂ ◌&&◌ (same_or_differs before now xs ys page n (λ i h. of_now i (omega (arith, h))) (λ i h. of_before i (omega (arith, h))))
    (ap₂ ◌==◌ (of_now n (omega arith)) (of_before n (omega arith)) ∙ same_test (slice_index now (64 * page + n)) (slice_index before (64 * page + n)))
    ∙ and_not (any_below (λ at. not (slice_index before (64 * page + at) == slice_index now (64 * page + at))) n) (slice_index before (64 * page + n) == slice_index now (64 * page + n))

is_left : (same : Bool) (x : Page) → is_some (cond same None (Some x)) ≡ not same
is_left true x = refl
is_left false x = refl

module _ (c : Conditions) (job base_job : Job) (t since : ℕ) (pages base own : Pages) (stands : Stands c job t pages) (under : Stands c base_job since base)
    (kept : (page : ℕ) → touches c base_job since page ≡ true → touches c job t page ≡ true)
    (left : (p : ℕ) → entry p own.pages ≡ left_of base.pages (entry p pages.pages)) (zero_is : own.zero ≡ pages.zero) where
  -- a page that the run has not touched, the base has not either
  base_lacks : (p : ℕ) → entry p pages.pages ≡ None → entry p base.pages ≡ None
  base_lacks p none = by (entry p base.pages) refl
    where
      by : (o : Option Page) → entry p base.pages ≡ o → o ≡ None
      by None is = refl
      by (Some b) is = absurd (false≢true (ap is_some (sym none) ∙ stands.touched p ∙ kept p (sym (under.touched p) ∙ ap is_some is)))

  own_words : (at : ℕ) (e : Page) → at < word_count c.design → entry (at / 64) own.pages ≡ Some e → slice_index e.words (at % 64) ≡ slice_index (words_in c job t) at
  own_words at e below is = by (entry (at / 64) pages.pages) refl
    where
      by : (o : Option Page) → entry (at / 64) pages.pages ≡ o → slice_index e.words (at % 64) ≡ slice_index (words_in c job t) at
      by None none = absurd (none_some (entry (at / 64) own.pages) e (left (at / 64) ∙ ap (left_of base.pages) none) is)
      by (Some x) some = kept_by (is_in_base base.pages x) refl
        where
          kept_by : (b : Bool) → is_in_base base.pages x ≡ b → slice_index e.words (at % 64) ≡ slice_index (words_in c job t) at
          kept_by true on = absurd (none_some (entry (at / 64) own.pages) e (left (at / 64) ∙ ap (left_of base.pages) some ∙ ap (λ b. cond b None (Some x)) on) is)
          kept_by false off =
              let same : Some e ≡ Some x = sym is ∙ left (at / 64) ∙ ap (left_of base.pages) some ∙ ap (λ b. cond b None (Some x)) off in
              ap (word_or pages.zero at) same ∙ sym (ap (word_or pages.zero at) some) ∙ stands.words at below

  other_words : (at : ℕ) → at < word_count c.design → entry (at / 64) own.pages ≡ None → slice_index (words_in c base_job since) at ≡ slice_index (words_in c job t) at
  other_words at below none = by (entry (at / 64) pages.pages) refl
    where
      by : (o : Option Page) → entry (at / 64) pages.pages ≡ o → slice_index (words_in c base_job since) at ≡ slice_index (words_in c job t) at
      by None lacks =
          sym (under.words at below) ∙ ap (word_or base.zero at) (base_lacks (at / 64) lacks) ∙ ap (λ zs. slice_index zs at) (under.zero ∙ sym stands.zero)
          ∙ sym (ap (word_or pages.zero at) lacks) ∙ stands.words at below
      by (Some x) some = left_out (is_in_base base.pages x) refl
        where
          left_out : (b : Bool) → is_in_base base.pages x ≡ b → slice_index (words_in c base_job since) at ≡ slice_index (words_in c job t) at
          left_out false off = absurd (none_some (entry (at / 64) own.pages) x none (left (at / 64) ∙ ap (left_of base.pages) some ∙ ap (λ b. cond b None (Some x)) off))
          left_out true on =
              let there = in_base base.pages x on in
              let number = entry-page (at / 64) pages.pages x some in
              let found : entry (at / 64) base.pages ≡ Some there.there = ap (λ n. entry n base.pages) (sym number) ∙ there.is in
              sym (under.words at below) ∙ ap (word_or base.zero at) found ∙ sym (there.words (at % 64) (omega arith))
              ∙ sym (ap (word_or pages.zero at) some) ∙ stands.words at below

  all_touched : (page : ℕ) → (is_some (entry page own.pages) || touches c base_job since page) ≡ touches c job t page
  all_touched page = by (entry page pages.pages) refl
    where
      by : (o : Option Page) → entry page pages.pages ≡ o → (is_some (entry page own.pages) || touches c base_job since page) ≡ touches c job t page
      by None lacks =
          ap₂ (λ o b. is_some o || b) (left page ∙ ap (left_of base.pages) lacks) (sym (under.touched page) ∙ ap is_some (base_lacks page lacks))
          ∙ ap is_some (sym lacks) ∙ stands.touched page
      by (Some x) some = either (is_in_base base.pages x) refl
        where
          on_here : true ≡ touches c job t page
          on_here = ap is_some (sym some) ∙ stands.touched page

          either : (b : Bool) → is_in_base base.pages x ≡ b → (is_some (entry page own.pages) || touches c base_job since page) ≡ touches c job t page
          either false off = ap (λ o. is_some o || touches c base_job since page) (left page ∙ ap (left_of base.pages) some ∙ ap (λ b. cond b None (Some x)) off) ∙ on_here
          either true on =
              let there = in_base base.pages x on in
              let number = entry-page page pages.pages x some in
              let touched : touches c base_job since page ≡ true = sym (under.touched page) ∙ ap (λ n. is_some (entry n base.pages)) (sym number) ∙ ap is_some there.is in
              ap₂ (λ o b. is_some o || b) (left page ∙ ap (left_of base.pages) some ∙ ap (λ b. cond b None (Some x)) on) touched ∙ on_here

  -- a page of the run that is left, by what the base has
  left_is : (p : ℕ) (x : Page) (o : Option Page) → entry p pages.pages ≡ Some x → entry p base.pages ≡ o → entry p own.pages ≡ cond (has_words o x.words) None (Some x)
  left_is p x o some is =
      left p ∙ ap (left_of base.pages) some
      ∙ ap (λ there. cond (has_words there x.words) None (Some x)) (ap (λ n. entry n base.pages) (entry-page p pages.pages x some) ∙ is)

  -- the pages that are left are those touched, but for those that are the same in the base
  own_exactly : ((page : ℕ) → touches c job t page ≡ true → page < page_count c.design)
      → (page : ℕ) → is_some (entry page own.pages) ≡ (touches c job t page && not (touches c base_job since page && not (page_differs (words_in c base_job since) (words_in c job t) page)))
  own_exactly within page = by (entry page pages.pages) refl
    where
      exactly : (a b : Bool) → touches c job t page ≡ a → touches c base_job since page ≡ b
          → (a && not (b && not (page_differs (words_in c base_job since) (words_in c job t) page))) ≡ (touches c job t page && not (touches c base_job since page && not (page_differs (words_in c base_job since) (words_in c job t) page)))
      exactly a b x y = ap₂ (λ p q. p && not (q && not (page_differs (words_in c base_job since) (words_in c job t) page))) (sym x) (sym y)

      over_some : (x : Page) → entry page pages.pages ≡ Some x → touches c job t page ≡ true → (o : Option Page) → entry page base.pages ≡ o
          → is_some (entry page own.pages) ≡ (touches c job t page && not (touches c base_job since page && not (page_differs (words_in c base_job since) (words_in c job t) page)))
      over_some x some on None is = ap is_some (left_is page x None some is) ∙ exactly true false on (sym (under.touched page) ∙ ap is_some is)
      over_some x some on (Some there) is =
          ap is_some (left_is page x (Some there) some is) ∙ is_left (same_below x.words there.words 64) x
          ∙ ap not (same_or_differs (words_in c base_job since) (words_in c job t) x.words there.words page 64
          (λ i small. word_there c job t pages stands page i x some (inside i small) small)
          (λ i small. word_there c base_job since base under page i there is (inside i small) small))
          ∙ exactly true true on (sym (under.touched page) ∙ ap is_some is)
        where
          inside : (i : ℕ) → i < 64 → 64 * page + i < word_count c.design
          inside i small =
              let below = within page on in
              let long : word_count c.design ≡ 64 * page_count c.design = refl in
              omega (arith, below, long, small)

      by : (o : Option Page) → entry page pages.pages ≡ o → is_some (entry page own.pages) ≡ (touches c job t page && not (touches c base_job since page && not (page_differs (words_in c base_job since) (words_in c job t) page)))
      by None lacks =
          ap is_some (left page ∙ ap (left_of base.pages) lacks)
          ∙ exactly false (touches c base_job since page) (sym (stands.touched page) ∙ ap is_some lacks) refl
      by (Some x) some = over_some x some (sym (stands.touched page) ∙ ap is_some some) (entry page base.pages) refl

-- ---- the base's save point comes first

module _ {S : Type 0} (m : Machine S) (a b : List ℕ) (la lb : Limits) (since t : ℕ) (long : length a ≤ length b) (same : (k : ℕ) → k ≤ since → SameFor m a la b lb k)
    (first : (j : ℕ) → j < since → is_some (save_at m a la j) ≡ false) (whole : all_read m a la since ≡ true) where
  earlier : (j : ℕ) → j < since → is_some (save_at m b lb j) ≡ true → ⊥
  earlier zero h saved = cc
  earlier (suc k) h saved =
      let all = eqb-true (moment_at m b lb (suc k)).header.reads (length b) (read_at m b lb (suc k) saved) in
      let above = ap (λ (now : Moment S). now.header.reads) (same (suc k) (omega (arith, h))).moment in
      let n = since - suc k in
      let grown = later (λ (now : Moment S). now.header.reads) m a la (λ now. reads_grow m a la now) (suc k) n in
      let end = ap (λ j. (moment_at m a la j).header.reads) (let j : suc k + n ≡ since = omega (arith, h) in j) in
      let read = eqb-true (moment_at m a la since).header.reads (length a) whole in
      let here : all_read m a la (suc k) ≡ true = eq-eqb (moment_at m a la (suc k)).header.reads (length a) (omega (arith, all, above, grown, end, read, long)) in
      let mark = ap save_of ((same (suc k) (omega (arith, h))).marks k (omega arith)) in
      let there : is_some (save_at m a la (suc k)) ≡ true =
      ap (λ r. is_some (if r then save_of (mark_at m a la k) else None)) here ∙ ap is_some mark
      ∙ sym (ap (λ r. is_some (if r then save_of (mark_at m b lb k) else None)) (read_at m b lb (suc k) saved)) ∙ saved in
      false≢true (sym (first (suc k) h) ∙ there)

  pub comes_first : is_some (save_at m b lb t) ≡ true → since ≤ t
  comes_first saved = ⊎_elim (λ lt. absurd (earlier t lt saved)) (λ ge. ge) (cases_lt t since)

-- the save point that is found
first_save : (c : Conditions) (node : NodeNo) (t : ℕ) → IsSavedAt c node t
    → IsFirst (λ k. is_some (save_at (machine_of c.design) (stimulus_of c (Reach node)) (limits_for c (Reach node)) k)) (turns_before_end (machine_of c.design) (stimulus_of c (Reach node)) (limits_for c (Reach node)) + 1) t
first_save c node t saved =
    let m = machine_of c.design in
    let p : ℕ → Bool = λ k. is_some (save_at m (stimulus_of c (Reach node)) (limits_for c (Reach node)) k) in
    let n = turns_before_end m (stimulus_of c (Reach node)) (limits_for c (Reach node)) + 1 in
    subst (Finds p n) saved (first_finds p n)

-- what a full base's run touched, the run below it touched too
pub base_touches : (b : Checkpoint) (node : NodeNo) (t : ℕ) → IsImage b → Serves b (Reach node) → IsSavedAt b.setup node t
    → (page : ℕ) → touches b.setup (Reach b.node) b.header.turns page ≡ true → touches b.setup (Reach node) t page ≡ true
base_touches b node t kept serves saved page on =
    let m = machine_of b.setup.design in
    let a = stimulus_of b.setup (Reach b.node) in
    let la = limits_for b.setup (Reach b.node) in
    let more = begins b.setup.plan b.node.0 node.0 kept.setup.plan (below b.setup.plan b.node.0 (descends b.setup.plan kept.setup.plan) node.0 serves.below) in
    let long = ap length more.1 ∙ length-append a more.0 in
    let same = shared b (Reach node) kept serves in
    let base = first_save b.setup b.node b.header.turns kept.at_save in
    let own = first_save b.setup node t saved in
    let order = comes_first m a (stimulus_of b.setup (Reach node)) la (limits_for b.setup (Reach node)) b.header.turns t (omega (arith, long)) same base.least (read_at m a la b.header.turns base.passes) own.passes in
    touched_later b.setup (Reach node) page b.header.turns t order
    (sym (touched_alike m a (stimulus_of b.setup (Reach node)) la (limits_for b.setup (Reach node)) b.header.turns same page b.header.turns (omega arith)) ∙ on)

-- ---- what a base is

fits-less : (less more : Header) (limits : Limits) → less.turns ≤ more.turns → less.written ≤ more.written → fits limits more ≡ true → fits limits less ≡ true
fits-less less more limits turns written h =
    let two = and_parts (nat_le more.turns limits.turns) (nat_le more.written limits.output) h in
    let high = leb-true more.turns limits.turns two.0 in
    let wide = leb-true more.written limits.output two.1 in
    ap₂ ◌&&◌ (le-leb less.turns limits.turns (omega (arith, high, turns))) (le-leb less.written limits.output (omega (arith, wide, written)))

is_base : (b : Checkpoint) (node : NodeNo) (t : ℕ) → IsImage b → Serves b (Reach node) → b.node.0 ≢ node.0 → IsSavedAt b.setup node t → IsBase b.setup node b.node b.header.turns t
is_base b node t kept serves proper saved = record { above = serves.below; proper = proper; saved = kept.at_save; earlier = before; serves = λ limits h. fits-less (moment_in b.setup (Reach b.node) b.header.turns).header (moment_in b.setup (Reach node) t).header limits turns written h }
  where
    order : b.header.turns ≤ t
    order =
        let more = begins b.setup.plan b.node.0 node.0 kept.setup.plan (below b.setup.plan b.node.0 (descends b.setup.plan kept.setup.plan) node.0 serves.below) in
        let long = ap length more.1 ∙ length-append (stimulus_of b.setup (Reach b.node)) more.0 in
        let base = first_save b.setup b.node b.header.turns kept.at_save in
        let own = first_save b.setup node t saved in
        comes_first (machine_of b.setup.design) (stimulus_of b.setup (Reach b.node)) (stimulus_of b.setup (Reach node)) (limits_for b.setup (Reach b.node)) (limits_for b.setup (Reach node))
        b.header.turns t (omega (arith, long)) (shared b (Reach node) kept serves) base.least
        (read_at (machine_of b.setup.design) (stimulus_of b.setup (Reach b.node)) (limits_for b.setup (Reach b.node)) b.header.turns base.passes) own.passes

    same : moment_in b.setup (Reach b.node) b.header.turns ≡ moment_in b.setup (Reach node) b.header.turns
    same = (shared b (Reach node) kept serves b.header.turns (omega arith)).moment

    before : b.header.turns < t
    before = ⊎_elim (λ lt. lt)
        (λ ge.
        let first = order in
        let here : b.header.turns ≡ t = omega (arith, ge, first) in
        let base = first_save b.setup b.node b.header.turns kept.at_save in
        let own = first_save b.setup node t saved in
        let read = eqb-true (moment_in b.setup (Reach b.node) b.header.turns).header.reads (length (stimulus_of b.setup (Reach b.node)))
        (read_at (machine_of b.setup.design) (stimulus_of b.setup (Reach b.node)) (limits_for b.setup (Reach b.node)) b.header.turns base.passes) in
        let all = eqb-true (moment_in b.setup (Reach node) t).header.reads (length (stimulus_of b.setup (Reach node)))
        (read_at (machine_of b.setup.design) (stimulus_of b.setup (Reach node)) (limits_for b.setup (Reach node)) t own.passes) in
        let moment = ap (λ (now : Moment State). now.header.reads) same in
        let turn = ap (λ k. (moment_in b.setup (Reach node) k).header.reads) here in
        let longer = begins_more b.setup.plan b.node.0 node.0 kept.setup.plan (below b.setup.plan b.node.0 (descends b.setup.plan kept.setup.plan) node.0 serves.below) (λ e. proper (sym e)) in
        absurd (omega (arith, read, all, moment, turn, longer)))
        (cases_lt b.header.turns t)

    whole : b.header.turns + (t - b.header.turns) ≡ t
    whole = let first = order in omega (arith, first)

    turns : (moment_in b.setup (Reach b.node) b.header.turns).header.turns ≤ (moment_in b.setup (Reach node) t).header.turns
    turns =
        let m = machine_of b.setup.design in
        let stim = stimulus_of b.setup (Reach node) in
        let limits = limits_for b.setup (Reach node) in
        let grown = later (λ (now : Moment State). now.header.turns) m stim limits (λ now. (counts_once m stim limits now).0) b.header.turns (t - b.header.turns) in
        let end = ap (λ k. (moment_in b.setup (Reach node) k).header.turns) whole in
        let moment = ap (λ (now : Moment State). now.header.turns) same in
        omega (arith, grown, end, moment)

    written : (moment_in b.setup (Reach b.node) b.header.turns).header.written ≤ (moment_in b.setup (Reach node) t).header.written
    written =
        let m = machine_of b.setup.design in
        let stim = stimulus_of b.setup (Reach node) in
        let limits = limits_for b.setup (Reach node) in
        let grown = later (λ (now : Moment State). now.header.written) m stim limits (λ now. written_grows m stim limits now) b.header.turns (t - b.header.turns) in
        let end = ap (λ k. (moment_in b.setup (Reach node) k).header.written) whole in
        let moment = ap (λ (now : Moment State). now.header.written) same in
        omega (arith, grown, end, moment)

-- a simulator at its save point, in the pages that a full image has not
pub stands_over : (b : Checkpoint) (node : NodeNo) (t : ℕ) (pages own : Pages) → IsImage b → b.base ≡ None → Serves b (Reach node) → IsSavedAt b.setup node t → AreSound b.setup (Reach node) t → Stands b.setup (Reach node) t pages
    → ((p : ℕ) → entry p own.pages ≡ left_of b.pages.pages (entry p pages.pages)) → own.zero ≡ pages.zero → StandsOver b.setup node b.node b.header.turns t own
stands_over b node t pages own kept none serves saved sound stands left zero_is =
    let under = full_stands b kept none in
    let touched = base_touches b node t kept serves saved in
    record {
      zero = zero_is ∙ stands.zero;
      own = own_words b.setup (Reach node) (Reach b.node) t b.header.turns pages b.pages own stands under touched left zero_is;
      others = other_words b.setup (Reach node) (Reach b.node) t b.header.turns pages b.pages own stands under touched left zero_is;
      touched = all_touched b.setup (Reach node) (Reach b.node) t b.header.turns pages b.pages own stands under touched left zero_is;
      exact = own_exactly b.setup (Reach node) (Reach b.node) t b.header.turns pages b.pages own stands under touched left zero_is
          (λ page on. touched_within b.setup (Reach node) t page sound on);
    }

abbrev node_or : NodeNo → Option NodeNo → NodeNo
node_or n None = n
node_or n (Some m) = m

abbrev pub turn_or : ℕ → Option ℕ → ℕ
turn_or n None = n
turn_or n (Some m) = m

-- pages of an image over those of its base have its words
pub over_stands : (i b : Checkpoint) (pages : Pages) → IsImage i → IsImage b → b.base ≡ None → b.setup ≡ i.setup → i.base ≡ Some b.node → pages.zero ≡ i.pages.zero
    → ((p : ℕ) → entry p pages.pages ≡ or_entry (entry p i.pages.pages) (entry p b.pages.pages)) → Stands i.setup (Reach i.node) i.header.turns pages
over_stands i b pages kept base_kept none setup is zero_is entries = by kept.held
  where
    under : Stands i.setup (Reach b.node) b.header.turns b.pages
    under = subst (λ c. Stands c (Reach b.node) b.header.turns b.pages) setup (full_stands b base_kept none)

    by : IsHeldBy i → Stands i.setup (Reach i.node) i.header.turns pages
    by (full e stands) = let wrong = sym e ∙ is in absurd cc
    by (over node since e saved o) = over_it (over_is node since e saved o)
      where
        over_is : (node : NodeNo) (since : ℕ) → i.base ≡ Some node → IsBase i.setup i.node node since i.header.turns → StandsOver i.setup i.node node since i.header.turns i.pages
            → StandsOver i.setup i.node b.node b.header.turns i.header.turns i.pages
        over_is node since e saved o =
            let same : Some b.node ≡ Some node = sym is ∙ e in
            let same_node : b.node ≡ node = ap (node_or b.node) same in
            let at : Some since ≡ Some b.header.turns = sym saved.saved ∙ subst (λ n. IsSavedAt i.setup n b.header.turns) same_node (subst (λ c. IsSavedAt c b.node b.header.turns) setup base_kept.at_save) in
            let same_turn : since ≡ b.header.turns = ap (turn_or since) at in
            subst (λ n. StandsOver i.setup i.node n b.header.turns i.header.turns i.pages) (sym same_node)
            (subst (λ n. StandsOver i.setup i.node node n i.header.turns i.pages) same_turn o)

        over_it : StandsOver i.setup i.node b.node b.header.turns i.header.turns i.pages → Stands i.setup (Reach i.node) i.header.turns pages
        over_it o = record {
          zero = zero_is ∙ o.zero;
          words = λ at below. words_by at below (entry (at / 64) i.pages.pages) refl;
          touched = λ page. ap is_some (entries page) ∙ either (entry page i.pages.pages) (entry page b.pages.pages)
              ∙ ap (λ t. is_some (entry page i.pages.pages) || t) (under.touched page) ∙ o.touched page;
        }
          where
            words_by : (at : ℕ) → at < word_count i.setup.design → (e : Option Page) → entry (at / 64) i.pages.pages ≡ e → word_of pages at ≡ slice_index (words_in i.setup (Reach i.node) i.header.turns) at
            words_by at below (Some e) some = ap (word_or pages.zero at) (entries (at / 64) ∙ ap (λ x. or_entry x (entry (at / 64) b.pages.pages)) some) ∙ o.own at e below some
            words_by at below None lacks =
                ap (word_or pages.zero at) (entries (at / 64) ∙ ap (λ x. or_entry x (entry (at / 64) b.pages.pages)) lacks)
                ∙ ap (λ zs. word_or zs at (entry (at / 64) b.pages.pages)) (zero_is ∙ o.zero ∙ sym under.zero)
                ∙ under.words at below ∙ o.others at below lacks

            either : (x y : Option Page) → is_some (or_entry x y) ≡ (is_some x || is_some y)
            either None y = refl
            either (Some e) y = refl

-- the pages that its base has not, of a simulator at its save point
kept_changes : (s : Simulator) (b : Checkpoint) (node : NodeNo) (pages : Pages) → IsSimulator s → s.job ≡ Reach node → node.0 ≡ node_of s.job → IsSavedAt s.setup node s.header.turns → IsImage b → b.base ≡ None
    → b.setup ≡ s.setup → Serves b s.job → b.node.0 ≢ node_of s.job → KeptChanged b.pages s.pages pages
    → IsImage (record { setup = s.setup; node = node; base = Some b.node; header = s.header; text = s.text; saved = s.saved; pages = pages })
kept_changes s b node pages sim reach is saved kept none setup serves proper changed =
    let serves_node : Serves b (Reach node) = subst (Serves b) reach serves in
    let at_save : IsSavedAt b.setup node s.header.turns = subst (λ c. IsSavedAt c node s.header.turns) (sym setup) saved in
    let stands : Stands b.setup (Reach node) s.header.turns s.pages =
    subst (λ c. Stands c (Reach node) s.header.turns s.pages) (sym setup) (subst (λ job. Stands s.setup job s.header.turns s.pages) reach sim.at.stands) in
    let sound : AreSound s.setup (Reach node) s.header.turns = subst (λ job. AreSound s.setup job s.header.turns) reach sim.sound in
    let over_base = stands_over b node s.header.turns s.pages pages kept none serves_node at_save (subst (λ c. AreSound c (Reach node) s.header.turns) (sym setup) sound) stands changed.pages changed.zero in
    record {
      setup = sim.setup;
      node = subst (λ n. n < length s.setup.plan) (sym is) sim.job;
      at_save = saved;
      saved = sim.saved ∙ ap (λ job. last_save s.setup job s.header.turns) reach;
      sound = sound;
      run = subst (λ job. IsRunAt s.setup job s.header.turns s.header s.text) reach sim.at.run;
      held = over b.node b.header.turns refl (subst (λ c. IsBase c node b.node b.header.turns s.header.turns) setup (is_base b node s.header.turns kept serves_node (λ e. proper (e ∙ is)) at_save))
          (subst (λ c. StandsOver c node b.node b.header.turns s.header.turns pages) setup over_base);
    }

pub incr_image : (s : Simulator) (b i : Checkpoint) → IsSimulator s → s.job ≡ Reach (record { 0 = node_of s.job }) → IsSavedAt s.setup (record { 0 = node_of s.job }) s.header.turns → IsImage b → b.base ≡ None
    → b.setup ≡ s.setup → Serves b s.job → b.node.0 ≢ node_of s.job → KeptChanged b.pages s.pages i.pages → i.setup ≡ s.setup → i.node.0 ≡ node_of s.job → i.base ≡ Some b.node → i.header ≡ s.header → i.text ≡ s.text → i.saved ≡ s.saved → IsImage i
incr_image s b i sim reach at_save kept none same_setup serves proper changed setup node base header text saved =
    subst IsImage (λ t. record { setup = sym setup t; node = record { 0 = sym node t }; base = sym base t; header = sym header t; text = sym text t; saved = sym saved t; pages = i.pages })
    (kept_changes s b (record { 0 = node_of s.job }) i.pages sim reach refl at_save kept none same_setup serves proper changed)
