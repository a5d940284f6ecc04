-- A simulator has as many pages as its run has touched.
use Rattle.std.proofs.Common.{◌≡◌, ℕ, zero, suc, ◌+◌, ◌*◌, ◌/◌, ◌<◌, Bool, true, false, not, ◌||◌, ◌==◌, Option, None, List, [], ◌∷◌, length, slice_index, Some, cond, if◌then◌else◌, is_some, refl, sym, ap, ap₂, subst, ◌∙◌, arith, ⊎_elim}
use Rattle.std.proofs.lemmas.Bool.{false≢true, cases_lt, cases_eq, eq-eqb, ne_eqb, eqb-true, or_cases, or_right}
use Rattle.std.proofs.lemmas.List.{get_or_past}
use Rattle.vf_base.specs.declared.names.Job.{Job}
use Rattle.vf_base.specs.declared.write.Write.{Write}
use Rattle.vf_machine.specs.Run.{Moment}
use Rattle.vf_machine.specs.Search.{count_below}
use Rattle.vf_machine.specs.Pages.{page_count, page_differs, is_touched}
use Rattle.vf_machine.proofs.CallerLemmas.{any_found, is_touched-zero, is_touched-suc, count_below-ext, count_below-more}
use Rattle.vf_design.specs.Program as program
use Rattle.vf_design.specs.Step.{start}
use Rattle.vf_design.specs.Words.{machine_of, words_of}
use Rattle.vf_frames.specs.Numbers.{rises, has}
use Rattle.vf_pages.specs.Writes as writes
use Rattle.vf_pages.specs.Writes.{address, written_pages, with_page}
use Rattle.vf_pages.specs.declared.refusal.PageRefusal.{PageRefusal}
use Rattle.vf_pages.specs.declared.refusal.PageRefusal.TheVariants.{Short, Memory}
use Rattle.vf_pages.specs.Calls.{OnRefusal, IsShort, IsUnmade}
use Rattle.vf_pages.specs.Needs.{new_pages, is_new}
use Rattle.vf_design.specs.declared.turn.Turn.{Turn}
use Rattle.vf_design.specs.State.{State, IsSound}
use Rattle.vf_design.proofs.CallerLemmas.{length-words_of, start_sound}
use Rattle.vf_machine.proofs.CallerLemmas.{moment_at-suc, changed_pages_lem}
use Rattle.vf_image.specs.Simulators.{Simulator, IsSimulator, IsNext}
use Rattle.vf_image.proofs.StepLemmas.{next_writes, pages_written}
use Rattle.vf_pages.proofs.CallerLemmas.{written_pages-rise}
use Rattle.vf_jobs.specs.Setup.{Conditions, IsSetup, words_at_start}
use Rattle.vf_pages.specs.Pages.{Page, Pages, entry, pages_in, page_limit, IsSorted}
use Rattle.vf_pages.proofs.CallerLemmas.{rises-parts, entry-here, entry-other, entry-below}
use Rattle.vf_image.specs.Runs.{stimulus_of, limits_for, moment_in, words_in, touches, touched_in, AreSound, Stands}

-- a state has as many pages as the design says
page_count_is : (c : Conditions) → IsSetup c → page_count (words_at_start (machine_of c.design)) ≡ program.page_count c.design
page_count_is c kept =
    let long = length-words_of c.design start (start_sound c.design kept.formed) in
    omega (arith, long)

-- past the last page no word differs
same_zero : (a b : ℕ) → a ≡ 0 → b ≡ 0 → not (a == b) ≡ true → ⊥
same_zero a b p q h = false≢true (sym (ap not (eq-eqb a b (p ∙ sym q))) ∙ h)

differs_within : (before after : List ℕ) (page n : ℕ) → length before ≡ 64 * n → length after ≡ 64 * n → page_differs before after page ≡ true → page < n
differs_within before after page n lb la h =
    let found = any_found (λ at. not (slice_index before (64 * page + at) == slice_index after (64 * page + at))) 64 h in
    ⊎_elim (λ lt. lt)
    (λ ge. absurd (same_zero (slice_index before (64 * page + found.at)) (slice_index after (64 * page + found.at))
    (get_or_past before (64 * page + found.at) 0 (omega (arith, lb, ge)))
    (get_or_past after (64 * page + found.at) 0 (omega (arith, la, ge))) found.here))
    (cases_lt page n)

pub touched_within : (c : Conditions) (job : Job) (k page : ℕ) → AreSound c job k → touches c job k page ≡ true → page < program.page_count c.design
touched_within c job zero page sound h = absurd (false≢true (sym (is_touched-zero (machine_of c.design) (stimulus_of c job) (limits_for c job) page) ∙ h))
touched_within c job (suc k) page sound h =
    let m = machine_of c.design in
    ⊎_elim
    (λ earlier. touched_within c job k page (λ j below. sound j (omega (arith, below))) earlier)
    (λ here. differs_within (words_in c job k) (words_in c job (suc k)) page (program.page_count c.design)
    (length-words_of c.design (moment_in c job k).state (sound k (omega arith)))
    (length-words_of c.design (moment_in c job (suc k)).state (sound (suc k) (omega arith))) here)
    (or_cases (touches c job k page) (page_differs (words_in c job k) (words_in c job (suc k)) page)
    (sym (is_touched-suc m (stimulus_of c job) (limits_for c job) k page) ∙ h))

none_pass : (n : ℕ) → count_below (λ p. false) n ≡ 0
unfolding count_below
none_pass zero = refl
none_pass (suc n) = omega (arith, none_pass n)

-- how many of the first n numbers have a page
count_held : (es : List Page) (n low limit : ℕ) → rises low limit (pages_in es) ≡ true → ((p : ℕ) → is_some (entry p es) ≡ true → p < n)
    → count_below (λ p. is_some (entry p es)) n ≡ length es
count_held [] n low limit r within = none_pass n
count_held (x ∷ xs) n low limit r within =
    let parts = rises-parts low limit x.page (pages_in xs) r in
    let here : is_some (entry x.page (x ∷ xs)) ≡ true = ap is_some (entry-here x.page x xs refl) in
    let off : is_some (entry x.page xs) ≡ false = ap is_some (entry-below x.page (x.page + 1) limit xs parts.2 (omega arith)) in
    let same : (p : ℕ) → (p ≡ x.page → ⊥) → is_some (entry p xs) ≡ is_some (entry p (x ∷ xs)) = λ p ne. ap is_some (sym (entry-other p x xs ne)) in
    let more = count_below-more (λ p. is_some (entry p xs)) (λ p. is_some (entry p (x ∷ xs))) n x.page (within x.page here) off here same in
    let rest = count_held xs n (x.page + 1) limit parts.2
    (λ p there. ⊎_elim (λ lt. lt) (λ ge. within p (either p there)) (cases_lt p n)) in
    omega (arith, more, rest)
  where
    either : (p : ℕ) → is_some (entry p xs) ≡ true → is_some (entry p (x ∷ xs)) ≡ true
    either p there = by (p == x.page) refl
      where
        by : (b : Bool) → (p == x.page) ≡ b → is_some (entry p (x ∷ xs)) ≡ true
        by true e = ap (λ b. is_some (if b then Some x else entry p xs)) e
        by false e = ap (λ b. is_some (if b then Some x else entry p xs)) e ∙ there

-- as many pages as pass a test, where just those are held
pub entries_counted : (c : Conditions) (pages : Pages) (is : ℕ → Bool) → IsSetup c → IsSorted pages.pages → ((p : ℕ) → is_some (entry p pages.pages) ≡ is p)
    → ((p : ℕ) → is p ≡ true → p < program.page_count c.design) → length pages.pages ≡ count_below is (page_count (words_at_start (machine_of c.design)))
entries_counted c pages is kept sorted held within =
    sym (count_held pages.pages (program.page_count c.design) 0 page_limit sorted (λ p there. within p (sym (held p) ∙ there)))
    ∙ count_below-ext (λ p. is_some (entry p pages.pages)) is (program.page_count c.design) (λ p below. held p)
    ∙ ap (count_below is) (sym (page_count_is c kept))

pub pages_counted : (c : Conditions) (job : Job) (k : ℕ) (pages : Pages) → IsSetup c → AreSound c job k → Stands c job k pages → IsSorted pages.pages
    → length pages.pages ≡ touched_in c job k
pages_counted c job k pages kept sound stands sorted =
    entries_counted c pages (is_touched (machine_of c.design) (stimulus_of c job) (limits_for c job) k) kept sorted stands.touched
    (λ p on. touched_within c job k p sound on)

-- ---- the pages that a turn brings

or_again : (a b : Bool) → (a || b) ≡ (a || (a || b))
or_again true b = refl
or_again false b = refl

has_with : (p q : ℕ) (qs : List ℕ) → has p (with_page q qs) ≡ ((p == q) || has p qs)
has_with p q [] = refl
has_with p q (r ∷ rs) = by (q == r) refl
  where
    by : (b : Bool) → (q == r) ≡ b → has p (with_page q (r ∷ rs)) ≡ ((p == q) || has p (r ∷ rs))
    by true e = ap (λ b. has p (cond b (r ∷ rs) (q ∷ (r ∷ rs)))) e ∙ or_again (p == r) (has p rs) ∙ ap (λ x. (p == x) || has p (r ∷ rs)) (sym (eqb-true q r e))
    by false e = ap (λ b. has p (cond b (r ∷ rs) (q ∷ (r ∷ rs)))) e

touches_has : (p : ℕ) (ws : List Write) → writes.touches p ws ≡ has p (written_pages ws)
touches_has p [] = refl
touches_has p (w ∷ ws) = ap (λ b. (p == w.at / 64) || b) (touches_has p ws) ∙ sym (has_with p (w.at / 64) (written_pages ws))

or_none : (b : Bool) → (b || false) ≡ b
or_none true = refl
or_none false = refl

rises_head : (low limit x : ℕ) (xs : List ℕ) → rises low limit (x ∷ xs) ≡ true → rises (x + 1) limit xs ≡ true
rises_head low limit x xs r = (rises-parts low limit x xs r).2

not_below : (low limit f : ℕ) (xs : List ℕ) → rises low limit xs ≡ true → f < low → has f xs ≡ false
not_below low limit f [] r h = refl
not_below low limit f (x ∷ xs) r h =
    let parts = rises-parts low limit x xs r in
    ap (λ b. b || has f xs) (ne_eqb f x (λ e. absurd (omega (arith, parts.0, e, h)))) ∙ not_below (x + 1) limit f xs parts.2 (omega (arith, parts.0, h))

new_counted : (es : List Page) (ps : List ℕ) (n low limit : ℕ) → rises low limit ps ≡ true → ((p : ℕ) → has p ps ≡ true → p < n)
    → count_below (λ p. is_some (entry p es) || has p ps) n ≡ count_below (λ p. is_some (entry p es)) n + new_pages es ps
new_counted es [] n low limit r within =
    let e = count_below-ext (λ p. is_some (entry p es) || false) (λ p. is_some (entry p es)) n (λ p _. or_none (is_some (entry p es))) in omega (arith, e)
new_counted es (q ∷ ps) n low limit r within =
    by (new_counted es ps n (q + 1) limit (rises_head low limit q ps r) (λ p there. within p (or_right (p == q) (has p ps) there))) (entry q es) refl
  where
    here : q < n
    here = within q (ap (λ b. b || has q ps) (eq-eqb q q refl))

    away : (p : ℕ) → (p ≡ q → ⊥) → (is_some (entry p es) || has p ps) ≡ (is_some (entry p es) || has p (q ∷ ps))
    away p ne = ap (λ b. is_some (entry p es) || (b || has p ps)) (sym (ne_eqb p q ne))

    by : count_below (λ p. is_some (entry p es) || has p ps) n ≡ count_below (λ p. is_some (entry p es)) n + new_pages es ps
        → (o : Option Page) → entry q es ≡ o → count_below (λ p. is_some (entry p es) || has p (q ∷ ps)) n ≡ count_below (λ p. is_some (entry p es)) n + (is_new (entry q es) + new_pages es ps)
    by rest None none =
        let off : (is_some (entry q es) || has q ps) ≡ false = ap (λ o. is_some o || has q ps) none ∙ not_below (q + 1) limit q ps (rises_head low limit q ps r) (omega arith) in
        let on : (is_some (entry q es) || has q (q ∷ ps)) ≡ true = ap (λ b. is_some (entry q es) || (b || has q ps)) (eq-eqb q q refl) ∙ or_right (is_some (entry q es)) true refl in
        let more = count_below-more (λ p. is_some (entry p es) || has p ps) (λ p. is_some (entry p es) || has p (q ∷ ps)) n q here off on away in
        let one : is_new (entry q es) ≡ 1 = ap is_new none in
        omega (arith, rest, more, one)
    by rest (Some e) some =
        let same = count_below-ext (λ p. is_some (entry p es) || has p ps) (λ p. is_some (entry p es) || has p (q ∷ ps)) n
        (λ p _. ⊎_elim
        (λ at. ap (λ o. is_some o || has p ps) (ap (λ x. entry x es) at ∙ some) ∙ sym (ap (λ o. is_some o || has p (q ∷ ps)) (ap (λ x. entry x es) at ∙ some)))
        (away p) (cases_eq p q)) in
        let none : is_new (entry q es) ≡ 0 = ap is_new some in
        omega (arith, rest, same, none)

-- the pages that there would be with the next turn are those that the run touches with it
pub next_counted : (s : Simulator) (turn : Turn) → IsSimulator s → IsNext s turn → IsSorted s.pages.pages
    → length s.pages.pages + new_pages s.pages.pages (written_pages turn.writes.items)
    ≡ touched_in s.setup s.job (suc s.header.turns)
next_counted s turn sim next sorted =
    let c = s.setup in
    let m = machine_of c.design in
    let stim = stimulus_of c s.job in
    let limits = limits_for c s.job in
    let k = s.header.turns in
    let n = program.page_count c.design in
    let es = s.pages.pages in
    let ws = turn.writes.items in
    let pages : page_count (m.words m.start) ≡ n = page_count_is c sim.setup in
    let after = moment_at-suc m stim limits k in
    let differs : (p : ℕ) → page_differs (words_in c s.job k) (words_in c s.job (suc k)) p ≡ has p (written_pages ws) =
    λ p. ap (λ (now : Moment State). page_differs (words_in c s.job k) (words_of c.design now.state) p) after
    ∙ changed_pages_lem (words_in c s.job k) _ ws p next.writes ∙ sym (pages_written p ws) ∙ touches_has p ws in
    let touched : (p : ℕ) → is_touched m stim limits (suc k) p ≡ (is_some (entry p es) || has p (written_pages ws)) =
    λ p. is_touched-suc m stim limits k p ∙ ap₂ ◌||◌ (sym (sim.at.stands.touched p)) (differs p) in
    let rise = written_pages-rise 0 (length s.pages.zero) ws (next_writes s turn sim next) in
    let within : (p : ℕ) → has p (written_pages ws) ≡ true → p < n =
    λ p there. differs_within (words_in c s.job k) (words_in c s.job (suc k)) p n (length-words_of c.design (moment_in c s.job k).state (sim.sound k (omega arith)))
    (length-words_of c.design (moment_in c s.job (suc k)).state (subst (λ (now : Moment State). IsSound c.design now.state) (sym after) next.sound)) (differs p ∙ there) in
    let both = new_counted es (written_pages ws) n _ _ rise within in
    let held = count_held es n 0 page_limit sorted (λ p there. touched_within c s.job k p sim.sound (sym (sim.at.stands.touched p) ∙ there)) in
    let all = count_below-ext (is_touched m stim limits (suc k)) (λ p. is_some (entry p es) || has p (written_pages ws)) n (λ p _. touched p) in
    let count = ap (count_below (is_touched m stim limits (suc k))) pages in
    omega (arith, both, held, all, count)

-- what a refusal tells of the pages that there would be
pub refused_counted : (s : Simulator) (turn : Turn) (refusal : PageRefusal) (pages : Pages) → IsSimulator s → IsNext s turn → IsSorted s.pages.pages
    → OnRefusal refusal (λ k. IsShort k turn.writes.items s.pages pages) (IsUnmade s.pages pages)
    → OnRefusal refusal (λ k. k ≡ touched_in s.setup s.job (suc s.header.turns)) (Unit {0})
refused_counted s turn (Short k) pages sim next sorted short = short.number ∙ next_counted s turn sim next sorted
refused_counted s turn Memory pages sim next sorted unmade = tt
