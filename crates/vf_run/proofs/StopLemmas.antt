-- Where a run stands.
use Rattle.std.proofs.Common.{◌≡◌, ℕ, zero, suc, ◌+◌, ◌<◌, ◌≤◌, Bool, true, false, ◌&&◌, cond, nat_le, nat_lt, List, [], ◌∷◌, length, Option, Some, None, is_some, if◌then◌else◌, refl, sym, ap, subst, ◌∙◌, arith, ⊎_elim}
use Rattle.std.proofs.lemmas.Bool.{false≢true, cases_lt, eq-eqb, ne_eqb, lt-ltb, le-ltb, leb-false}
use Rattle.vf_base.specs.declared.names.Job.{Job}
use Rattle.vf_base.specs.declared.names.Job.TheVariants.{Reach, Finish}
use Rattle.vf_base.specs.declared.names.NodeNo.{NodeNo}
use Rattle.vf_base.specs.declared.run.Ending.{Ending}
use Rattle.vf_base.specs.declared.run.Header.{Header}
use Rattle.vf_base.specs.declared.run.Limits.{Limits}
use Rattle.vf_base.specs.declared.run.SaveKind.{SaveKind}
use Rattle.vf_machine.specs.declared.mark.Mark.TheVariants as marks
use Rattle.vf_machine.specs.Machine.{Machine, Move, go, stop}
use Rattle.vf_machine.specs.Run.{Moment, Turned, moment_at, mark_at, turn_of, free_turn, performed, reads_next, sight_at, is_ending}
use Rattle.vf_machine.specs.Solo.{turns_before_end}
use Rattle.vf_machine.proofs.CallerLemmas.{moment_at-zero, moment_at-suc, reads_once, first_is, run_ends_lem, counts_once, performed-reads}
use Rattle.vf_design.specs.declared.turn.Turn.{Turn}
use Rattle.vf_design.specs.Program.{Program}
use Rattle.vf_design.specs.State.{State, IsSound}
use Rattle.vf_design.specs.Words.{machine_of, words_of}
use Rattle.vf_design.specs.Turn.{IsTurn}
use Rattle.vf_jobs.specs.Kinds.{save_of, save_at, all_read, is_passed}
use Rattle.vf_jobs.specs.Setup.{Conditions}
use Rattle.vf_pages.specs.Pages.{Pages}
use Rattle.vf_frames.specs.declared.holder.Holder.{Holder}
use Rattle.vf_frames.specs.Holders.{Keeps}
use Rattle.vf_frames.proofs.CallerLemmas.{rest-then, notes-then, notes-none}
use Rattle.vf_run.specs.declared.stop.Stop.{Stop}
use Rattle.vf_run.specs.declared.stop.Stop.TheVariants.{AtSave, ReadPast, Ended, Short, Memory}
use Rattle.vf_run.specs.Stops.{Stops, HasKept, TokenAt, IsUnsaved, IsAnswer, misses_after, reads_in}
use Rattle.vf_image.specs.Runs.{stimulus_of, limits_for, last_save, moment_in, touched_in, IsAt, IsSavedAt, GoesPast}
use Rattle.vf_image.specs.Simulators.{Simulator, IsSimulator, IsNext, contents, is_past_end}
use Rattle.vf_image.specs.Standing.{IsAtSave, IsPassing, IsEnding, Needs}
use Rattle.vf_image.specs.Calls.{Stayed}

-- ---- how far the run has come

-- no more bytes were read than turns made
reads_few : {S : Type 0} (m : Machine S) (stim : List ℕ) (limits : Limits) (k : ℕ) → (moment_at m stim limits k).header.reads ≤ k
reads_few {S} m stim limits zero = let e = ap (λ (now : Moment S). now.header.reads) (moment_at-zero m stim limits) in omega (arith, e)
reads_few {S} m stim limits (suc k) =
    let e = ap (λ (now : Moment S). now.header.reads) (moment_at-suc m stim limits k) in
    let one = reads_once m stim limits (moment_at m stim limits k) in
    let before = reads_few m stim limits k in
    omega (arith, e, one, before)

-- a run that goes on has not passed its end
before_end : {S : Type 0} (m : Machine S) (stim : List ℕ) (limits : Limits) (k : ℕ) → ((j : ℕ) → j < k → is_ending (mark_at m stim limits j) ≡ false) → k ≤ turns_before_end m stim limits
before_end m stim limits k goes =
    let end = turns_before_end m stim limits in
    let ends = run_ends_lem m stim limits in
    ⊎_elim (λ lt. absurd (false≢true (sym (goes end lt) ∙ ends.ending))) (λ ge. ge) (cases_lt end k)

pub turns_within : (s : Simulator) → IsSimulator s → s.header.turns ≤ (limits_for s.setup s.job).turns
turns_within s sim =
    let m = machine_of s.setup.design in
    let end = before_end m (stimulus_of s.setup s.job) (limits_for s.setup s.job) s.header.turns sim.at.run.goes in
    let within = (run_ends_lem m (stimulus_of s.setup s.job) (limits_for s.setup s.job)).within in
    omega (arith, end, within)

pub reads_within : (s : Simulator) → IsSimulator s → s.header.reads ≤ (limits_for s.setup s.job).turns
reads_within s sim =
    let few = reads_few (machine_of s.setup.design) (stimulus_of s.setup s.job) (limits_for s.setup s.job) s.header.turns in
    let turns = turns_within s sim in
    let counts = ap (λ (h : Header). h.reads) sim.at.run.counts in
    omega (arith, few, turns, counts)

-- what the kernel says of its turn, for this simulator
pub next_is : (s : Simulator) (design : Program) (stim : List ℕ) (limits : Limits) (header : Header) (turn : Turn) → IsSimulator s
    → design ≡ s.setup.design → stim ≡ stimulus_of s.setup s.job → limits ≡ limits_for s.setup s.job → header ≡ s.header
    → ((t : State) → IsSound design t → words_of design t ≡ contents s → IsTurn design t (turn_of (machine_of design) stim limits (record { state = t; header = header })) turn)
    → IsNext s turn
next_is s design stim limits header turn sim design_is stim_is limits_is header_is said =
    let now = moment_in s.setup s.job s.header.turns in
    let d = subst (λ (p : Program). (t : State) → IsSound p t → words_of p t ≡ contents s → IsTurn p t (turn_of (machine_of p) stim limits (record { state = t; header = header })) turn) design_is said in
    let here = d now.state (sim.sound s.header.turns (omega arith)) refl in
    let m = machine_of s.setup.design in
    subst (λ (turned : Turned State). IsTurn s.setup.design now.state turned turn)
    (λ i. turn_of m (stim_is i) (limits_is i) (record { state = now.state; header = (header_is ∙ sim.at.run.counts) i })) here

-- ---- the save point

if_none : (b : Bool) (o : Option SaveKind) → o ≡ None → (if b then o else None) ≡ None
if_none true o e = e
if_none false o e = refl

-- no checkpoint was asked for
pub unasked : (c : Conditions) (job : Job) (k : ℕ) → last_save c job k ≡ None → IsUnsaved c job k
unasked c (Finish node) k e = tt
unasked c (Reach node) zero e = refl
unasked c (Reach node) (suc k) e =
    let all = all_read (machine_of c.design) (stimulus_of c (Reach node)) (limits_for c (Reach node)) (suc k) in
    if_none all (last_save c (Reach node) (suc k)) e

unread : (c : Conditions) (node : NodeNo) (k : ℕ) → all_read (machine_of c.design) (stimulus_of c (Reach node)) (limits_for c (Reach node)) k ≡ false → IsUnsaved c (Reach node) k
unread c node zero e = refl
unread c node (suc k) e = ap (λ r. if r then save_of (mark_at (machine_of c.design) (stimulus_of c (Reach node)) (limits_for c (Reach node)) k) else None) e

differs : (s : Simulator) (node : NodeNo) → IsSimulator s → s.job ≡ Reach node → (s.header.reads ≡ length (stimulus_of s.setup s.job) → ⊥)
    → all_read (machine_of s.setup.design) (stimulus_of s.setup (Reach node)) (limits_for s.setup (Reach node)) s.header.turns ≡ false
differs s node sim job ne =
    let reads = ap (λ (h : Header). h.reads) sim.at.run.counts in
    ap (λ j. all_read (machine_of s.setup.design) (stimulus_of s.setup j) (limits_for s.setup j) s.header.turns) (sym job)
    ∙ ne_eqb (moment_in s.setup s.job s.header.turns).header.reads (length (stimulus_of s.setup s.job)) (λ e. ne (reads ∙ e))

-- the stimulus is not read to its end
pub unsaved_unread : (s : Simulator) (node : NodeNo) → IsSimulator s → s.job ≡ Reach node → (s.header.reads ≡ length (stimulus_of s.setup s.job) → ⊥)
    → IsUnsaved s.setup s.job s.header.turns
unsaved_unread s node sim job ne = subst (λ j. IsUnsaved s.setup j s.header.turns) (sym job) (unread s.setup node s.header.turns (differs s node sim job ne))

saved_by : (c : Conditions) (node : NodeNo) (k : ℕ) (kind : SaveKind) → last_save c (Reach node) k ≡ Some kind
    → all_read (machine_of c.design) (stimulus_of c (Reach node)) (limits_for c (Reach node)) k ≡ true
    → is_some (save_at (machine_of c.design) (stimulus_of c (Reach node)) (limits_for c (Reach node)) k) ≡ true
saved_by c node zero kind e all = cc
saved_by c node (suc k) kind e all =
    ap (λ r. is_some (if r then last_save c (Reach node) (suc k) else None)) all ∙ ap is_some e

-- a checkpoint that was asked for when just the whole stimulus had been read, and none before it: the save point
at_save : (c : Conditions) (node : NodeNo) (header : Header) (bytes : List ℕ) (pages : Pages) (kind : SaveKind) → IsAt c (Reach node) header.turns header bytes pages
    → last_save c (Reach node) header.turns ≡ Some kind → header.reads ≡ length (stimulus_of c (Reach node)) → IsSavedAt c node header.turns
at_save c node header bytes pages kind at saved whole =
    let m = machine_of c.design in
    let stim = stimulus_of c (Reach node) in
    let limits = limits_for c (Reach node) in
    let k = header.turns in
    let end = before_end m stim limits k at.run.goes in
    let counts = ap (λ (h : Header). h.reads) at.run.counts in
    let all : all_read m stim limits k ≡ true = eq-eqb (moment_at m stim limits k).header.reads (length stim) (sym counts ∙ whole) in
    first_is (λ t. is_some (save_at m stim limits t)) (turns_before_end m stim limits + 1) k (record {
      below = omega (arith, end);
      passes = saved_by c node k kind saved all;
      least = λ j less. ap is_some (at.run.goes_past j less).0;
    })

pub is_at_save : (s : Simulator) (node : NodeNo) (kind : SaveKind) → IsSimulator s → s.job ≡ Reach node → s.saved ≡ Some kind → s.header.reads ≡ length (stimulus_of s.setup s.job)
    → IsAtSave s node
is_at_save s node kind sim job saved whole = record {
  job = job;
  saved = at_save s.setup node s.header s.text s.pages kind (subst (λ j. IsAt s.setup j s.header.turns s.header s.text s.pages) job sim.at)
      (ap (λ j. last_save s.setup j s.header.turns) (sym job) ∙ sym sim.saved ∙ saved) (whole ∙ ap (λ j. length (stimulus_of s.setup j)) job);
}

-- ---- the read past the stimulus

-- a turn that goes on counts its read
reads_by : {S : Type 0} (d t o : Bool) (x y z p : Turned S) (n : ℕ) → is_ending x.mark ≡ true → is_ending y.mark ≡ true → is_ending z.mark ≡ true → p.after.header.reads ≡ n
    → is_ending (cond d x (cond t y (cond o z (cond d x p)))).mark ≡ false → (cond d x (cond t y (cond o z (cond d x p)))).after.header.reads ≡ n
reads_by true t o x y z p n hx hy hz hp h = absurd (false≢true (sym h ∙ hx))
reads_by false true o x y z p n hx hy hz hp h = absurd (false≢true (sym h ∙ hy))
reads_by false false true x y z p n hx hy hz hp h = absurd (false≢true (sym h ∙ hz))
reads_by false false false x y z p n hx hy hz hp h = hp

reads_counted : {S : Type 0} (m : Machine S) (stim : List ℕ) (limits : Limits) (now : Moment S) → is_ending (turn_of m stim limits now).mark ≡ false
    → (turn_of m stim limits now).after.header.reads ≡ now.header.reads + cond (reads_next m stim now) 1 0
reads_counted m stim limits now h =
    reads_by (m.drained now.state) (nat_le limits.turns now.header.turns) (nat_lt limits.output (free_turn m stim now).after.header.written) _ _ _ _ _ refl refl refl
    (performed-reads m stim now (m.move (sight_at m stim now) now.state)) h

more_by : (r : Bool) (before after : ℕ) → after ≡ before + cond r 1 0 → nat_lt before after ≡ r
more_by true before after e = lt-ltb before after (omega (arith, e))
more_by false before after e = le-ltb before after (omega (arith, e))

pub reads_told : (s : Simulator) (turn : Turn) → IsSimulator s → IsNext s turn → is_ending turn.mark ≡ false → nat_lt s.header.reads turn.header.reads ≡ reads_in s
reads_told s turn sim next goes_on =
    let m = machine_of s.setup.design in
    let now = moment_in s.setup s.job s.header.turns in
    let counted = reads_counted m (stimulus_of s.setup s.job) (limits_for s.setup s.job) now (ap is_ending (sym next.mark) ∙ goes_on) in
    let before = ap (λ (h : Header). h.reads) sim.at.run.counts in
    let after = ap (λ (h : Header). h.reads) next.header in
    more_by (reads_in s) s.header.reads turn.header.reads (after ∙ counted ∙ ap (λ n. n + cond (reads_in s) 1 0) (sym before))

-- what the kernel says of the design's next turn, for this simulator
pub reads_is : (s : Simulator) (design : Program) (answer : Bool) → IsSimulator s → design ≡ s.setup.design
    → ((t : State) → IsSound design t → words_of design t ≡ contents s → answer ≡ (machine_of design).at_read (is_past_end s) t) → answer ≡ reads_in s
reads_is s design answer sim design_is said =
    let now = moment_in s.setup s.job s.header.turns in
    let d = subst (λ (p : Program). (t : State) → IsSound p t → words_of p t ≡ contents s → answer ≡ (machine_of p).at_read (is_past_end s) t) design_is said in
    d now.state (sim.sound s.header.turns (omega arith)) refl
    ∙ ap (λ (h : Header). (machine_of s.setup.design).at_read (nat_lt (length (stimulus_of s.setup s.job)) h.reads) now.state) sim.at.run.counts

pub answer_unread : (s : Simulator) (node : NodeNo) (answer : Bool) → IsSimulator s → s.job ≡ Reach node → (s.header.reads ≡ length (stimulus_of s.setup s.job) → ⊥) → answer ≡ false
    → IsAnswer s.setup s.job s.header.turns answer
answer_unread s node answer sim job ne e =
    let m = machine_of s.setup.design in
    let stim = stimulus_of s.setup (Reach node) in
    let now = moment_at m stim (limits_for s.setup (Reach node)) s.header.turns in
    subst (λ j. IsAnswer s.setup j s.header.turns answer) (sym job) (e ∙ sym (ap (λ r. r && reads_next m stim now) (differs s node sim job ne)))

pub answer_read : (s : Simulator) (node : NodeNo) (answer : Bool) → IsSimulator s → s.job ≡ Reach node → s.header.reads ≡ length (stimulus_of s.setup s.job) → answer ≡ reads_in s
    → IsAnswer s.setup s.job s.header.turns answer
answer_read s node answer sim job whole e =
    let m = machine_of s.setup.design in
    let reads = ap (λ (h : Header). h.reads) sim.at.run.counts in
    let all : all_read m (stimulus_of s.setup s.job) (limits_for s.setup s.job) s.header.turns ≡ true =
    eq-eqb (moment_in s.setup s.job s.header.turns).header.reads (length (stimulus_of s.setup s.job)) (sym reads ∙ whole) in
    let here : answer ≡ is_passed m (stimulus_of s.setup s.job) (limits_for s.setup s.job) s.header.turns = e ∙ sym (ap (λ r. r && reads_in s) all) in
    subst (λ j. IsAnswer s.setup j s.header.turns answer) (sym job)
    (subst (λ j. answer ≡ is_passed m (stimulus_of s.setup j) (limits_for s.setup j) s.header.turns) job here)

pub answer_finish : (s : Simulator) (node : NodeNo) (answer : Bool) → s.job ≡ Finish node → answer ≡ false → IsAnswer s.setup s.job s.header.turns answer
answer_finish s node answer job e = subst (λ j. IsAnswer s.setup j s.header.turns answer) (sym job) e

pub unsaved_finish : (s : Simulator) (node : NodeNo) → s.job ≡ Finish node → IsUnsaved s.setup s.job s.header.turns
unsaved_finish s node job = subst (λ j. IsUnsaved s.setup j s.header.turns) (sym job) tt

-- neither at a save point nor past the stimulus
pub goes_past : (c : Conditions) (job : Job) (k : ℕ) → IsUnsaved c job k → IsAnswer c job k false → GoesPast c job k
goes_past c (Finish node) k unsaved answer = tt
goes_past c (Reach node) k unsaved answer = (unsaved, sym answer)

pub is_passing : (s : Simulator) (job : Job) → s.job ≡ job → IsUnsaved s.setup job s.header.turns → IsAnswer s.setup job s.header.turns true → (node : NodeNo) × IsPassing s node
is_passing s (Finish node) job unsaved answer = absurd (false≢true (sym answer))
is_passing s (Reach node) job unsaved answer = (
  node,
  record {
    job = job;
    unsaved = subst (λ j. save_at (machine_of s.setup.design) (stimulus_of s.setup j) (limits_for s.setup j) s.header.turns ≡ None) (sym job) unsaved;
    passes = subst (λ j. is_passed (machine_of s.setup.design) (stimulus_of s.setup j) (limits_for s.setup j) s.header.turns ≡ true) (sym job) (sym answer);
  },
)

-- ---- the ending

counted_by : {S : Type 0} (d t o : Bool) (x y z p : Turned S) (n : ℕ) → x.after.header.turns ≤ n → y.after.header.turns ≤ n → (t ≡ false → z.after.header.turns ≤ n) → (t ≡ false → p.after.header.turns ≤ n)
    → (cond d x (cond t y (cond o z (cond d x p)))).after.header.turns ≤ n
counted_by true t o x y z p n hx hy hz hp = hx
counted_by false true o x y z p n hx hy hz hp = hy
counted_by false false true x y z p n hx hy hz hp = hz refl
counted_by false false false x y z p n hx hy hz hp = hp refl

performed-turns : {S : Type 0} (m : Machine S) (stim : List ℕ) (now : Moment S) (move : Move S) → (performed m stim now move).after.header.turns ≡ now.header.turns + 1
performed-turns m stim now (go state text save) = refl
performed-turns m stim now (stop ending) = refl

-- no turn counts beyond the limit on turns
counted_within : {S : Type 0} (m : Machine S) (stim : List ℕ) (limits : Limits) (now : Moment S) → now.header.turns ≤ limits.turns → (turn_of m stim limits now).after.header.turns ≤ limits.turns
counted_within m stim limits now h =
    counted_by (m.drained now.state) (nat_le limits.turns now.header.turns) (nat_lt limits.output (free_turn m stim now).after.header.written) _ _ _ _ limits.turns h h
    (λ t. let less = leb-false limits.turns now.header.turns t in omega (arith, less))
    (λ t. let less = leb-false limits.turns now.header.turns t in let one = performed-turns m stim now (m.move (sight_at m stim now) now.state) in omega (arith, less, one))

pub record Counted (s : Simulator) (turns : ℕ) : Type 0 where
  pub once : (s.header.turns ≤ turns) × (turns ≤ s.header.turns + 1)
  pub within : turns ≤ (limits_for s.setup s.job).turns

pub end_counted : (s : Simulator) (turn : Turn) → IsSimulator s → IsNext s turn → Counted s turn.header.turns
end_counted s turn sim next =
    let m = machine_of s.setup.design in
    let now = moment_in s.setup s.job s.header.turns in
    let stim = stimulus_of s.setup s.job in
    let limits = limits_for s.setup s.job in
    let here = ap (λ (h : Header). h.turns) sim.at.run.counts in
    let once = counts_once m stim limits now in
    let within = turns_within s sim in
    let most = counted_within m stim limits now (omega (arith, here, within)) in
    let given = ap (λ (h : Header). h.turns) next.header in
    record { once = (omega (arith, here, once.0, given), omega (arith, here, once.1, given)); within = omega (arith, most, given) }

pub is_ending_now : (s : Simulator) (turn : Turn) (ending : Ending) → IsNext s turn → GoesPast s.setup s.job s.header.turns → turn.mark ≡ marks.Ended ending → IsEnding s ending turn.header.turns
is_ending_now s turn ending next past ends = record { past = past; ends = sym next.mark ∙ ends; counts = ap (λ (h : Header). h.turns) next.header }

-- a simulator that stayed as it was needs what it needed before
pub needs_stayed : (s s' : Simulator) (turn : Turn) (k : ℕ) → Stayed s s' → IsNext s turn → GoesPast s.setup s.job s.header.turns → is_ending turn.mark ≡ false
    → k ≡ touched_in s.setup s.job (suc s.header.turns) → Needs s' k
needs_stayed s s' turn k stayed next past goes_on number =
    subst (λ (x : Simulator). Needs x k) (λ t. record s' { setup = sym stayed.setup t; job = sym stayed.job t; header = sym stayed.header t })
    (record { past = past; goes_on = ap is_ending (sym next.mark) ∙ goes_on; pages = number })

-- ---- tokens

pub token_same : (why : Stop) (h : Holder) → misses_after why h.misses ≡ h.misses → TokenAt why h h
token_same why h e = record { misses = sym e; parts = refl; name = refl; notes = notes-none _ h.notes tt }

pub kept_same : (h : Holder) → HasKept h h
kept_same h = record { rest = record { misses = refl; parts = refl; name = refl }; notes = notes-none _ h.notes tt }

pub kept_then : (a b c : Holder) → HasKept a b → HasKept b c → HasKept a c
kept_then a b c p q = record { rest = rest-then a b c p.rest q.rest; notes = notes-then _ _ _ a.notes b.notes c.notes p.notes q.notes (λ x y s t. tt) }

pub token_then : (why : Stop) (a b c : Holder) → HasKept a b → TokenAt why b c → TokenAt why a c
token_then why a b c p q = record {
  misses = q.misses ∙ ap (misses_after why) p.rest.misses;
  parts = q.parts ∙ p.rest.parts;
  name = q.name ∙ p.rest.name;
  notes = notes-then _ _ _ a.notes b.notes c.notes p.notes q.notes (λ x y s t. tt);
}

-- a reason to stop, told from an earlier moment of the pool on
pub stops_since : (first now : Option (List ℕ)) (first_holder holder : Holder) (s : Simulator) (stopped : Stop) → Keeps first (first_holder ∷ []) now (holder ∷ []) → HasKept first_holder holder
    → Stops now holder s stopped → Stops first first_holder s stopped
stops_since first now first_holder holder s (AtSave kind) pool kept said = said
stops_since first now first_holder holder s ReadPast pool kept said = said
stops_since first now first_holder holder s (Ended ending turns) pool kept said = said
stops_since first now first_holder holder s (Short pages) pool kept said = record {
  before = said.before;
  kept = kept_then first_holder holder said.before.pages.holder kept said.kept;
  turn = said.turn;
  stayed = said.stayed;
  next = said.next;
  needs = said.needs;
  short = said.short;
  is_short = said.is_short;
  among = λ others accounts. said.among others (pool others accounts);
}
stops_since first now first_holder holder s Memory pool kept said = said
