-- Each run ends, and an ending is still.
use Rattle.std.proofs.Common.{◌≡◌, ℕ, zero, suc, ◌+◌, ◌<◌, ◌≤◌, Bool, true, false, List, [], Option, Some, None, cond, refl, sym, ◌∙◌, ap, arith, nat_lt, nat_le, unwrap_or}
use Rattle.std.proofs.lemmas.Bool.{false≢true, le-leb, leb-false}
use Rattle.vf_base.specs.declared.run.Limits.{Limits}
use Rattle.vf_base.specs.declared.run.SaveKind.{SaveKind}
use Rattle.vf_machine.specs.Machine.{Machine, Move, go, stop, stops}
use Rattle.vf_machine.specs.Search.{first}
use Rattle.vf_machine.specs.Run.{Moment, Turned, moment_at, turn_of, mark_at, free_turn, performed, sight_at, saved_mark, is_ending, is_limit}
use Rattle.vf_machine.specs.Solo.{turns_before_end}
use Rattle.vf_machine.specs.Laws.{RunEnds, EndingIsStill, GoesOn}
use Rattle.vf_machine.proofs.Runs.{moment_at-zero, moment_at-suc, branches, branches_free}
use Rattle.vf_machine.proofs.Searches.{NoneBelow, Finds, IsFirst, first_finds}

saved_goes_on : (save : Option SaveKind) → is_ending (saved_mark save) ≡ false
saved_goes_on None = refl
saved_goes_on (Some kind) = refl

-- a turn that is no ending counts as one
abbrev Counts : {S : Type 0} → Moment S → Turned S → Type 0
Counts now t = is_ending t.mark ≡ false → t.after.header.turns ≡ now.header.turns + 1

performed-counts : {S : Type 0} (m : Machine S) (stim : List ℕ) (now : Moment S) (move : Move S) → Counts now (performed m stim now move)
performed-counts m stim now (go state text save) = λ h. refl
performed-counts m stim now (stop ending) = λ h. refl

pub turn-counts : {S : Type 0} (m : Machine S) (stim : List ℕ) (limits : Limits) (now : Moment S) → Counts now (turn_of m stim limits now)
turn-counts m stim limits now =
    branches (Counts now) (m.drained now.state) (nat_le limits.turns now.header.turns) (nat_lt limits.output (free_turn m stim now).after.header.written)
    _ _ _ _ (λ h. absurd (false≢true (sym h))) (λ h. absurd (false≢true (sym h))) (λ h. refl)
    (branches_free (Counts now) (m.drained now.state) _ _ (λ h. absurd (false≢true (sym h))) (performed-counts m stim now (m.move (sight_at m stim now) now.state)))

-- before the first ending, as many turns are counted as were made
pub turns_counted : {S : Type 0} (m : Machine S) (stim : List ℕ) (limits : Limits) (k : ℕ) → NoneBelow (λ j. is_ending (mark_at m stim limits j)) k → (moment_at m stim limits k).header.turns ≡ k
turns_counted m stim limits zero none = ap (λ now. now.header.turns) (moment_at-zero m stim limits)
turns_counted m stim limits (suc k) none =
    let before = turns_counted m stim limits k (λ j below. none j (omega arith)) in
    let more = turn-counts m stim limits (moment_at m stim limits k) (none k (omega arith)) in
    ap (λ now. now.header.turns) (moment_at-suc m stim limits k) ∙ omega (arith, before, more)

at_limit_by : {S : Type 0} (d t o : Bool) (x y z f : Turned S) → t ≡ true → is_ending x.mark ≡ true → is_ending y.mark ≡ true
    → is_ending (cond d x (cond t y (cond o z f))).mark ≡ true
at_limit_by true t o x y z f e hx hy = hx
at_limit_by false true o x y z f e hx hy = hy
at_limit_by false false o x y z f e hx hy = absurd (false≢true e)

-- at the limit on turns the run has ended
at_limit : {S : Type 0} (m : Machine S) (stim : List ℕ) (limits : Limits) (now : Moment S) → limits.turns ≤ now.header.turns → is_ending (turn_of m stim limits now).mark ≡ true
at_limit m stim limits now h =
    at_limit_by (m.drained now.state) (nat_le limits.turns now.header.turns) (nat_lt limits.output (free_turn m stim now).after.header.written)
    _ _ _ _ (le-leb limits.turns now.header.turns h) refl refl

found_by : (p : ℕ → Bool) (n : ℕ) (found : Option ℕ) → Finds p (n + 1) found → (NoneBelow p n → p n ≡ true) → IsFirst p (n + 1) (unwrap_or found n)
found_by p n None none last = absurd (false≢true (sym (none n (omega arith)) ∙ last (λ j below. none j (omega arith))))
found_by p n (Some i) f last = f

pub first_ending : {S : Type 0} (m : Machine S) (stim : List ℕ) (limits : Limits) → IsFirst (λ j. is_ending (mark_at m stim limits j)) (limits.turns + 1) (turns_before_end m stim limits)
first_ending m stim limits =
    found_by (λ j. is_ending (mark_at m stim limits j)) limits.turns (first (λ j. is_ending (mark_at m stim limits j)) (limits.turns + 1))
    (first_finds (λ j. is_ending (mark_at m stim limits j)) (limits.turns + 1))
    (λ none. at_limit m stim limits (moment_at m stim limits limits.turns) (omega (arith, turns_counted m stim limits limits.turns none)))

pub run_ends_lem : {S : Type 0} (m : Machine S) (stim : List ℕ) (limits : Limits) → RunEnds m stim limits
run_ends_lem m stim limits =
    let found = first_ending m stim limits in
    record { ending = found.passes; first = found.least; within = omega (arith, found.below) }

-- an ending changes no state and writes nothing
abbrev Still : {S : Type 0} → Moment S → Turned S → Type 0
Still now t = is_ending t.mark ≡ true → (t.after.state ≡ now.state) × (t.text ≡ [])

performed-still : {S : Type 0} (m : Machine S) (stim : List ℕ) (now : Moment S) (move : Move S) → Still now (performed m stim now move)
performed-still m stim now (go state text save) = λ h. absurd (false≢true (sym (saved_goes_on save) ∙ h))
performed-still m stim now (stop ending) = λ h. (refl, refl)

pub turn-still : {S : Type 0} (m : Machine S) (stim : List ℕ) (limits : Limits) (now : Moment S) → Still now (turn_of m stim limits now)
turn-still m stim limits now =
    branches (Still now) (m.drained now.state) (nat_le limits.turns now.header.turns) (nat_lt limits.output (free_turn m stim now).after.header.written)
    _ _ _ _ (λ h. (refl, refl)) (λ h. (refl, refl)) (λ h. (refl, refl))
    (branches_free (Still now) (m.drained now.state) _ _ (λ h. (refl, refl)) (performed-still m stim now (m.move (sight_at m stim now) now.state)))

pub ending_still : {S : Type 0} (m : Machine S) (stim : List ℕ) (limits : Limits) (k : ℕ) → is_ending (mark_at m stim limits k) ≡ true → EndingIsStill m stim limits k
ending_still m stim limits k h =
    let still = turn-still m stim limits (moment_at m stim limits k) h in
    record { state = ap (λ now. now.state) (moment_at-suc m stim limits k) ∙ still.0; text = still.1 }

-- a turn counts as one or as none
abbrev CountsOnce : {S : Type 0} → Moment S → Turned S → Type 0
CountsOnce now t = (now.header.turns ≤ t.after.header.turns) × (t.after.header.turns ≤ now.header.turns + 1)

performed-counts-once : {S : Type 0} (m : Machine S) (stim : List ℕ) (now : Moment S) (move : Move S) → CountsOnce now (performed m stim now move)
performed-counts-once m stim now (go state text save) = (omega arith, omega arith)
performed-counts-once m stim now (stop ending) = (omega arith, omega arith)

pub counts_once : {S : Type 0} (m : Machine S) (stim : List ℕ) (limits : Limits) (now : Moment S)
    → (now.header.turns ≤ (turn_of m stim limits now).after.header.turns) × ((turn_of m stim limits now).after.header.turns ≤ now.header.turns + 1)
counts_once m stim limits now =
    branches (CountsOnce now) (m.drained now.state) (nat_le limits.turns now.header.turns) (nat_lt limits.output (free_turn m stim now).after.header.written)
    _ _ _ _ (omega arith, omega arith) (omega arith, omega arith) (omega arith, omega arith)
    (branches_free (CountsOnce now) (m.drained now.state) _ _ (omega arith, omega arith) (performed-counts-once m stim now (m.move (sight_at m stim now) now.state)))

below_by : {S : Type 0} (d t o : Bool) (x y z f : Turned S) → is_ending x.mark ≡ true → is_ending y.mark ≡ true
    → is_ending (cond d x (cond t y (cond o z f))).mark ≡ false → t ≡ false
below_by true t o x y z f hx hy h = absurd (false≢true (sym h ∙ hx))
below_by false true o x y z f hx hy h = absurd (false≢true (sym h ∙ hy))
below_by false false o x y z f hx hy h = refl

-- a turn that is no ending comes before the limit on turns
pub before_limit : {S : Type 0} (m : Machine S) (stim : List ℕ) (limits : Limits) (now : Moment S) → is_ending (turn_of m stim limits now).mark ≡ false → now.header.turns < limits.turns
before_limit m stim limits now h =
    leb-false limits.turns now.header.turns
    (below_by (m.drained now.state) (nat_le limits.turns now.header.turns) (nat_lt limits.output (free_turn m stim now).after.header.written) _ _ _ _ refl refl h)

-- a turn that by itself ends no run is an ending only by a limit
abbrev OnlyLimits : {S : Type 0} → Turned S → Type 0
OnlyLimits t = is_limit t.mark ≡ is_ending t.mark

limits_by : {S : Type 0} (d t o : Bool) (x y z f : Turned S) → d ≡ false → OnlyLimits y → OnlyLimits z → OnlyLimits f → OnlyLimits (cond d x (cond t y (cond o z (cond d x f))))
limits_by true t o x y z f e hy hz hf = absurd (false≢true (sym e))
limits_by false true o x y z f e hy hz hf = hy
limits_by false false true x y z f e hy hz hf = hz
limits_by false false false x y z f e hy hz hf = hf

saved_no_limit : (save : Option SaveKind) → is_limit (saved_mark save) ≡ is_ending (saved_mark save)
saved_no_limit None = refl
saved_no_limit (Some kind) = refl

moved_by : {S : Type 0} (m : Machine S) (stim : List ℕ) (now : Moment S) (move : Move S) → stops move ≡ false → OnlyLimits (performed m stim now move)
moved_by m stim now (go state text save) h = saved_no_limit save
moved_by m stim now (stop ending) h = absurd (false≢true (sym h))

pub ends_by_limits : {S : Type 0} (m : Machine S) (stim : List ℕ) (limits : Limits) (now : Moment S) → GoesOn m (sight_at m stim now) now.state
    → is_limit (turn_of m stim limits now).mark ≡ is_ending (turn_of m stim limits now).mark
ends_by_limits m stim limits now goes =
    limits_by (m.drained now.state) (nat_le limits.turns now.header.turns) (nat_lt limits.output (free_turn m stim now).after.header.written)
    _ _ _ (performed m stim now (m.move (sight_at m stim now) now.state)) goes.event refl refl (moved_by m stim now (m.move (sight_at m stim now) now.state) goes.move)
