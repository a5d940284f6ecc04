-- Moments of a run, one turn after another.
use Rattle.std.proofs.Common.{◌≡◌, ℕ, zero, suc, ◌+◌, ◌<◌, ◌≤◌, Bool, true, false, List, [], ◌++◌, length, cond, refl, sym, ◌∙◌, ap, arith, nat_lt, nat_le}
use Rattle.std.proofs.lemmas.Bool.{false≢true, le-ltb, lt-leb}
use Rattle.vf_base.specs.declared.run.Limits.{Limits}
use Rattle.vf_machine.specs.declared.mark.Mark.{Mark}
use Rattle.vf_machine.specs.declared.mark.Mark.TheVariants.{Plain, Saved, Ended}
use Rattle.vf_machine.specs.Machine.{Machine, Move, go, stop}
use Rattle.vf_machine.specs.Run.{Moment, Turned, moment_at, text_at, turn_at, turn_of, free_turn, performed, has_read_past, reads_next, sight_at, at_zero, is_limit, is_ending}

pub moment_at-zero : {S : Type 0} (m : Machine S) (stim : List ℕ) (limits : Limits) → moment_at m stim limits 0 ≡ at_zero m
unfolding moment_at
moment_at-zero m stim limits = refl

pub moment_at-suc : {S : Type 0} (m : Machine S) (stim : List ℕ) (limits : Limits) (k : ℕ) → moment_at m stim limits (suc k) ≡ (turn_at m stim limits k).after
unfolding moment_at
moment_at-suc m stim limits k = refl

pub text_at-zero : {S : Type 0} (m : Machine S) (stim : List ℕ) (limits : Limits) → text_at m stim limits 0 ≡ []
unfolding text_at
text_at-zero m stim limits = refl

pub text_at-suc : {S : Type 0} (m : Machine S) (stim : List ℕ) (limits : Limits) (k : ℕ) → text_at m stim limits (suc k) ≡ text_at m stim limits k ++ (turn_at m stim limits k).text
unfolding text_at
text_at-suc m stim limits k = refl

-- a fact of each branch of a turn is one of the turn
pub branches : {S : Type 0} (P : Turned S → Type 0) (d t o : Bool) (x y z f : Turned S) → P x → P y → P z → P f → P (cond d x (cond t y (cond o z f)))
branches P true t o x y z f px py pz pf = px
branches P false true o x y z f px py pz pf = py
branches P false false true x y z f px py pz pf = pz
branches P false false false x y z f px py pz pf = pf

pub branches_free : {S : Type 0} (P : Turned S → Type 0) (d : Bool) (x f : Turned S) → P x → P f → P (cond d x f)
branches_free P true x f px pf = px
branches_free P false x f px pf = pf

-- a turn that no limit ended is the turn without limits
unlimited_by : {S : Type 0} (d t o : Bool) (x y z p : Turned S) → is_limit y.mark ≡ true → is_limit z.mark ≡ true
    → is_limit (cond d x (cond t y (cond o z (cond d x p)))).mark ≡ false
    → cond d x (cond t y (cond o z (cond d x p))) ≡ cond d x p
unlimited_by true t o x y z p hy hz h = refl
unlimited_by false true o x y z p hy hz h = absurd (false≢true (sym h ∙ hy))
unlimited_by false false true x y z p hy hz h = absurd (false≢true (sym h ∙ hz))
unlimited_by false false false x y z p hy hz h = refl

pub unlimited : {S : Type 0} (m : Machine S) (stim : List ℕ) (limits : Limits) (now : Moment S)
    → is_limit (turn_of m stim limits now).mark ≡ false → turn_of m stim limits now ≡ free_turn m stim now
unlimited m stim limits now h =
    unlimited_by (m.drained now.state) (nat_le limits.turns now.header.turns) (nat_lt limits.output (free_turn m stim now).after.header.written)
    _ _ _ (performed m stim now (m.move (sight_at m stim now) now.state)) refl refl h

-- a performed turn counts its read
pub performed-reads : {S : Type 0} (m : Machine S) (stim : List ℕ) (now : Moment S) (move : Move S)
    → (performed m stim now move).after.header.reads ≡ now.header.reads + cond (reads_next m stim now) 1 0
performed-reads m stim now (go state text save) = refl
performed-reads m stim now (stop ending) = refl

-- where no read has gone past the end of either stimulus, the next turn reads both or neither
pub same_past : {S : Type 0} (a b : List ℕ) (now : Moment S) → now.header.reads ≤ length a → now.header.reads ≤ length b → has_read_past a now ≡ has_read_past b now
same_past a b now ha hb = le-ltb (length a) now.header.reads ha ∙ sym (le-ltb (length b) now.header.reads hb)

pub same_read : {S : Type 0} (m : Machine S) (a b : List ℕ) (now : Moment S) → now.header.reads ≤ length a → now.header.reads ≤ length b → reads_next m a now ≡ reads_next m b now
same_read m a b now ha hb = ap (λ past. m.at_read past now.state) (same_past a b now ha hb)

-- reads never fall
abbrev Keeps : {S : Type 0} → Moment S → Turned S → Type 0
Keeps now t = now.header.reads ≤ t.after.header.reads

free_turn-reads : {S : Type 0} (m : Machine S) (stim : List ℕ) (now : Moment S) → now.header.reads ≤ (free_turn m stim now).after.header.reads
free_turn-reads m stim now =
    branches_free (Keeps now) (m.drained now.state) _ _ (omega arith) (omega (arith, performed-reads m stim now (m.move (sight_at m stim now) now.state)))

pub reads_grow : {S : Type 0} (m : Machine S) (stim : List ℕ) (limits : Limits) (now : Moment S) → now.header.reads ≤ (turn_of m stim limits now).after.header.reads
reads_grow m stim limits now =
    branches (Keeps now) (m.drained now.state) (nat_le limits.turns now.header.turns) (nat_lt limits.output (free_turn m stim now).after.header.written)
    _ _ _ _ (omega arith) (omega arith) (omega arith) (free_turn-reads m stim now)

-- a turn reads once at most
abbrev ReadsOnce : {S : Type 0} → Moment S → Turned S → Type 0
ReadsOnce now t = t.after.header.reads ≤ now.header.reads + 1

once : (b : Bool) → cond b 1 0 ≤ 1
once true = omega arith
once false = omega arith

pub reads_once : {S : Type 0} (m : Machine S) (stim : List ℕ) (limits : Limits) (now : Moment S) → (turn_of m stim limits now).after.header.reads ≤ now.header.reads + 1
reads_once m stim limits now =
    branches (ReadsOnce now) (m.drained now.state) (nat_le limits.turns now.header.turns) (nat_lt limits.output (free_turn m stim now).after.header.written)
    _ _ _ _ (omega arith) (omega arith) (omega arith)
    (branches_free (ReadsOnce now) (m.drained now.state) _ _ (omega arith)
    (omega (arith, performed-reads m stim now (m.move (sight_at m stim now) now.state), once (reads_next m stim now))))

-- no turn lowers the bytes written
abbrev Writes : {S : Type 0} → Moment S → Turned S → Type 0
Writes now t = now.header.written ≤ t.after.header.written

performed-writes : {S : Type 0} (m : Machine S) (stim : List ℕ) (now : Moment S) (move : Move S) → Writes now (performed m stim now move)
performed-writes m stim now (go state text save) = omega arith
performed-writes m stim now (stop ending) = omega arith

pub free_turn-writes : {S : Type 0} (m : Machine S) (stim : List ℕ) (now : Moment S) → now.header.written ≤ (free_turn m stim now).after.header.written
free_turn-writes m stim now =
    branches_free (Writes now) (m.drained now.state) _ _ (omega arith) (performed-writes m stim now (m.move (sight_at m stim now) now.state))

pub written_grows : {S : Type 0} (m : Machine S) (stim : List ℕ) (limits : Limits) (now : Moment S) → now.header.written ≤ (turn_of m stim limits now).after.header.written
written_grows m stim limits now =
    branches (Writes now) (m.drained now.state) (nat_le limits.turns now.header.turns) (nat_lt limits.output (free_turn m stim now).after.header.written)
    _ _ _ _ (omega arith) (omega arith) (omega arith) (free_turn-writes m stim now)

-- what no turn lowers is never lower later
no_lower : (a b c d : ℕ) → a ≤ b → b ≤ c → d ≡ c → a ≤ d
no_lower a b c d ab bc dc = omega (arith, ab, bc, dc)

plus_suc : (j n : ℕ) → j + suc n ≡ suc (j + n)
plus_suc j n = omega arith

plus_zero : (j : ℕ) → j + 0 ≡ j
plus_zero j = omega arith

itself : (n : ℕ) → n ≤ n
itself n = omega arith

pub later : {S : Type 0} (f : Moment S → ℕ) (m : Machine S) (stim : List ℕ) (limits : Limits) → ((now : Moment S) → f now ≤ f (turn_of m stim limits now).after)
    → (j n : ℕ) → f (moment_at m stim limits j) ≤ f (moment_at m stim limits (j + n))
later f m stim limits grows j zero =
    let x = f (moment_at m stim limits j) in
    no_lower x x x (f (moment_at m stim limits (j + 0))) (itself x) (itself x) (ap (λ k. f (moment_at m stim limits k)) (plus_zero j))
later f m stim limits grows j (suc n) =
    no_lower (f (moment_at m stim limits j)) (f (moment_at m stim limits (j + n))) (f (turn_at m stim limits (j + n)).after) (f (moment_at m stim limits (j + suc n)))
    (later f m stim limits grows j n) (grows (moment_at m stim limits (j + n)))
    (ap (λ k. f (moment_at m stim limits k)) (let k : j + suc n ≡ suc (j + n) = plus_suc j n in k) ∙ ap f (moment_at-suc m stim limits (j + n)))

-- a turn within the limits is the turn without limits
within_by : {S : Type 0} (d t o : Bool) (x y z p : Turned S) → t ≡ false → o ≡ false → cond d x (cond t y (cond o z (cond d x p))) ≡ cond d x p
within_by true t o x y z p ht ho = refl
within_by false true o x y z p ht ho = absurd (false≢true (sym ht))
within_by false false true x y z p ht ho = absurd (false≢true (sym ho))
within_by false false false x y z p ht ho = refl

pub within_limits : {S : Type 0} (m : Machine S) (stim : List ℕ) (limits : Limits) (now : Moment S) → now.header.turns < limits.turns
    → (free_turn m stim now).after.header.written ≤ limits.output → turn_of m stim limits now ≡ free_turn m stim now
within_limits m stim limits now t o =
    within_by (m.drained now.state) (nat_le limits.turns now.header.turns) (nat_lt limits.output (free_turn m stim now).after.header.written)
    _ _ _ (performed m stim now (m.move (sight_at m stim now) now.state))
    (lt-leb limits.turns now.header.turns t) (le-ltb limits.output (free_turn m stim now).after.header.written o)

-- a turn that goes on was ended by no limit
pub no_limit : (mark : Mark) → is_ending mark ≡ false → is_limit mark ≡ false
no_limit Plain h = refl
no_limit (Saved kind) h = refl
no_limit (Ended ending) h = cc
