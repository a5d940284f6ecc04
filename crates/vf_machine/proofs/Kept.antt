-- What every move of a machine keeps holds in each moment of its runs.
use Rattle.std.proofs.Common.{◌≡◌, ℕ, zero, suc, ◌<◌, Bool, true, false, List, Option, Some, None, cond, refl, sym, subst, arith, get_or, nat_lt, nat_le, slice_get, IfSome}
use Rattle.std.proofs.lemmas.Option.{get_or_from_slice_get}
use Rattle.vf_base.specs.declared.run.Limits.{Limits}
use Rattle.vf_machine.specs.Machine.{Machine, Move, go, stop, Sight}
use Rattle.vf_machine.specs.Run.{Moment, moment_at, turn_of, free_turn, performed, reads_next, sight_at}
use Rattle.vf_machine.specs.Laws.{IsStimulus}
use Rattle.vf_machine.proofs.Runs.{moment_at-zero, moment_at-suc, branches, branches_free}

-- the state that a move goes on to has the property
abbrev pub KeptBy : {S : Type 0} → (S → Type 0) → Move S → Type 0
KeptBy P (go state text save) = P state
KeptBy P (stop ending) = Unit {0}

-- what a turn sees of a stimulus is a byte
abbrev pub SeesByte : Sight → Type 0
SeesByte sight = IfSome sight.byte (λ byte. byte < 256)

sees_by : (r : Bool) (byte : Option ℕ) → IfSome byte (λ b. b < 256) → IfSome (cond r byte None) (λ b. b < 256)
sees_by true byte h = h
sees_by false byte h = tt

pub sees_byte : {S : Type 0} (m : Machine S) (stim : List ℕ) (now : Moment S) → IsStimulus stim → SeesByte (sight_at m stim now)
sees_byte m stim now bytes = sees_by (reads_next m stim now) (slice_get stim now.header.reads) (bytes now.header.reads)

performed-kept : {S : Type 0} (P : S → Type 0) (m : Machine S) (stim : List ℕ) (now : Moment S) (move : Move S) → P now.state → KeptBy P move → P (performed m stim now move).after.state
performed-kept P m stim now (go state text save) before kept = kept
performed-kept P m stim now (stop ending) before kept = before

pub turn-kept : {S : Type 0} (P : S → Type 0) (m : Machine S) (stim : List ℕ) (limits : Limits) (now : Moment S)
    → P now.state → KeptBy P (m.move (sight_at m stim now) now.state) → P (turn_of m stim limits now).after.state
turn-kept P m stim limits now before kept =
    branches (λ t. P t.after.state) (m.drained now.state) (nat_le limits.turns now.header.turns) (nat_lt limits.output (free_turn m stim now).after.header.written)
    _ _ _ _ before before before
    (branches_free (λ t. P t.after.state) (m.drained now.state) _ _ before (performed-kept P m stim now (m.move (sight_at m stim now) now.state) before kept))

pub moments_kept : {S : Type 0} (P : S → Type 0) (m : Machine S) (stim : List ℕ) (limits : Limits)
    → IsStimulus stim → P m.start → ((sight : Sight) (s : S) → SeesByte sight → P s → KeptBy P (m.move sight s)) → (k : ℕ) → P (moment_at m stim limits k).state
moments_kept P m stim limits bytes first kept zero = subst (λ now. P now.state) (sym (moment_at-zero m stim limits)) first
moments_kept P m stim limits bytes first kept (suc k) =
    let now = moment_at m stim limits k in
    let before = moments_kept P m stim limits bytes first kept k in
    subst (λ after. P after.state) (sym (moment_at-suc m stim limits k))
    (turn-kept P m stim limits now before (kept (sight_at m stim now) now.state (sees_byte m stim now bytes) before))

stimulus_by : (byte : Option ℕ) → ((x : ℕ) → byte ≡ Some x → x < 256) → IfSome byte (λ b. b < 256)
stimulus_by None h = tt
stimulus_by (Some x) h = h x refl

-- a slice of bytes is a stimulus
pub stimulus_of_bytes : (stim : List ℕ) → ((at : ℕ) → get_or stim at 0 < 256) → IsStimulus stim
stimulus_of_bytes stim bytes = λ at. stimulus_by (slice_get stim at) (λ x e. omega (arith, bytes at, get_or_from_slice_get stim at x 0 e))
