-- Each node has a kind.
use Rattle.std.proofs.Common.{◌≡◌, ◌==◌, ℕ, suc, ◌+◌, Bool, true, false, Option, Some, None, refl, ◌∙◌, ap, arith, rules, if◌then◌else◌, unwrap_or}
use Rattle.vf_base.specs.declared.run.SaveKind.TheVariants.{Full}
use Rattle.vf_machine.specs.Machine.{Machine}
use Rattle.vf_jobs.specs.Kinds.{Kind, saved, passed, ended, over, kind_at, first_decided, HasOneKind, is_saved, is_passed, is_over, turns_at_end, save_at}

decided : (decide : ℕ → Option Kind) (n : ℕ) (kind : Kind) → decide n ≡ Some kind → (found : Kind) × (first_decided decide (suc n) ≡ Some found)
unfolding first_decided
decided decide n kind h = by (first_decided decide n) refl
  where
    by : (r : Option Kind) → first_decided decide n ≡ r → (found : Kind) × (elim (first_decided decide n) as (λ _. Option Kind) [ Some kind ↦ Some kind | None ↦ decide n ] ≡ Some found)
    by (Some found) e = (found, ap (λ r. elim r as (λ _. Option Kind) [ Some kind ↦ Some kind | None ↦ decide n ]) e)
    by None e = (kind, ap (λ r. elim r as (λ _. Option Kind) [ Some kind ↦ Some kind | None ↦ decide n ]) e ∙ h)

same_number : (n : ℕ) → (n == n) ≡ true
same_number n = search (rules, arith)

one_of : (a b c d : Bool) (w x y z : Kind) → c ≡ true → (found : Kind) × ((if a then Some w else (if b then Some x else (if c then Some y else (if d then Some z else None)))) ≡ Some found)
one_of true b c d w x y z h = (w, refl)
one_of false true c d w x y z h = (x, refl)
one_of false false true d w x y z h = (y, refl)
one_of false false false d w x y z h = cc

pub one_kind : {S : Type 0} (m : Machine S) → HasOneKind m
one_kind m stim limits budget =
    let t = turns_at_end m stim limits in
    let last = one_of (is_saved m stim limits budget t) (is_passed m stim limits t) (turns_at_end m stim limits == t) (is_over m stim limits budget t) (saved t (unwrap_or (save_at m stim limits t) Full)) (passed t) (ended t) (over t) (same_number t) in
    let found = decided (kind_at m stim limits budget) t last.0 last.1 in
    (found.0, ap (first_decided (kind_at m stim limits budget)) (let next : t + 1 ≡ suc t = omega arith in next) ∙ found.1)
