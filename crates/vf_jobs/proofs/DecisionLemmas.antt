-- What is decided first.
use Rattle.std.proofs.Common.{◌≡◌, ℕ, zero, suc, ◌+◌, ◌<◌, ◌==◌, nat_le, Bool, true, false, List, Option, Some, None, unwrap_or, refl, sym, ◌∙◌, ap, arith, ⊎_elim, if◌then◌else◌}
use Rattle.std.proofs.lemmas.Bool.{false≢true, cases_lt, eqb-true, and_parts}
use Rattle.vf_base.specs.declared.run.Limits.{Limits}
use Rattle.vf_base.specs.declared.run.SaveKind.{SaveKind}
use Rattle.vf_base.specs.declared.run.SaveKind.TheVariants.{Full}
use Rattle.vf_machine.specs.Machine.{Machine}
use Rattle.vf_machine.specs.Pages.{pages_touched}
use Rattle.vf_jobs.specs.Kinds.{Kind, saved, passed, ended, over, first_decided, save_at, savepoint, turns_at_end, is_at, is_saved, is_passed, is_over, kind_at, kind_of}

abbrev or_this : Option Kind → Option Kind → Option Kind
or_this found here = elim found [ Some kind ↦ Some kind | None ↦ here ]

undecided : (decide : ℕ → Option Kind) (n : ℕ) → ((j : ℕ) → j < n → decide j ≡ None) → first_decided decide n ≡ None
unfolding first_decided
undecided decide zero none = refl
undecided decide (suc n) none =
    ap (λ r. or_this r (decide n)) (undecided decide n (λ j h. none j (omega (arith, h)))) ∙ none n (omega arith)

-- the first that is decided is found
pub decides : (decide : ℕ → Option Kind) (n i : ℕ) (kind : Kind) → i < n → ((j : ℕ) → j < i → decide j ≡ None) → decide i ≡ Some kind → first_decided decide n ≡ Some kind
unfolding first_decided
decides decide zero i kind h none here = absurd (omega (arith, h))
decides decide (suc n) i kind h none here =
    ⊎_elim
    (λ lt. ap (λ r. or_this r (decide n)) (decides decide n i kind lt none here))
    (λ ge.
    let same : n ≡ i = omega (arith, h, ge) in
    ap (λ r. or_this r (decide n)) (undecided decide n (λ j less. none j (omega (arith, less, same)))) ∙ ap decide same ∙ here)
    (cases_lt i n)

-- and what is found was decided there, and nothing before
pub record Decided (decide : ℕ → Option Kind) (n : ℕ) (kind : Kind) : Type 0 where
  pub at : ℕ
  pub below : at < n
  pub none : (j : ℕ) → j < at → decide j ≡ None
  pub here : decide at ≡ Some kind

none_before : (decide : ℕ → Option Kind) (n : ℕ) → first_decided decide n ≡ None → (j : ℕ) → j < n → decide j ≡ None
unfolding first_decided
none_before decide zero e j h = absurd (omega (arith, h))
none_before decide (suc n) e j h = by (first_decided decide n) refl (λ f less. none_before decide n f j less)
  where
    by : (r : Option Kind) → first_decided decide n ≡ r → (first_decided decide n ≡ None → j < n → decide j ≡ None) → decide j ≡ None
    by None f rest =
        ⊎_elim (λ lt. rest f lt)
        (λ ge. let same : j ≡ n = omega (arith, h, ge) in ap decide same ∙ sym (ap (λ r. or_this r (decide n)) f) ∙ e) (cases_lt j n)
    by (Some kind) f rest = let wrong : Some kind ≡ None = sym (ap (λ r. or_this r (decide n)) f) ∙ e in cc

pub decided_by : (decide : ℕ → Option Kind) (n : ℕ) (kind : Kind) → first_decided decide n ≡ Some kind → Decided decide n kind
unfolding first_decided
decided_by decide zero kind e = cc
decided_by decide (suc n) kind e = by (first_decided decide n) refl (λ f. decided_by decide n kind f)
  where
    by : (r : Option Kind) → first_decided decide n ≡ r → (first_decided decide n ≡ Some kind → Decided decide n kind) → Decided decide (suc n) kind
    by (Some found) f rest =
        let before = rest (f ∙ sym (ap (λ r. or_this r (decide n)) f) ∙ e) in
        record { at = before.at; below = omega (arith, before.below); none = before.none; here = before.here }
    by None f rest = record { at = n; below = omega arith; none = none_before decide n f; here = sym (ap (λ r. or_this r (decide n)) f) ∙ e }

-- ---- which of the four tests decides

module _ (i t : ℕ) (kind : SaveKind) where
  abbrev pub pick : Bool → Bool → Bool → Bool → Option Kind
  pick a b c d = if a then Some (saved i kind) else (if b then Some (passed i) else (if c then Some (ended i) else (if d then Some (over i) else None)))

  pub no_test : (a b c d : Bool) → pick a b c d ≡ None → (a ≡ false) × (b ≡ false) × (c ≡ false) × (d ≡ false)
  no_test true b c d h = cc
  no_test false true c d h = cc
  no_test false false true d h = cc
  no_test false false false true h = cc
  no_test false false false false h = (refl, refl, refl, refl)

  pub first_test : (last : SaveKind) (a b c d : Bool) → pick a b c d ≡ Some (saved t last) → (a ≡ true) × (i ≡ t)
  first_test last true b c d h = (refl, cc)
  first_test last false true c d h = cc
  first_test last false false true d h = cc
  first_test last false false false true h = cc
  first_test last false false false false h = cc

  pub third_test : (a b c d : Bool) → pick a b c d ≡ Some (ended t) → (a ≡ false) × (b ≡ false) × (c ≡ true) × (i ≡ t)
  third_test true b c d h = cc
  third_test false true c d h = cc
  third_test false false true d h = (refl, refl, refl, cc)
  third_test false false false true h = cc
  third_test false false false false h = cc

  pub fourth_test : (a b c d : Bool) → pick a b c d ≡ Some (over t) → (a ≡ false) × (b ≡ false) × (c ≡ false) × (d ≡ true) × (i ≡ t)
  fourth_test true b c d h = cc
  fourth_test false true c d h = cc
  fourth_test false false true d h = cc
  fourth_test false false false true h = (refl, refl, refl, refl, cc)
  fourth_test false false false false h = cc

  pub by_none : (a b c d : Bool) → a ≡ false → b ≡ false → c ≡ false → d ≡ false → pick a b c d ≡ None
  by_none a b c d ea eb ec ed = λ x. pick (ea x) (eb x) (ec x) (ed x)

  pub by_third : (a b c d : Bool) → a ≡ false → b ≡ false → c ≡ true → pick a b c d ≡ Some (ended i)
  by_third a b c d ea eb ec = λ x. pick (ea x) (eb x) (ec x) d

  pub by_fourth : (a b c d : Bool) → a ≡ false → b ≡ false → c ≡ false → d ≡ true → pick a b c d ≡ Some (over i)
  by_fourth a b c d ea eb ec ed = λ x. pick (ea x) (eb x) (ec x) (ed x)

-- ---- a node that is saved

at_is : (t : ℕ) (found : Option ℕ) → is_at t found ≡ true → found ≡ Some t
at_is t None h = absurd (false≢true h)
at_is t (Some s) h = ap Some (eqb-true s t h)

-- a kind that is Saved tells the save point
pub saved_is : {S : Type 0} (m : Machine S) (stim : List ℕ) (limits : Limits) (budget t : ℕ) (save : SaveKind)
    → kind_of m stim limits budget ≡ Some (saved t save) → savepoint m stim limits ≡ Some t
saved_is m stim limits budget t save e =
    let found = decided_by (kind_at m stim limits budget) (turns_at_end m stim limits + 1) (saved t save) e in
    let i = found.at in
    let test = first_test i t (unwrap_or (save_at m stim limits i) Full) save (is_saved m stim limits budget i) (is_passed m stim limits i) (turns_at_end m stim limits == i) (is_over m stim limits budget i) found.here in
    at_is i (savepoint m stim limits) (and_parts (is_at i (savepoint m stim limits)) (nat_le (pages_touched m stim limits i) budget) test.0).0 ∙ ap Some test.1
