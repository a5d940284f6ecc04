-- What becomes of a solo run, from the turn at which it stops.
use Rattle.std.proofs.Common.{◌≡◌, ℕ, zero, suc, ◌+◌, ◌-◌, ◌<◌, ◌≤◌, Bool, true, false, cond, List, Some, None, nat_lt, refl, sym, ◌∙◌, ap, ap₂, arith, ⊎_elim}
use Rattle.std.proofs.lemmas.Bool.{false≢true, cases_lt}
use Rattle.vf_base.specs.declared.run.Limits.{Limits}
use Rattle.vf_base.specs.declared.run.Outcome.TheVariants.{Done, Pages}
use Rattle.vf_machine.specs.Machine.{Machine}
use Rattle.vf_machine.specs.Search.{first, count_below}
use Rattle.vf_machine.specs.Run.{mark_at, turn_at, text_at, is_ending}
use Rattle.vf_machine.specs.Pages.{pages_touched}
use Rattle.vf_machine.specs.Solo.{solo, solo_turns, outcome_at, performed_at, passing_turn, turns_before_end, ending_of}
use Rattle.vf_machine.proofs.Searches.{NoneBelow, IsFirst, first_is, first_none}
use Rattle.vf_machine.proofs.Ends.{first_ending}

-- the number of one that passes, with none before it, is the first that passes
first_unique : (p : ℕ → Bool) (n t k : ℕ) → IsFirst p n t → NoneBelow p k → p k ≡ true → t ≡ k
first_unique p n t k found none here =
    ⊎_elim (λ lt. absurd (false≢true (sym (none t lt) ∙ found.passes)))
    (λ ge. ⊎_elim (λ lt. absurd (false≢true (sym (found.least k lt) ∙ here))) (λ le. omega arith) (cases_lt k t))
    (cases_lt t k)

-- what does not pass up to a number comes before the first that does
first_after : (p : ℕ → Bool) (n t k : ℕ) → IsFirst p n t → NoneBelow p k → k ≤ t
first_after p n t k found none =
    ⊎_elim (λ lt. absurd (false≢true (sym (none t lt) ∙ found.passes))) (λ ge. ge) (cases_lt t k)

pub end_is : {S : Type 0} (m : Machine S) (stim : List ℕ) (limits : Limits) (k : ℕ) → NoneBelow (λ j. is_ending (mark_at m stim limits j)) k
    → is_ending (mark_at m stim limits k) ≡ true → turns_before_end m stim limits ≡ k
end_is m stim limits k none here =
    first_unique (λ j. is_ending (mark_at m stim limits j)) (limits.turns + 1) (turns_before_end m stim limits) k (first_ending m stim limits) none here

-- no turn up to the k-th passes the budget
abbrev pub KeepsWithin : {S : Type 0} → Machine S → List ℕ → Limits → ℕ → ℕ → Type 0
KeepsWithin m stim limits budget k = (j : ℕ) → j < k + 1 → nat_lt budget (pages_touched m stim limits j) ≡ false

-- a run that ends within its budget
pub record Ended {S : Type 0} (m : Machine S) (stim : List ℕ) (limits : Limits) (budget k : ℕ) : Type 0 where
  pub outcome : solo m stim limits budget ≡ Done (ending_of (mark_at m stim limits k)) (text_at m stim limits k) (turn_at m stim limits k).after.header.turns
  pub turns : solo_turns m stim limits budget ≡ (turn_at m stim limits k).after.header.turns

pub solo_ended : {S : Type 0} (m : Machine S) (stim : List ℕ) (limits : Limits) (budget k : ℕ) → NoneBelow (λ j. is_ending (mark_at m stim limits j)) k
    → is_ending (mark_at m stim limits k) ≡ true → KeepsWithin m stim limits budget k → Ended m stim limits budget k
solo_ended m stim limits budget k none here within =
    let end = end_is m stim limits k none here in
    let passing : passing_turn m stim limits budget ≡ None =
    ap (λ n. first (λ j. nat_lt budget (pages_touched m stim limits j)) (n + 1)) end ∙ first_none (λ j. nat_lt budget (pages_touched m stim limits j)) (k + 1) within in
    record { outcome = ap₂ (outcome_at m stim limits) passing end; turns = ap₂ (performed_at m stim limits) passing end }

-- a run whose next turn passes its budget
pub record Passed {S : Type 0} (m : Machine S) (stim : List ℕ) (limits : Limits) (budget k : ℕ) : Type 0 where
  pub outcome : solo m stim limits budget ≡ Pages (pages_touched m stim limits (suc k))
  pub turns : solo_turns m stim limits budget ≡ k

pub solo_passed : {S : Type 0} (m : Machine S) (stim : List ℕ) (limits : Limits) (budget k : ℕ) → NoneBelow (λ j. is_ending (mark_at m stim limits j)) (suc k)
    → KeepsWithin m stim limits budget k → nat_lt budget (pages_touched m stim limits (suc k)) ≡ true → Passed m stim limits budget k
solo_passed m stim limits budget k none within passes =
    let end = turns_before_end m stim limits in
    let after : suc k ≤ end = first_after (λ j. is_ending (mark_at m stim limits j)) (limits.turns + 1) end (suc k) (first_ending m stim limits) none in
    let passing : passing_turn m stim limits budget ≡ Some (suc k) =
    first_is (λ j. nat_lt budget (pages_touched m stim limits j)) (end + 1) (suc k) (record { below = omega arith; passes = passes; least = λ j below. within j (omega arith) }) in
    record {
      outcome = ap (λ o. outcome_at m stim limits o end) passing;
      turns = ap (λ o. performed_at m stim limits o end) passing ∙ (let e : suc k - 1 ≡ k = omega arith in e);
    }

abbrev one_if : Bool → ℕ
one_if b = cond b 1 0

-- counts of numbers that pass
pub count_below-ext : (p q : ℕ → Bool) (n : ℕ) → ((i : ℕ) → i < n → p i ≡ q i) → count_below p n ≡ count_below q n
unfolding count_below
count_below-ext p q zero same = refl
count_below-ext p q (suc n) same =
    ap₂ ◌+◌ (count_below-ext p q n (λ i below. same i (omega arith))) (ap (λ b. cond b 1 0) (same n (omega arith)))

one_more : (b : Bool) (c n : ℕ) → c ≤ n → c + cond b 1 0 ≤ suc n
one_more true c n h = omega arith
one_more false c n h = omega arith

pub count_below-le : (p : ℕ → Bool) (n : ℕ) → count_below p n ≤ n
unfolding count_below
count_below-le p zero = omega arith
count_below-le p (suc n) = one_more (p n) (count_below p n) n (count_below-le p n)

-- more numbers pass a test that is easier
one_if-mono : (a b : Bool) → (a ≡ true → b ≡ true) → one_if a ≤ one_if b
one_if-mono false b h = omega arith
one_if-mono true b h = let e : one_if b ≡ 1 = ap one_if (h refl) in omega (arith, e)

pub count_below-mono : (p q : ℕ → Bool) (n : ℕ) → ((i : ℕ) → p i ≡ true → q i ≡ true) → count_below p n ≤ count_below q n
unfolding count_below
count_below-mono p q zero easier = omega arith
count_below-mono p q (suc n) easier = omega (arith, count_below-mono p q n easier, one_if-mono (p n) (q n) (easier n))

-- one number more that passes
pub count_below-more : (p q : ℕ → Bool) (n i : ℕ) → i < n → p i ≡ false → q i ≡ true → ((j : ℕ) → (j ≡ i → ⊥) → p j ≡ q j) → count_below q n ≡ count_below p n + 1
unfolding count_below
count_below-more p q zero i below off on same = absurd (omega arith)
count_below-more p q (suc n) i below off on same =
    ⊎_elim
    (λ lt.
    let before = count_below-more p q n i lt off on same in
    let last : one_if (p n) ≡ one_if (q n) = ap one_if (same n (λ e. omega arith)) in
    omega (arith, before, last))
    (λ ge.
    let here : i ≡ n = omega arith in
    let before = count_below-ext p q n (λ j lt. same j (λ e. omega arith)) in
    let off_n : one_if (p n) ≡ 0 = ap one_if (ap p (sym here) ∙ off) in
    let on_n : one_if (q n) ≡ 1 = ap one_if (ap q (sym here) ∙ on) in
    omega (arith, before, off_n, on_n))
    (cases_lt i n)
