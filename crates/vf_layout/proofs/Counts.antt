-- Events of which none stands twice have numbers of which none stands twice.
use Rattle.std.proofs.Common.{◌≡◌, ℕ, ◌+◌, ◌-◌, ◌<◌, ◌≤◌, List, [], ◌∷◌, ◌++◌, length, map, refl, sym, ◌∙◌, ap, ap₂, arith, ⊎_elim, ◌==◌, if◌then◌else◌, nat_lt}
use Rattle.std.proofs.lemmas.Bool.{eq-eqb, ne_eqb, cases_eq, cases_lt, lt-ltb, le-ltb}
use Rattle.std.specs.Prelude.{⊤}
use Rattle.vf_elaborated.specs.Elaborated.{Elaborated}
use Rattle.vf_scheduler.specs.State.{State, Item, of_process, of_slot}
use Rattle.vf_scheduler.specs.Sound.{same_item, times, events}
use Rattle.vf_scheduler.specs.Words.{item_number, numbers}
use Rattle.vf_scheduler.proofs.CallerLemmas.{times-append, times_here}
use Rattle.vf_layout.specs.Regions.{HasLink, number, IsQueued}
use Rattle.vf_layout.proofs.Chained.{count_in, total}

-- the event with a number
abbrev pub item_at : ℕ → ℕ → Item
item_at count n = if nat_lt n count then of_process n else of_slot (n - count)

-- a process of so many, or a slot
abbrev Numbered : ℕ → Item → Type 0
Numbered count (of_process p) = p < count
Numbered count (of_slot q) = ⊤

same_test : (a b c e : ℕ) → (a ≡ b → c ≡ e) → (c ≡ e → a ≡ b) → (a == b) ≡ (c == e)
same_test a b c e f g = ⊎_elim (λ same. eq-eqb a b same ∙ sym (eq-eqb c e (f same))) (λ other. ne_eqb a b other ∙ sym (ne_eqb c e (λ same. other (g same)))) (cases_eq a b)

is_at : (count n : ℕ) (item : Item) → Numbered count item → (item_number count item == n) ≡ same_item (item_at count n) item
is_at count n (of_process p) below =
    ⊎_elim
    (λ low. same_test p n n p (λ e. sym e) (λ e. sym e) ∙ ap (λ b. same_item (if b then of_process n else of_slot (n - count)) (of_process p)) (sym (lt-ltb n count low)))
    (λ high. ne_eqb p n (λ e. omega (arith, e, high, below)) ∙ ap (λ b. same_item (if b then of_process n else of_slot (n - count)) (of_process p)) (sym (le-ltb n count high)))
    (cases_lt n count)
is_at count n (of_slot q) below =
    ⊎_elim
    (λ low. ne_eqb (count + q) n (λ e. omega (arith, e, low)) ∙ ap (λ b. same_item (if b then of_process n else of_slot (n - count)) (of_slot q)) (sym (lt-ltb n count low)))
    (λ high. same_test (count + q) n (n - count) q (λ e. omega (arith, e)) (λ e. omega (arith, e, high))
    ∙ ap (λ b. same_item (if b then of_process n else of_slot (n - count)) (of_slot q)) (sym (le-ltb n count high)))
    (cases_lt n count)

counted : (count n : ℕ) (list : List Item) → ((item : Item) → 1 ≤ times item list → Numbered count item)
    → count_in n (map (item_number count) list) ≡ times (item_at count n) list
counted count n [] all = refl
counted count n (item ∷ rest) all =
    ap₂ (λ b c. (if b then 1 else 0) + c) (is_at count n item (all item (omega (arith, times_here item rest))))
    (counted count n rest (λ other stands. all other (omega (arith, stands))))

module _ (d : Elaborated) (s : State) (queued : IsQueued d s) where
  abbrev pub lists : List (List ℕ)
  lists =
      numbers d s s.active ∷ numbers d s s.inactive ∷ numbers d s s.nonblocking ∷ numbers d s s.future ∷ numbers d s s.strobes ∷ []

  pub parts : (item : Item)
      → times item (events s) ≡ times item s.inactive + (times item s.nonblocking + (times item s.future + (times item s.strobes + times item s.active)))
  parts item =
      omega (
        arith,
        times-append item s.inactive (s.nonblocking ++ (s.future ++ (s.strobes ++ s.active))),
        times-append item s.nonblocking (s.future ++ (s.strobes ++ s.active)),
        times-append item s.future (s.strobes ++ s.active),
        times-append item s.strobes s.active,
      )

  numbered : (item : Item) → 1 ≤ times item (events s) → Numbered (length d.processes) item
  numbered item stands = by item (queued.linked item stands)
    where
      by : (item : Item) → HasLink d s item → Numbered (length d.processes) item
      by (of_process p) has = has
      by (of_slot q) has = tt

  pub total_is : (n : ℕ) → total n lists ≡ times (item_at (length d.processes) n) (events s)
  total_is n =
      let count = length d.processes in
      let whole = parts (item_at count n) in
      omega (
        arith,
        whole,
        counted count n s.active (λ item h. let all = parts item in numbered item (omega (arith, all, h))),
        counted count n s.inactive (λ item h. let all = parts item in numbered item (omega (arith, all, h))),
        counted count n s.nonblocking (λ item h. let all = parts item in numbered item (omega (arith, all, h))),
        counted count n s.future (λ item h. let all = parts item in numbered item (omega (arith, all, h))),
        counted count n s.strobes (λ item h. let all = parts item in numbered item (omega (arith, all, h))),
      )

  pub at_most_once : (n : ℕ) → total n lists ≤ 1
  at_most_once n = let all = total_is n in let most = queued.once (item_at (length d.processes) n) in omega (arith, all, most)

-- a slot is the one with its number, and so is an event that has a link
pub slot_again : (d : Elaborated) (q : ℕ) → item_at (length d.processes) (length d.processes + q) ≡ of_slot q
slot_again d q =
    let n = length d.processes + q in
    let back : n - length d.processes ≡ q = omega arith in
    ap (λ b. if b then of_process n else of_slot (n - length d.processes)) (le-ltb n (length d.processes) (omega arith)) ∙ ap of_slot back

pub item_again : (d : Elaborated) (s : State) (item : Item) → HasLink d s item → item_at (length d.processes) (number d item) ≡ item
item_again d s (of_process p) has = ap (λ b. if b then of_process p else of_slot (p - length d.processes)) (lt-ltb p (length d.processes) has)
item_again d s (of_slot q) has = slot_again d q
