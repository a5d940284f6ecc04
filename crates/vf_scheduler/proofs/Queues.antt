-- The events of a state by their marks, and what each move of an event keeps.
use Rattle.std.proofs.Common.{◌≡◌, ℕ, ◌+◌, ◌^◌, ◌<◌, ◌≤◌, true, false, List, [], ◌∷◌, map, Option, Some, refl, sym, ◌∙◌, ap, ap₂, subst, arith, ⊎_elim, if◌then◌else◌}
use Rattle.std.proofs.lemmas.Bool.{cases_Bool}
use Rattle.std.specs.Prelude.{⊤}
use Rattle.vf_scheduler.specs.State.{Item, of_process}
use Rattle.vf_scheduler.specs.Sound.{same_item, times, names}
use Rattle.vf_scheduler.proofs.Marks.{same_item_is, same_turned, times_other, Others, Mark, mark_time, runs, own, Placed, placed_same}

-- times that rise, from a time on, and that a clock shows
abbrev pub Between : ℕ → List ℕ → Type 0
Between from [] = ⊤
Between from (at ∷ rest) = (from ≤ at) × (at < 2 ^ 64) × Between at rest

abbrev pub times_by : (Item → Mark) → List Item → List ℕ
times_by m list = map (λ x. mark_time (m x)) list

pub record IsQueue (m : Item → Mark) (time : ℕ) (running : Option ℕ) (a i n f t : List Item) : Type 0 where
  pub placed : (x : Item) → Placed (m x) (times x a) (times x i) (times x n) (times x f) (times x t)
  pub running_is : (p : ℕ) → runs (m (of_process p)) ≡ names running p
  pub timed : Between (time + 1) (times_by m f)
  pub early : time < 2 ^ 64

-- one event has another mark
pub record Changes (m m' : Item → Mark) (x : Item) (k : Mark) : Type 0 where
  pub here : m' x ≡ k
  pub others : (y : Item) → same_item y x ≡ false → m' y ≡ m y

-- ---- marks in a list

counted : (k : Mark) (a a' i i' n n' f f' t t' : ℕ) → a' ≡ a → i' ≡ i → n' ≡ n → f' ≡ f → t' ≡ t → Placed k a i n f t → Placed k a' i' n' f' t'
counted k a a' i i' n n' f f' t t' ea ei en ef et h = record {
  there = (λ j. own k (ea j) (ei j) (en j) (ef j) (et j)) ∙ h.there;
  alone = omega (arith, ea, ei, en, ef, et, h.alone);
}

module _ (m m' : Item → Mark) (x : Item) (k : Mark) (change : Changes m m' x k) where
  pub times_kept : (f : List Item) → times x f ≡ 0 → times_by m' f ≡ times_by m f
  times_kept [] h = refl
  times_kept (y ∷ rest) h =
      ⊎_elim
      (λ same. absurd (omega (arith, h, ap (λ b. (if b then 1 else 0) + times x rest) same)))
      (λ other. ap₂ (λ at list. at ∷ list) (ap mark_time (change.others y (same_turned y x ∙ other))) (times_kept rest (sym (times_other x y rest other) ∙ h)))
      (cases_Bool (same_item x y))

  pub placed_kept : {a a' i i' n n' f f' t t' : List Item} → Others x a a' → Others x i i' → Others x n n' → Others x f f' → Others x t t'
      → ((y : Item) → Placed (m y) (times y a) (times y i) (times y n) (times y f) (times y t))
      → Placed k (times x a') (times x i') (times x n') (times x f') (times x t')
      → (y : Item) → Placed (m' y) (times y a') (times y i') (times y n') (times y f') (times y t')
  placed_kept {a} {a'} {i} {i'} {n} {n'} {f} {f'} {t} {t'} oa oi on of' ot before now y =
      ⊎_elim
      (λ same.
      subst (λ z. Placed (m' z) (times z a') (times z i') (times z n') (times z f') (times z t')) (sym (same_item_is y x same))
      (placed_same k (m' x) _ _ _ _ _ change.here now))
      (λ other.
      placed_same (m y) (m' y) _ _ _ _ _ (change.others y other)
      (counted (m y) _ _ _ _ _ _ _ _ _ _ (oa.same y other) (oi.same y other) (on.same y other) (of'.same y other) (ot.same y other) (before y)))
      (cases_Bool (same_item y x))

  pub runs_kept : (running : Option ℕ) → runs k ≡ runs (m x) → ((p : ℕ) → runs (m (of_process p)) ≡ names running p)
      → (p : ℕ) → runs (m' (of_process p)) ≡ names running p
  runs_kept running e before p =
      ⊎_elim
      (λ same.
      let is = same_item_is (of_process p) x same in
      ap (λ z. runs (m' z)) is ∙ ap runs change.here ∙ e ∙ ap (λ z. runs (m z)) (sym is) ∙ before p)
      (λ other. ap runs (change.others (of_process p) other) ∙ before p)
      (cases_Bool (same_item (of_process p) x))

  -- the process begins to run
  pub runs_first : (p : ℕ) → x ≡ of_process p → runs k ≡ true → ((r : ℕ) → runs (m (of_process r)) ≡ false) → (r : ℕ) → runs (m' (of_process r)) ≡ names (Some p) r
  runs_first p is e before r =
      ⊎_elim
      (λ same. ap (λ z. runs (m' z)) (same_item_is (of_process r) x same) ∙ ap runs change.here ∙ e ∙ sym (turned ∙ same))
      (λ other. ap runs (change.others (of_process r) other) ∙ before r ∙ sym (turned ∙ other))
      (cases_Bool (same_item (of_process r) x))
    where
      turned : names (Some p) r ≡ same_item (of_process r) x
      turned = same_turned (of_process p) (of_process r) ∙ ap (same_item (of_process r)) (sym is)

  -- the process that runs runs no more
  pub runs_last : (p : ℕ) → x ≡ of_process p → runs k ≡ false → ((r : ℕ) → runs (m (of_process r)) ≡ names (Some p) r) → (r : ℕ) → runs (m' (of_process r)) ≡ false
  runs_last p is e before r =
      ⊎_elim
      (λ same. ap (λ z. runs (m' z)) (same_item_is (of_process r) x same) ∙ ap runs change.here ∙ e)
      (λ other. ap runs (change.others (of_process r) other) ∙ before r ∙ same_turned (of_process p) (of_process r) ∙ ap (same_item (of_process r)) (sym is) ∙ other)
      (cases_Bool (same_item (of_process r) x))
