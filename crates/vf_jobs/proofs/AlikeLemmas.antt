-- Two runs that are alike turn by turn.
use Rattle.std.proofs.Common.{◌≡◌, ℕ, zero, suc, ◌+◌, ◌<◌, ◌≤◌, Bool, true, false, ◌||◌, ◌&&◌, ◌==◌, List, ◌++◌, length, cond, nat_le, nat_lt, refl, sym, ◌∙◌, ap, ap₂, arith, ⊎_elim}
use Rattle.std.proofs.lemmas.Bool.{cases_lt, eq-eqb, false≢true}
use Rattle.vf_base.specs.declared.run.Limits.{Limits}
use Rattle.vf_machine.specs.Machine.{Machine, Move, go, stop}
use Rattle.vf_machine.specs.Run.{Moment, Turned, moment_at, text_at, turn_at, turn_of, mark_at, free_turn, performed, reads_next, sight_at, is_ending}
use Rattle.vf_machine.specs.Pages.{page_count, page_differs, is_touched, pages_touched}
use Rattle.vf_machine.specs.Solo.{turns_before_end}
use Rattle.vf_machine.proofs.CallerLemmas.{moment_at-zero, moment_at-suc, text_at-zero, text_at-suc, is_touched-zero, is_touched-suc, count_below-ext, performed-reads, run_ends_lem}
use Rattle.vf_jobs.specs.Kinds.{is_passed}

module _ {S : Type 0} (m : Machine S) (a b : List ℕ) (la lb : Limits) (n : ℕ)
    (alike : (j : ℕ) → j < n → moment_at m a la j ≡ moment_at m b lb j → turn_at m a la j ≡ turn_at m b lb j) where
  pub moments : (k : ℕ) → k ≤ n → moment_at m a la k ≡ moment_at m b lb k
  moments zero h = moment_at-zero m a la ∙ sym (moment_at-zero m b lb)
  moments (suc k) h =
      let here : turn_at m a la k ≡ turn_at m b lb k = alike k (omega (arith, h)) (moments k (omega (arith, h))) in
      moment_at-suc m a la k ∙ ap (λ (t : Turned S). t.after) here ∙ sym (moment_at-suc m b lb k)

  pub turns : (j : ℕ) → j < n → turn_at m a la j ≡ turn_at m b lb j
  turns j h = alike j h (moments j (omega (arith, h)))

  pub texts : (k : ℕ) → k ≤ n → text_at m a la k ≡ text_at m b lb k
  texts zero h = text_at-zero m a la ∙ sym (text_at-zero m b lb)
  texts (suc k) h =
      let here : turn_at m a la k ≡ turn_at m b lb k = turns k (omega (arith, h)) in
      text_at-suc m a la k ∙ ap₂ ◌++◌ (texts k (omega (arith, h))) (ap (λ (t : Turned S). t.text) here) ∙ sym (text_at-suc m b lb k)

  touched : (k page : ℕ) → k ≤ n → is_touched m a la k page ≡ is_touched m b lb k page
  touched zero page h = is_touched-zero m a la page ∙ sym (is_touched-zero m b lb page)
  touched (suc k) page h =
      let differs = ap₂ (λ (x y : Moment S). page_differs (m.words x.state) (m.words y.state) page) (moments k (omega (arith, h))) (moments (suc k) h) in
      is_touched-suc m a la k page ∙ ap₂ ◌||◌ (touched k page (omega (arith, h))) differs ∙ sym (is_touched-suc m b lb k page)

  pub pages : (k : ℕ) → k ≤ n → pages_touched m a la k ≡ pages_touched m b lb k
  pages k h = count_below-ext (is_touched m a la k) (is_touched m b lb k) (page_count (m.words m.start)) (λ page _. touched k page h)

-- ---- a turn under limits that tell the same

alike_by : {S : Type 0} (d ta tb oa ob : Bool) (x y z f g : Turned S) → (d ≡ false → ta ≡ tb) → (d ≡ false → ta ≡ false → oa ≡ ob) → f ≡ g
    → cond d x (cond ta y (cond oa z f)) ≡ cond d x (cond tb y (cond ob z g))
alike_by true ta tb oa ob x y z f g ht ho e = refl
alike_by false true tb oa ob x y z f g ht ho e = ap (λ t. cond t y (cond ob z g)) (ht refl)
alike_by false false tb oa ob x y z f g ht ho e = ap₂ (λ o t. cond o z t) (ho refl refl) e ∙ ap (λ t. cond t y (cond ob z g)) (ht refl)

pub same_limited : {S : Type 0} (m : Machine S) (a b : List ℕ) (la lb : Limits) (now : Moment S) → free_turn m a now ≡ free_turn m b now
    → (m.drained now.state ≡ false → nat_le la.turns now.header.turns ≡ nat_le lb.turns now.header.turns)
    → (m.drained now.state ≡ false → nat_le la.turns now.header.turns ≡ false
    → nat_lt la.output (free_turn m a now).after.header.written ≡ nat_lt lb.output (free_turn m a now).after.header.written)
    → turn_of m a la now ≡ turn_of m b lb now
same_limited {S} m a b la lb now e ht ho =
    alike_by (m.drained now.state) (nat_le la.turns now.header.turns) (nat_le lb.turns now.header.turns)
    (nat_lt la.output (free_turn m a now).after.header.written) (nat_lt lb.output (free_turn m b now).after.header.written) _ _ _ _ _ ht
    (λ d t. ho d t ∙ ap (λ (f : Turned S). nat_lt lb.output f.after.header.written) e) e

-- a turn that no limit keeps from being made counts itself
performed-turns : {S : Type 0} (m : Machine S) (stim : List ℕ) (now : Moment S) (move : Move S) → (performed m stim now move).after.header.turns ≡ now.header.turns + 1
performed-turns m stim now (go state text save) = refl
performed-turns m stim now (stop ending) = refl

counted_by : {S : Type 0} (d t o : Bool) (x y z p : Turned S) (n : ℕ) → d ≡ false → t ≡ false → z.after.header.turns ≡ n → p.after.header.turns ≡ n
    → (cond d x (cond t y (cond o z (cond d x p)))).after.header.turns ≡ n
counted_by true t o x y z p n hd ht hz hp = absurd (false≢true (sym hd))
counted_by false true o x y z p n hd ht hz hp = absurd (false≢true (sym ht))
counted_by false false true x y z p n hd ht hz hp = hz
counted_by false false false x y z p n hd ht hz hp = hp

pub turn_counted : {S : Type 0} (m : Machine S) (stim : List ℕ) (limits : Limits) (now : Moment S) → m.drained now.state ≡ false
    → nat_le limits.turns now.header.turns ≡ false → (turn_of m stim limits now).after.header.turns ≡ now.header.turns + 1
turn_counted m stim limits now hd ht =
    counted_by (m.drained now.state) (nat_le limits.turns now.header.turns) (nat_lt limits.output (free_turn m stim now).after.header.written)
    _ _ _ _ (now.header.turns + 1) hd ht refl (performed-turns m stim now (m.move (sight_at m stim now) now.state))

-- ---- reads up to the stimulus's end

room : (i n : ℕ) (r : Bool) → i ≤ n → ((i == n) && r) ≡ false → i + cond r 1 0 ≤ n
room i n false h e = omega (arith, h)
room i n true h e =
    ⊎_elim (λ lt. omega (arith, lt))
    (λ ge. absurd (false≢true (sym e ∙ ap (λ x. x && true) (let same : i ≡ n = omega (arith, h, ge) in eq-eqb i n same)))) (cases_lt i n)

within_by : {S : Type 0} (d t o : Bool) (x y z f : Turned S) (n : ℕ) → x.after.header.reads ≤ n → y.after.header.reads ≤ n → z.after.header.reads ≤ n → f.after.header.reads ≤ n
    → (cond d x (cond t y (cond o z f))).after.header.reads ≤ n
within_by true t o x y z f n hx hy hz hf = hx
within_by false true o x y z f n hx hy hz hf = hy
within_by false false true x y z f n hx hy hz hf = hz
within_by false false false x y z f n hx hy hz hf = hf

free_by : {S : Type 0} (d : Bool) (x p : Turned S) (n : ℕ) → x.after.header.reads ≤ n → p.after.header.reads ≤ n → (cond d x p).after.header.reads ≤ n
free_by true x p n hx hp = hx
free_by false x p n hx hp = hp

pub free_within : {S : Type 0} (m : Machine S) (stim : List ℕ) (now : Moment S) (n : ℕ) → now.header.reads ≤ n → ((now.header.reads == n) && reads_next m stim now) ≡ false
    → (free_turn m stim now).after.header.reads ≤ n
free_within m stim now n h e =
    let one = room now.header.reads n (reads_next m stim now) h e in
    let reads = performed-reads m stim now (m.move (sight_at m stim now) now.state) in
    free_by (m.drained now.state) _ _ n h (omega (arith, one, reads))

turn_within : {S : Type 0} (m : Machine S) (stim : List ℕ) (limits : Limits) (now : Moment S) (n : ℕ) → now.header.reads ≤ n → ((now.header.reads == n) && reads_next m stim now) ≡ false
    → (turn_of m stim limits now).after.header.reads ≤ n
turn_within m stim limits now n h e =
    within_by (m.drained now.state) (nat_le limits.turns now.header.turns) (nat_lt limits.output (free_turn m stim now).after.header.written)
    _ _ _ _ n h h h (free_within m stim now n h e)

-- where no turn would read past the stimulus, none has
pub reads_within : {S : Type 0} (m : Machine S) (stim : List ℕ) (limits : Limits) (k : ℕ) → ((j : ℕ) → j < k → is_passed m stim limits j ≡ false)
    → (moment_at m stim limits k).header.reads ≤ length stim
reads_within {S} m stim limits zero none = let e = ap (λ (now : Moment S). now.header.reads) (moment_at-zero m stim limits) in omega (arith, e)
reads_within {S} m stim limits (suc k) none =
    let before = reads_within m stim limits k (λ j h. none j (omega (arith, h))) in
    let e = ap (λ (now : Moment S). now.header.reads) (moment_at-suc m stim limits k) in
    let turn = turn_within m stim limits (moment_at m stim limits k) (length stim) before (none k (omega arith)) in
    omega (arith, e, turn)

-- where a run ends
pub ends_at : {S : Type 0} (m : Machine S) (stim : List ℕ) (limits : Limits) (k : ℕ) → ((j : ℕ) → j < k → is_ending (mark_at m stim limits j) ≡ false)
    → is_ending (mark_at m stim limits k) ≡ true → turns_before_end m stim limits ≡ k
ends_at m stim limits k none here =
    let ends = run_ends_lem m stim limits in
    let end = turns_before_end m stim limits in
    ⊎_elim (λ lt. absurd (false≢true (sym (none end lt) ∙ ends.ending)))
    (λ ge. ⊎_elim (λ lt. absurd (false≢true (sym (ends.first k lt) ∙ here))) (λ le. omega (arith, ge, le)) (cases_lt k end)) (cases_lt end k)

pub ends_after : {S : Type 0} (m : Machine S) (stim : List ℕ) (limits : Limits) (k : ℕ) → ((j : ℕ) → j < k → is_ending (mark_at m stim limits j) ≡ false)
    → k ≤ turns_before_end m stim limits
ends_after m stim limits k none =
    let ends = run_ends_lem m stim limits in
    let end = turns_before_end m stim limits in
    ⊎_elim (λ lt. absurd (false≢true (sym (none end lt) ∙ ends.ending))) (λ ge. ge) (cases_lt end k)

-- a turn that would write beyond the limit is an ending
cut_by : {S : Type 0} (d t o : Bool) (x y z p : Turned S) → o ≡ true → is_ending x.mark ≡ true → is_ending y.mark ≡ true → is_ending z.mark ≡ true
    → is_ending (cond d x (cond t y (cond o z (cond d x p)))).mark ≡ true
cut_by true t o x y z p e hx hy hz = hx
cut_by false true o x y z p e hx hy hz = hy
cut_by false false true x y z p e hx hy hz = hz
cut_by false false false x y z p e hx hy hz = absurd (false≢true e)

pub cut_ends : {S : Type 0} (m : Machine S) (stim : List ℕ) (limits : Limits) (now : Moment S) → nat_lt limits.output (free_turn m stim now).after.header.written ≡ true
    → is_ending (turn_of m stim limits now).mark ≡ true
cut_ends m stim limits now e =
    cut_by (m.drained now.state) (nat_le limits.turns now.header.turns) (nat_lt limits.output (free_turn m stim now).after.header.written)
    _ _ _ (performed m stim now (m.move (sight_at m stim now) now.state)) e refl refl refl
