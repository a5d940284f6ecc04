-- The prefix law.
use Rattle.std.proofs.Common.{◌≡◌, ℕ, zero, suc, ◌+◌, ◌<◌, ◌≤◌, Bool, true, false, List, [], ◌∷◌, ◌++◌, length, take, None, cond, refl, sym, ◌∙◌, ap, ap₂, arith, ⊎_elim, nat_lt, slice_get}
use Rattle.std.proofs.lemmas.Bool.{le-ltb, cases_lt}
use Rattle.vf_base.specs.declared.run.Limits.{Limits}
use Rattle.vf_machine.specs.declared.mark.Mark.TheVariants.{Ended}
use Rattle.vf_machine.specs.Machine.{Machine, Move, go, stop}
use Rattle.vf_machine.specs.Run.{Moment, Turned, moment_at, turn_at, free_turn, performed, counted, reads_next, sight_at, saved_mark, mark_at, is_limit}
use Rattle.vf_machine.specs.Laws.{PrefixLaw}
use Rattle.vf_machine.proofs.Runs.{moment_at-zero, moment_at-suc, text_at-zero, text_at-suc, unlimited, performed-reads, reads_grow, same_past, same_read}

-- what lies below n is the same where the first n are
slice_get-take : (a : List ℕ) (n i : ℕ) → i < n → slice_get (take n a) i ≡ slice_get a i
slice_get-take [] zero i h = refl
slice_get-take [] (suc n) i h = refl
slice_get-take (x ∷ xs) zero i h = absurd (omega arith)
slice_get-take (x ∷ xs) (suc n) zero h = refl
slice_get-take (x ∷ xs) (suc n) (suc i) h = slice_get-take xs n i (omega arith)

same_below : (a b : List ℕ) (n i : ℕ) → take n a ≡ take n b → i < n → slice_get a i ≡ slice_get b i
same_below a b n i e h = sym (slice_get-take a n i h) ∙ ap (λ s. slice_get s i) e ∙ slice_get-take b n i h

same_byte : (r : Bool) (a b : List ℕ) (n i : ℕ) → take n a ≡ take n b → i + cond r 1 0 ≤ n
    → cond r (slice_get a i) None ≡ cond r (slice_get b i) None
same_byte true a b n i e h = same_below a b n i e (omega arith)
same_byte false a b n i e h = refl

same_sight : {S : Type 0} (m : Machine S) (a b : List ℕ) (now : Moment S) (n : ℕ) → n ≤ length a → n ≤ length b → take n a ≡ take n b
    → now.header.reads + cond (reads_next m a now) 1 0 ≤ n → sight_at m a now ≡ sight_at m b now
same_sight m a b now n la lb e h =
    let past = same_past a b now (omega arith) (omega arith) in
    let byte =
    same_byte (reads_next m a now) a b n now.header.reads e h
    ∙ ap (λ r. cond (m.at_read r now.state) (slice_get b now.header.reads) None) past in
    λ i. record { byte = byte i; past_end = past i }

same_performed : {S : Type 0} (m : Machine S) (a b : List ℕ) (now : Moment S) (move : Move S) → reads_next m a now ≡ reads_next m b now → performed m a now move ≡ performed m b now move
same_performed m a b now (go state text save) same =
    ap (λ r. record { after = record { state = state; header = counted now r (length text) }; text = text; mark = saved_mark save }) same
same_performed m a b now (stop ending) same = ap (λ r. record { after = record { state = now.state; header = counted now r 0 }; text = []; mark = Ended ending }) same

same_free_by : {S : Type 0} (d : Bool) (x p q : Turned S) (n : ℕ) → (cond d x p).after.header.reads ≤ n
    → (p.after.header.reads ≤ n → p ≡ q) → cond d x p ≡ cond d x q
same_free_by true x p q n h f = refl
same_free_by false x p q n h f = f h

-- a turn without limits that reads no further than both stimuli agree
pub same_free : {S : Type 0} (m : Machine S) (a b : List ℕ) (now : Moment S) (n : ℕ) → n ≤ length a → n ≤ length b → take n a ≡ take n b
    → (free_turn m a now).after.header.reads ≤ n → free_turn m a now ≡ free_turn m b now
same_free m a b now n la lb e h =
    same_free_by (m.drained now.state) _ _ _ n h
    (λ after.
    let reads = performed-reads m a now (m.move (sight_at m a now) now.state) in
    ap (λ sight. performed m a now (m.move sight now.state)) (same_sight m a b now n la lb e (omega (arith, after, reads)))
    ∙ same_performed m a b now (m.move (sight_at m b now) now.state) (same_read m a b now (omega (arith, after, reads, la)) (omega (arith, after, reads, lb))))

-- a turn after moments that are the same
same_turn : {S : Type 0} (m : Machine S) (a b : List ℕ) (la lb : Limits) (n k : ℕ) → n ≤ length a → n ≤ length b → take n a ≡ take n b
    → is_limit (mark_at m a la k) ≡ false → is_limit (mark_at m b lb k) ≡ false → (turn_at m a la k).after.header.reads ≤ n
    → moment_at m a la k ≡ moment_at m b lb k → turn_at m a la k ≡ turn_at m b lb k
same_turn m a b la lb n k ha hb e fa fb h same =
    let free_a = unlimited m a la (moment_at m a la k) fa in
    let free_b = unlimited m b lb (moment_at m b lb k) fb in
    let within : (free_turn m a (moment_at m a la k)).after.header.reads ≤ n = rw free_a at h in
    free_a ∙ same_free m a b (moment_at m a la k) n ha hb e within ∙ ap (free_turn m b) same ∙ sym free_b

-- the part of two runs that is the same grows turn by turn
pub prefix : {S : Type 0} (m : Machine S) → PrefixLaw m
prefix m a b la lb n zero ha hb e fa fb h = record {
  moment = moment_at-zero m a la ∙ sym (moment_at-zero m b lb);
  text = text_at-zero m a la ∙ sym (text_at-zero m b lb);
  marks = λ j below. absurd (omega arith);
}
prefix m a b la lb n (suc k) ha hb e fa fb h =
    let after : (turn_at m a la k).after.header.reads ≤ n = rw (moment_at-suc m a la k) at h in
    let before : (moment_at m a la k).header.reads ≤ n = omega (arith, reads_grow m a la (moment_at m a la k)) in
    let earlier = prefix m a b la lb n k ha hb e (λ j below. fa j (omega arith)) (λ j below. fb j (omega arith)) before in
    let turn = same_turn m a b la lb n k ha hb e (fa k (omega arith)) (fb k (omega arith)) after earlier.moment in
    record {
      moment = moment_at-suc m a la k ∙ ap (λ t. t.after) turn ∙ sym (moment_at-suc m b lb k);
      text = text_at-suc m a la k ∙ ap₂ ◌++◌ earlier.text (ap (λ t. t.text) turn) ∙ sym (text_at-suc m b lb k);
      marks = λ j below. ⊎_elim
          (λ lt. earlier.marks j lt)
          (λ ge. let same : j ≡ k = omega arith in ap (mark_at m a la) same ∙ ap (λ t. t.mark) turn ∙ ap (mark_at m b lb) (sym same))
          (cases_lt j k);
    }
