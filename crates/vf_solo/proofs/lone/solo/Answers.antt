use Rattle.std.proofs.Common.{◌≡◌, ℕ, suc, ◌+◌, ◌*◌, ◌/◌, Bool, true, false, List, ◌++◌, length, replicate, nat_lt, vec_len, refl, sym, ◌∙◌, ap, subst, arith}
use Rattle.std.proofs.lemmas.Bool.{le-ltb, lt-ltb}
use Rattle.vf_base.specs.declared.run.Outcome.TheVariants.{Done, Pages}
use Rattle.vf_machine.specs.Run.{moment_at, mark_at, is_ending}
use Rattle.vf_machine.specs.Writes.{written}
use Rattle.vf_machine.specs.Solo.{ending_of}
use Rattle.vf_machine.specs.Pages.{pages_touched}
use Rattle.vf_machine.proofs.CallerLemmas.{all_inside, none_below_more, counts_once, before_limit, solo_ended, solo_passed}
use Rattle.vf_design.specs.Step.{start}
use Rattle.vf_design.specs.Words.{machine_of}
use Rattle.vf_solo.specs.Flags.{flags_set, marked}
use Rattle.vf_design.proofs.CallerLemmas.{start_sound}
use Rattle.vf_solo.proofs.Progress.{IsRunning, all_pages, running_at_zero, next_turn, next_flags, advance, length-words, not_ended}
use Rattle.vf_solo.proofs.lone.solo.Goals as goal
use Rattle.vf_solo.proofs.lone.solo.Goals.{then-next-header, else-next-header}

pub turns-init : goal.turns-init
turns-init g c = record {
  running =
      let p = c.args.design.now in
      let zero = start_sound p c.word_count.ensures.formed in
      let whole : c.word_count.result / 64 ≡ (c.word_count.result + 63) / 64 = omega (arith, c.word_count.ensures.pages) in
      let count : c.word_count.result / 64 ≡ all_pages p = whole ∙ ap (λ n. (n + 63) / 64) (sym (c.word_count.ensures.words start zero)) in
      subst (λ (text : List ℕ). IsRunning p c.args.stim.now c.args.limits.now c.args.budget c.in_ok-words_at_zero.field-0.items c.in_ok-touched.touched (record { turns = 0; reads = 0; written = 0 }) text 0)
      (sym (c.new-text.ensures ∙ c.new-2.ensures.items))
      (running_at_zero p c.args.stim.now c.args.limits.now c.args.budget c.in_ok-words_at_zero.field-0.items c.in_ok-touched.touched c.word_count.ensures.formed
      c.in_ok-words_at_zero.ensures.words (c.in_ok-touched.ensures ∙ ap (λ n. replicate n false) count));
  past = sym (le-ltb (length c.args.stim.now) 0 (omega arith));
  most = omega arith;
  parts = refl;
  count = omega arith;
}

pub returns-in-Ended-clause-outcome : goal.returns-in-Ended-clause-outcome
returns-in-Ended-clause-outcome g c =
    let run = c.turns.invariant.running in
    let k = c.turns.header.turns in
    let m = machine_of c.args.design.now in
    let turn = next_turn c.args.design.now c.args.stim.now c.args.limits.now c.args.budget c.turns.flat.words.items c.turns.touched c.turns.header c.turns.text k c.turn.new.into run
    (c.in_ok-turn.ensures (moment_at m c.args.stim.now c.args.limits.now k).state run.sound run.words_are) in
    let mark = sym turn.mark ∙ c.in-Ended.is in
    let done = solo_ended m c.args.stim.now c.args.limits.now c.args.budget k run.goes_on (ap is_ending mark) run.within in
    sym (done.outcome ∙ (λ i. Done (ending_of (mark i)) (sym run.text_is i) (sym turn.header_is i).turns))

pub returns-in-Ended-clause-steps : goal.returns-in-Ended-clause-steps
returns-in-Ended-clause-steps g c =
    let run = c.turns.invariant.running in
    let k = c.turns.header.turns in
    let m = machine_of c.args.design.now in
    let now = moment_at m c.args.stim.now c.args.limits.now k in
    let turn = next_turn c.args.design.now c.args.stim.now c.args.limits.now c.args.budget c.turns.flat.words.items c.turns.touched c.turns.header c.turns.text k c.turn.new.into run
    (c.in_ok-turn.ensures now.state run.sound run.words_are) in
    let mark = sym turn.mark ∙ c.in-Ended.is in
    let done = solo_ended m c.args.stim.now c.args.limits.now c.args.budget k run.goes_on (ap is_ending mark) run.within in
    let once = counts_once m c.args.stim.now c.args.limits.now now in
    let before = ap (λ h. h.turns) run.header_is in
    let after = ap (λ h. h.turns) turn.header_is in
    elim c.if-next-header.branch [
      | then-next-header w ↦ omega (arith, once, before, after, done.turns, ap (λ s. s.count) w.steps-is, ap (λ s. s.count) w.tick.ensures, c.turns.invariant.count, w.if-next-header.true)
      | else-next-header w ↦ omega (arith, once, before, after, done.turns, ap (λ s. s.count) w.steps-is, c.turns.invariant.count, w.if-next-header.false)
    ]

pub write_all-requires : goal.write_all-requires
write_all-requires g c =
    let run = c.turns.invariant.running in
    let k = c.turns.header.turns in
    let m = machine_of c.args.design.now in
    let words = c.turns.flat.words.items in
    let turn = next_turn c.args.design.now c.args.stim.now c.args.limits.now c.args.budget words c.turns.touched c.turns.header c.turns.text k c.turn.new.into run
    (c.in_ok-turn.ensures (moment_at m c.args.stim.now c.args.limits.now k).state run.sound run.words_are) in
    let fits = length-words c.args.design.now c.args.stim.now c.args.limits.now c.args.budget words c.turns.touched c.turns.header c.turns.text k run in
    record {
      words = rw c.deref.ensures.value (all_inside words c.turn.new.into.writes.items (vec_len c.turns.flat.words) (omega (arith, c.turns.flat.words.ok)) turn.change.change);
      pages = rw c.deref.ensures.value (all_inside words c.turn.new.into.writes.items (64 * length c.turns.touched) fits turn.change.change);
    }

pub returns-then-count-budget : goal.returns-then-count-budget
returns-then-count-budget g c =
    let p = c.args.design.now in
    let stim = c.args.stim.now in
    let limits = c.args.limits.now in
    let words = c.turns.flat.words.items in
    let run = c.turns.invariant.running in
    let k = c.turns.header.turns in
    let m = machine_of p in
    let now = moment_at m stim limits k in
    let turn = next_turn p stim limits c.args.budget words c.turns.touched c.turns.header c.turns.text k c.turn.new.into run (c.in_ok-turn.ensures now.state run.sound run.words_are) in
    let going = not_ended c.turn.new.into.mark c.in_default.not-Ended in
    let going_now : is_ending (mark_at m stim limits k) ≡ false = ap is_ending (sym turn.mark) ∙ going in
    let flags = next_flags p stim limits c.args.budget words c.turns.touched c.turns.header c.turns.text k c.turn.new.into run turn in
    let touched : c.write_all.new.touched ≡ marked c.turns.touched c.turn.new.into.writes.items = c.write_all.ensures.pages ∙ ap (marked c.turns.touched) c.deref.ensures.value in
    let counted : c.count.result ≡ flags_set (marked c.turns.touched c.turn.new.into.writes.items) = c.count.ensures ∙ ap flags_set touched in
    let passes : nat_lt c.args.budget (pages_touched m stim limits (suc k)) ≡ true =
    ap (nat_lt c.args.budget) (sym (counted ∙ flags.count)) ∙ lt-ltb c.args.budget c.count.result c.if-count-budget.true in
    let stopped = solo_passed m stim limits c.args.budget k (none_below_more (λ j. is_ending (mark_at m stim limits j)) k run.goes_on going_now) run.within passes in
    record {
      outcome = ap Pages (c.count-then-count-budget.ensures ∙ ap flags_set touched ∙ flags.count) ∙ sym stopped.outcome;
      steps = omega (arith, c.turns.invariant.count, stopped.turns);
      moved = (omega (arith, c.turns.invariant.count), omega (arith, c.turns.invariant.count, c.turns.invariant.most));
      parts = c.turns.invariant.parts;
    }

pub turns-preserved : goal.turns-preserved
turns-preserved g c =
    let p = c.args.design.now in
    let stim = c.args.stim.now in
    let limits = c.args.limits.now in
    let words = c.turns.flat.words.items in
    let run = c.turns.invariant.running in
    let k = c.turns.header.turns in
    let m = machine_of p in
    let now = moment_at m stim limits k in
    let turn = next_turn p stim limits c.args.budget words c.turns.touched c.turns.header c.turns.text k c.turn.new.into run (c.in_ok-turn.ensures now.state run.sound run.words_are) in
    let going = not_ended c.turn.new.into.mark c.in_default.not-Ended in
    let going_now : is_ending (mark_at m stim limits k) ≡ false = ap is_ending (sym turn.mark) ∙ going in
    let flags = next_flags p stim limits c.args.budget words c.turns.touched c.turns.header c.turns.text k c.turn.new.into run turn in
    let touched : c.write_all.new.touched ≡ marked c.turns.touched c.turn.new.into.writes.items = c.write_all.ensures.pages ∙ ap (marked c.turns.touched) c.deref.ensures.value in
    let counted : c.count.result ≡ flags_set (marked c.turns.touched c.turn.new.into.writes.items) = c.count.ensures ∙ ap flags_set touched in
    let fits : nat_lt c.args.budget (flags_set (marked c.turns.touched c.turn.new.into.writes.items)) ≡ false =
    ap (nat_lt c.args.budget) (sym counted) ∙ le-ltb c.args.budget c.count.result c.if-count-budget.false in
    let next = advance p stim limits c.args.budget words c.turns.touched c.turns.header c.turns.text k c.turn.new.into run turn going fits in
    let words_next : c.write_all.new.words.items ≡ written words c.turn.new.into.writes.items = c.write_all.ensures.words ∙ ap (written words) c.deref.ensures.value in
    let text_next : c.append.new.text ≡ c.turns.text ++ c.turn.new.into.text = c.in_ok-append.ensures ∙ ap (λ t. c.turns.text ++ t) c.bytes.ensures in
    let turns_next : c.turn.new.into.header.turns ≡ suc k = next.counted in
    let limit = before_limit m stim limits now going_now in
    let before = ap (λ h. h.turns) run.header_is in
    record {
      running =
          subst (λ (ws : List ℕ). IsRunning p stim limits c.args.budget ws c.write_all.new.touched c.turn.new.into.header c.append.new.text c.turn.new.into.header.turns) (sym words_next)
          (subst (λ (fs : List Bool). IsRunning p stim limits c.args.budget (written words c.turn.new.into.writes.items) fs c.turn.new.into.header c.append.new.text c.turn.new.into.header.turns) (sym touched)
          (subst (λ (ts : List ℕ). IsRunning p stim limits c.args.budget (written words c.turn.new.into.writes.items) (marked c.turns.touched c.turn.new.into.writes.items) c.turn.new.into.header ts c.turn.new.into.header.turns) (sym text_next)
          (subst (λ (n : ℕ). IsRunning p stim limits c.args.budget (written words c.turn.new.into.writes.items) (marked c.turns.touched c.turn.new.into.writes.items) c.turn.new.into.header (c.turns.text ++ c.turn.new.into.text) n) (sym turns_next) next)));
      past = refl;
      most = omega (arith, turns_next, limit, before, run.counted);
      parts = ap (λ s. s.parts) c.tick-in-turns.ensures ∙ c.turns.invariant.parts;
      count = omega (arith, ap (λ s. s.count) c.tick-in-turns.ensures, c.turns.invariant.count, turns_next);
    }
