use Rattle.std.proofs.Common.{◌≡◌, ◌∙◌, suc, true, List, ◌∷◌, ap, subst, arith}
use Rattle.vf_base.specs.declared.run.Header.{Header}
use Rattle.vf_frames.specs.declared.holder.Holder.{Holder}
use Rattle.vf_frames.specs.Holders.{Accounts}
use Rattle.vf_pages.specs.Calls.{OnRefusal, IsShort, ShortAmong, IsUnmade}
use Rattle.vf_image.specs.Runs.{touched_in}
use Rattle.vf_image.specs.Simulators.{Simulator}
use Rattle.vf_image.proofs.CallerLemmas.{turn_counts, before_the_limit}
use Rattle.vf_run.proofs.StopLemmas.{turns_within, kept_same, needs_stayed}
use Rattle.vf_run.proofs.run.advance.Goals as goal

pub returns-in-Some-clause-within : goal.returns-in-Some-clause-within
returns-in-Some-clause-within g c = turns_within c.args.sim.now c.saved_here.ensures.kept

pub returns-in_default-next_turn-clause-within : goal.returns-in_default-next_turn-clause-within
returns-in_default-next_turn-clause-within g c = turns_within c.args.sim.now c.saved_here.ensures.kept

pub returns-in-Some-stand-clause-some : goal.returns-in-Some-stand-clause-some
returns-in-Some-stand-clause-some g c = c.in-Some-stand.ensures.some _ _

pub returns-in-Ok-advance-clause-none : goal.returns-in-Ok-advance-clause-none
returns-in-Ok-advance-clause-none g c =
    ap (λ (h : Header). h.turns) c.in-Ok-advance.ensures.ok.header
    ∙ turn_counts c.args.sim.now c.next_turn.new.next c.saved_here.ensures.kept c.in-Ok.ensures c.in_default-stand.ensures.none.1

pub returns-in-Ok-advance-clause-less : goal.returns-in-Ok-advance-clause-less
returns-in-Ok-advance-clause-less g c = before_the_limit c.args.sim.now c.next_turn.new.next c.saved_here.ensures.kept c.in-Ok.ensures c.in_default-stand.ensures.none.1

pub returns-in-Err-Short-clause-some : goal.returns-in-Err-Short-clause-some
returns-in-Err-Short-clause-some g c =
    let s : Simulator = c.args.sim.now in
    let s' : Simulator = c.advance.new.self in
    let next = c.next_turn.new.next in
    let left = c.in-Err-Short.ensures in
    let refused = subst (λ r. OnRefusal r (λ k. IsShort k next.writes.items s.pages s'.pages × (s'.short ≡ true)) (IsUnmade s.pages s'.pages × (s'.short ≡ s.short)))
    c.in-Err-Short.field-0-is left.refused in
    let number = subst (λ r. OnRefusal r (λ k. k ≡ touched_in s.setup s.job (suc s.header.turns)) (Unit {0})) c.in-Err-Short.field-0-is left.number in
    let among : (others : List Holder) → Accounts (g.F.Frames.numbers c.args.pool.now) (s.pages.holder ∷ others) → ShortAmong c.in-Err-Short.pages next.writes.items s.pages others =
    λ others accounts. subst (λ r. OnRefusal r (λ k. ShortAmong k next.writes.items s.pages others) (Unit {0})) c.in-Err-Short.field-0-is (left.refused_among others accounts) in
    record {
      before = s;
      kept = kept_same s.pages.holder;
      turn = next;
      stayed = left.err;
      next = c.in-Ok.ensures;
      needs = needs_stayed s s' next c.in-Err-Short.pages left.err c.in-Ok.ensures c.in_default-stand.ensures.none.0 c.in_default-stand.ensures.none.1 number;
      short = refused.0;
      is_short = refused.1;
      among = among;
    }

pub returns-in-Err-Short-clause-within : goal.returns-in-Err-Short-clause-within
returns-in-Err-Short-clause-within g c =
    let within = turns_within c.args.sim.now c.saved_here.ensures.kept in
    let same = ap (λ (h : Header). h.turns) c.in-Err-Short.ensures.err.header in
    omega (arith, within, same)

pub returns-in-Err-Memory-clause-within : goal.returns-in-Err-Memory-clause-within
returns-in-Err-Memory-clause-within g c =
    let within = turns_within c.args.sim.now c.saved_here.ensures.kept in
    let same = ap (λ (h : Header). h.turns) c.in-Err-Memory.ensures.err.header in
    omega (arith, within, same)
