use Rattle.std.proofs.Common.{◌≡◌, ◌+◌, ◌-◌, ◌≤◌, length, nat_lt}
use Rattle.vf_solo.proofs.Progress.{IsRunning}
use Rattle.vf_solo.proofs.lone.solo.Given as goal

-- the run after as many turns as the header counts
abbrev pub invariant-turns : goal.invariant-turns
invariant-turns g l = record {
  running : IsRunning l.design l.stim l.limits l.budget l.flat.words.items l.touched l.header l.text l.header.turns;
  past : l.flat.past_end ≡ nat_lt (length l.stim) l.header.reads;
  most : l.header.turns ≤ l.limits.turns;
  parts : l.steps.parts ≡ l.fn.steps.parts;
  count : l.steps.count ≡ l.fn.steps.count + l.header.turns;
}

abbrev pub decreases-turns : goal.decreases-turns
decreases-turns g l = l.limits.turns - l.header.turns
