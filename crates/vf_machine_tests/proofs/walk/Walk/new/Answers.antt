use Rattle.std.proofs.Common.{length, sym, arith}
use Rattle.std.proofs.lemmas.Bool.{le-ltb}
use Rattle.vf_machine_tests.proofs.WalkLemmas.{zero_holds}
use Rattle.vf_machine_tests.proofs.walk.Walk.new.Goals as goal

pub invariant_of-result : goal.invariant_of-result
invariant_of-result c = record {
  holds = zero_holds c.args.design c.in_ok-words.words.items c.in_ok-words.ensures.formed c.in_ok-words.ensures.words;
  past = sym (le-ltb (length c.in_ok-stim.stim.items) 0 (omega arith));
}
