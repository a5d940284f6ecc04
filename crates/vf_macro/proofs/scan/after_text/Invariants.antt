use Rattle.std.proofs.Common.{length}
use Rattle.vf_macro.proofs.MacroTexts.{ReachesOn}
use Rattle.vf_macro.proofs.scan.after_text.Given as goal

abbrev pub invariant-parts : goal.invariant-parts
invariant-parts l = ReachesOn l.fn.bytes l.from

abbrev pub decreases-parts : goal.decreases-parts
decreases-parts l = length l.from
