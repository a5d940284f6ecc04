-- What the error output is told.
use Rattle.std.proofs.Common.{◌≡◌, ℕ, List, Result, Ok, Err, inl, inr}
use Rattle.std.specs.Prelude.{OnOk, OnErr}
use Rattle.vf_ports.specs.Counts.{Rose}
use Rattle.vf_ports.specs.Sink.{SinkState, Appends, AppendsPart}
use Rattle.vf_top.specs.declared.refusal.Refusal.{Refusal}
use Rattle.vf_top.specs.declared.refusal.Refusal.TheVariants.{WrongWords, Failed, TooLong, DesignNotBuilt, NoTop, WrongPlan, NoTest, Write, Memory}
use Rattle.vf_top.specs.Answer.{World, Says, Cause, ShelfAfter, TurnsAfter, OutAfter, Refuses}
use Rattle.vf_top.specs.Steps.{Tells}

-- a line that was written, or a part of it
pub says_by : {T E : Type 0} (r : Result T E) (before after : SinkState) (line : List ℕ) → OnOk r (Appends before.written after.written line) → OnOk r (after.faults ≡ before.faults)
    → OnErr r (AppendsPart before.written after.written line) → OnErr r (Rose before.faults after.faults) → Says before after line
says_by (Ok x) before after line whole kept part rose = inl (record { whole = whole; faults = kept })
says_by (Err e) before after line whole kept part rose = inr (record { part = part; rose = rose })

-- telling a refusal is how a refused command ends; out of memory for a line that has to be made is out of memory
pub refused_by : (words : List (List ℕ)) (before after : World) (refusal : Refusal) (status : ℕ) → Cause words before after refusal → ShelfAfter before.shelf after.shelf refusal
    → TurnsAfter words before.shelf before.steps after.steps refusal → OutAfter before.out after.out refusal → Tells before.err after.err refusal status → Refuses words before after status
refused_by words before after refusal status cause shelf turns out (inl told) =
    record { refusal = refusal; is = told.0; cause = cause; shelf = shelf; turns = turns; out = out; says = told.1 }
refused_by words before after (WrongWords fault) status cause shelf turns out (inr told) =
    record { refusal = Memory; is = told.1; cause = tt; shelf = shelf; turns = inl turns; out = out; says = told.2 }
refused_by words before after (WrongPlan fault) status cause shelf turns out (inr told) =
    record { refusal = Memory; is = told.1; cause = tt; shelf = shelf; turns = inl turns; out = out; says = told.2 }
refused_by words before after (NoTest name) status cause shelf turns out (inr told) =
    record { refusal = Memory; is = told.1; cause = tt; shelf = shelf; turns = inl turns; out = out; says = told.2 }
refused_by words before after (Failed what) status cause shelf turns out (inr told) = absurd told.0
refused_by words before after (TooLong what) status cause shelf turns out (inr told) = absurd told.0
refused_by words before after DesignNotBuilt status cause shelf turns out (inr told) = absurd told.0
refused_by words before after NoTop status cause shelf turns out (inr told) = absurd told.0
refused_by words before after Write status cause shelf turns out (inr told) = absurd told.0
refused_by words before after Memory status cause shelf turns out (inr told) = absurd told.0
