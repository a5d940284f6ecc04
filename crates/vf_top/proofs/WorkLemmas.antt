-- What the modes give, as the work of a command.
use Rattle.std.proofs.Common.{◌≡◌, ℕ, List, Some, None, Result, Ok, Err, refl, sym, ◌∙◌, ap, subst, inl, inr}
use Rattle.vf_base.specs.Count.{Count}
use Rattle.vf_base.specs.declared.memory.Memory.{Memory as Wanting}
use Rattle.vf_design.specs.Program.{Program}
use Rattle.vf_plan.specs.declared.plan.Node.{Node}
use Rattle.vf_jobs.specs.Setup.{Conditions}
use Rattle.vf_journal.specs.Journal.{of_solo}
use Rattle.vf_ports.specs.Shelf.{ShelfState}
use Rattle.vf_records.specs.Account.{Account, farm_of}
use Rattle.vf_here.specs.Finished.{HasRun}
use Rattle.vf_report.specs.Report.{outcomes_in, check_text}
use Rattle.vf_words.specs.declared.command.Command.{Command}
use Rattle.vf_words.specs.declared.command.Mode.TheVariants.{Run, Check, Solo}
use Rattle.vf_top.specs.declared.lines.Lines.{Lines}
use Rattle.vf_top.specs.declared.refusal.Refusal.{Refusal}
use Rattle.vf_top.specs.declared.refusal.Refusal.TheVariants.{WrongWords, Failed, TooLong, DesignNotBuilt, NoTop, WrongPlan, NoTest, Write, Memory}
use Rattle.vf_top.specs.Report.{conditions_of, job_of, AreAlone, test_of, sizes_of}
use Rattle.vf_top.specs.Inputs.{IsAccepted}
use Rattle.vf_top.specs.Work.{Works, run, check, solo}
use Rattle.vf_top.specs.Answer.{World, ReadCause, ShelfAfter, TurnsAfter}
use Rattle.vf_top.specs.Steps.{FarmGives, AloneGives, NamesNone, Worked, Ends, Ran}

-- what a farm of these conditions tells is that of the tests run alone
alone_by : (command : Command) (p : Program) (nodes : List Node) (a : Account) (before after : Count) → HasRun (conditions_of command p nodes) a before after
    → AreAlone command p nodes (outcomes_in a)
alone_by command p nodes a before after ran = λ n outcome told.
    ran.account.told.outcomes (job_of n) outcome told ∙ ap (λ (s : Conditions). (of_solo (farm_of s)).outcome (job_of n)) ran.setup

-- mode run
pub farm_worked : (words : List (List ℕ)) (shelf : ShelfState) (command : Command) (p : Program) (nodes : List Node) (before after : Count) (lines : Lines)
    → command.mode ≡ Run → IsAccepted words shelf command p nodes → FarmGives command p nodes before after (Ok lines)
    → Worked words shelf shelf before after (Ok lines)
farm_worked words shelf command p nodes before after lines mode accepted gives = (
  run record {
    command = command;
    p = p;
    nodes = nodes;
    accepted = accepted;
    mode = mode;
    account = gives.0;
    ran = gives.1;
    alone = alone_by command p nodes gives.0 before after gives.1;
    text = gives.2;
    status = gives.3;
  },
  refl,
)

pub farm_lacking : (words : List (List ℕ)) (shelf : ShelfState) (command : Command) (p : Program) (nodes : List Node) (before after : Count) (e : Wanting)
    → command.mode ≡ Run → IsAccepted words shelf command p nodes → FarmGives command p nodes before after (Err e)
    → Worked words shelf shelf before after (Err Memory)
farm_lacking words shelf command p nodes before after e mode accepted (inl still) = (tt, refl, inl still)
farm_lacking words shelf command p nodes before after e mode accepted (inr ran) =
    (tt, refl, inr (inl (record { command = command; p = p; nodes = nodes; accepted = accepted; mode = mode; account = ran.0; ran = ran.1 })))

-- mode check
pub check_worked : (words : List (List ℕ)) (shelf : ShelfState) (command : Command) (p : Program) (nodes : List Node) (steps : Count) (lines : Lines)
    → command.mode ≡ Check → IsAccepted words shelf command p nodes → lines.text.items ≡ check_text (sizes_of p nodes) → lines.status ≡ 0
    → Worked words shelf shelf steps steps (Ok lines)
check_worked words shelf command p nodes steps lines mode accepted text status =
    (check record { command = command; p = p; nodes = nodes; accepted = accepted; mode = mode; turns = refl; text = text; status = status }, refl)

-- mode solo
pub alone_worked : (words : List (List ℕ)) (shelf : ShelfState) (command : Command) (p : Program) (nodes : List Node) (n : ℕ) (before after : Count) (lines : Lines)
    → command.mode ≡ Solo → IsAccepted words shelf command p nodes → test_of command nodes ≡ Some n → AloneGives command p nodes n before after (Ok lines)
    → Worked words shelf shelf before after (Ok lines)
alone_worked words shelf command p nodes n before after lines mode accepted named gives = (
  solo record {
    command = command;
    p = p;
    nodes = nodes;
    accepted = accepted;
    mode = mode;
    n = n;
    test = gives.0;
    named = named;
    node = gives.1;
    turns = gives.2;
    text = gives.3;
    status = gives.4;
  },
  refl,
)

pub alone_lacking : (words : List (List ℕ)) (shelf : ShelfState) (command : Command) (p : Program) (nodes : List Node) (n : ℕ) (before after : Count) (e : Wanting)
    → command.mode ≡ Solo → IsAccepted words shelf command p nodes → test_of command nodes ≡ Some n → AloneGives command p nodes n before after (Err e)
    → Worked words shelf shelf before after (Err Memory)
alone_lacking words shelf command p nodes n before after e mode accepted named gives = (
  tt,
  refl,
  inr (inr (record { command = command; p = p; nodes = nodes; accepted = accepted; mode = mode; n = n; named = named; least = gives.0; most = gives.1 })),
)

pub none_named : (words : List (List ℕ)) (shelf : ShelfState) (command : Command) (p : Program) (nodes : List Node) (steps : Count) (refusal : Refusal)
    → command.mode ≡ Solo → IsAccepted words shelf command p nodes → test_of command nodes ≡ None → NamesNone command refusal
    → Worked words shelf shelf steps steps (Err refusal)
none_named words shelf command p nodes steps (NoTest name) mode accepted none is = ((command, p, nodes, accepted, mode, none, is), refl, refl)
none_named words shelf command p nodes steps Memory mode accepted none free = (tt, refl, inl refl)
none_named words shelf command p nodes steps (WrongWords fault) mode accepted none h = absurd h
none_named words shelf command p nodes steps (Failed what) mode accepted none h = absurd h
none_named words shelf command p nodes steps (TooLong what) mode accepted none h = absurd h
none_named words shelf command p nodes steps DesignNotBuilt mode accepted none h = absurd h
none_named words shelf command p nodes steps NoTop mode accepted none h = absurd h
none_named words shelf command p nodes steps (WrongPlan fault) mode accepted none h = absurd h
none_named words shelf command p nodes steps Write mode accepted none h = absurd h

-- ---- and then the output

-- the work is done, and its text is written, or a part of it
pub ran_by : (words : List (List ℕ)) (before after : World) (text : List ℕ) (status : ℕ) (result : Result ℕ Refusal)
    → Works words before.shelf before.steps after.steps text status → after.shelf ≡ before.shelf → Ends before.out after.out text status result
    → Ran words before after result
ran_by words before after text status (Ok answer) works kept ends = (text, works_as words before after text status answer ends.1 works, ends.0, kept)
  where
    works_as : (words : List (List ℕ)) (before after : World) (text : List ℕ) (status answer : ℕ) → answer ≡ status
        → Works words before.shelf before.steps after.steps text status → Works words before.shelf before.steps after.steps text answer
    works_as words before after text status answer same works = subst (λ s. Works words before.shelf before.steps after.steps text s) (sym same) works
ran_by words before after text status (Err Write) works kept ends = ((text, status, works, ends), kept, tt, tt)
ran_by words before after text status (Err Memory) works kept h = absurd h
ran_by words before after text status (Err (WrongWords fault)) works kept h = absurd h
ran_by words before after text status (Err (Failed what)) works kept h = absurd h
ran_by words before after text status (Err (TooLong what)) works kept h = absurd h
ran_by words before after text status (Err DesignNotBuilt) works kept h = absurd h
ran_by words before after text status (Err NoTop) works kept h = absurd h
ran_by words before after text status (Err (WrongPlan fault)) works kept h = absurd h
ran_by words before after text status (Err (NoTest name)) works kept h = absurd h

-- the words are refused, or their work is, before anything is written
pub refused_early : (words : List (List ℕ)) (before after : World) (refusal : Refusal) → ReadCause words before.shelf after.shelf refusal → ShelfAfter before.shelf after.shelf refusal
    → TurnsAfter words before.shelf before.steps after.steps refusal → after.out ≡ before.out → Ran words before after (Err refusal)
refused_early words before after (WrongWords fault) cause shelf turns kept = (cause, shelf, turns, kept)
refused_early words before after (Failed what) cause shelf turns kept = (cause, shelf, turns, kept)
refused_early words before after (TooLong what) cause shelf turns kept = (cause, shelf, turns, kept)
refused_early words before after DesignNotBuilt cause shelf turns kept = (cause, shelf, turns, kept)
refused_early words before after NoTop cause shelf turns kept = (cause, shelf, turns, kept)
refused_early words before after (WrongPlan fault) cause shelf turns kept = (cause, shelf, turns, kept)
refused_early words before after (NoTest name) cause shelf turns kept = (cause, shelf, turns, kept)
refused_early words before after Write cause shelf turns kept = absurd cause
refused_early words before after Memory cause shelf turns kept = (cause, shelf, turns, kept)
