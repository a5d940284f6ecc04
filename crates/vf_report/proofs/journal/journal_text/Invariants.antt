use Rattle.std.proofs.Common.{◌≡◌, ◌++◌, drop}
use Rattle.vf_report.specs.Journal.{lines_text, journal_text}
use Rattle.vf_report.proofs.journal.journal_text.Given as goal

-- what is written, with the lines of the entries to come, is the whole text
abbrev pub invariant-loop-entry : goal.invariant-loop-entry
invariant-loop-entry l = l.text.items ++ lines_text l.plan (drop l.entry-index l.journal) ≡ journal_text l.plan l.journal
