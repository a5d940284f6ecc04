use Rattle.std.proofs.Common.{◌≡◌, drop}
use Rattle.vf_ports.specs.Files.{file_named}
use Rattle.vf_ports.proofs.files.find.Given as goal

-- no entry so far has the name
abbrev pub invariant-loop-entry : goal.invariant-loop-entry
invariant-loop-entry l = file_named (drop l.entry-index l.entries) l.name ≡ file_named l.entries l.name
