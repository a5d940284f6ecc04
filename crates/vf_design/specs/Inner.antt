-- How a Design shows itself as a Program.
use Rattle.vf_design.specs.declared.design.Design.TheInside.{Inside}
use Rattle.vf_design.specs.Program.{Program, IsWellFormed}

abbrev pub program_of : Inside → Program
program_of d = record { top = d.top; variable = d.variable; code = d.code.items; slots = d.slots }

abbrev pub IsKept : Inside → Type 0
IsKept d = IsWellFormed (program_of d)
