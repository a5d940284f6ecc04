-- Answers that an expression has unless it is at fault (docs/LANGUAGE.md, "Sizes and signs").
use Rattle.std.specs.Prelude.{Result, Ok, Err}
use Rattle.vf_base.specs.declared.names.Place.{Place}
use Rattle.vf_size.specs.declared.fault.SizeFault.{SizeFault}
use Rattle.vf_size.specs.declared.fault.SizeKind.{SizeKind}

-- an answer, or the first fault in the order of the text
abbrev pub Sized : Type 0 → Type 0
Sized A = Result A SizeFault

abbrev pub fails : {A : Type 0} → SizeKind → Place → Sized A
fails kind place = Err (record { kind = kind; place = place })

-- what comes next, where there is no fault so far
infixl 10 ◌>>=◌
abbrev pub ◌>>=◌ : {A B : Type 0} → Sized A → (A → Sized B) → Sized B
(Ok a) >>= f = f a
(Err fault) >>= f = Err fault
