-- What a name stands for in an expression (docs/LANGUAGE.md, "Sizes and signs"; IEEE Std 1364-2005, clauses 4.9, 5.2 and 12.2).
use Rattle.std.specs.Prelude.{Bool, false, List, Option, Some, None, Ok, slice_get, if◌then◌else◌, ℤ}
use Rattle.vf_fours.specs.Bits.{FourState}
use Rattle.vf_tree.specs.declared.words.Name.{Name}
use Rattle.vf_elaborated.specs.declared.design.Signal.{Signal}
use Rattle.vf_elaborated.specs.declared.expr.Expr.{Expr}
use Rattle.vf_elaborated.specs.declared.expr.Expr.TheVariants as expr
use Rattle.vf_elaborated.specs.Shapes.{is_width}
use Rattle.vf_scope.specs.declared.scope.Entry.{Entry}
use Rattle.vf_scope.specs.declared.scope.Entry.TheVariants as entry
use Rattle.vf_scope.specs.Names.{Names, find}
use Rattle.vf_size.specs.declared.fault.SizeKind.TheVariants.{NotConstant, Width, UnknownName}
use Rattle.vf_size.specs.declared.base.Base.{Base}
use Rattle.vf_size.specs.Faults.{Sized, fails}
use Rattle.vf_size.specs.Rules.{shape_of_value}

abbrev pub parameter : FourState → ℤ → ℤ → Base
parameter value left right = record {
  shape = shape_of_value value;
  left = left;
  right = right;
  memory = false;
}

abbrev pub variable : Signal → Base
variable signal = record {
  shape = record { width = signal.width; signed = signal.signed };
  left = signal.left;
  right = signal.right;
  memory = signal.memory;
}

-- A signal is no constant. A name of a signal that is not there is not declared.
abbrev pub signal_base : Bool → Name → Option Signal → Sized Base
signal_base constant name None = fails UnknownName name.place
signal_base constant name (Some signal) =
    if constant then fails NotConstant name.place
    else (if is_width signal.width then Ok (variable signal) else fails Width name.place)

abbrev pub entry_base : List Signal → Bool → Name → Option Entry → Sized Base
entry_base signals constant name None = fails UnknownName name.place
entry_base signals constant name (Some (entry.Constant value left right)) = Ok (parameter value left right)
entry_base signals constant name (Some (entry.Signal sig)) = signal_base constant name (slice_get signals sig.0)

abbrev pub base_of : Names → List Signal → Bool → Name → Sized Base
base_of names signals constant name = entry_base signals constant name (find names name.text)

-- the entry of a name that is declared
abbrev pub declared_as : Name → Option Entry → Sized Entry
declared_as name None = fails UnknownName name.place
declared_as name (Some e) = Ok e

abbrev pub entry_of : Names → Name → Sized Entry
entry_of names name = declared_as name (find names name.text)

-- the signal, or the element of it, or the value of the parameter
abbrev pub read_from : Entry → Option Expr → Expr
read_from (entry.Signal sig) element = expr.Read sig element
read_from (entry.Constant value left right) element = expr.Const value
