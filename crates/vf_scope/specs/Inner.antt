-- How a Scope shows itself as a list.
use Rattle.std.specs.Prelude.{map}
use Rattle.vf_scope.specs.declared.scope.Scope.TheInside.{Inside}
use Rattle.vf_scope.specs.Names.{Names}

abbrev pub names_of : Inside → Names
names_of scope = map (λ e. (e.0.items, e.1)) scope.entries.entries
