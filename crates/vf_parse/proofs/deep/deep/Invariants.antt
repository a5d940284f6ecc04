use Rattle.std.proofs.Common.{◌≡◌, ℕ, ◌≤◌, take}
use Rattle.vf_parse.specs.Deep.{open_in, closed_in, IsDeep}
use Rattle.vf_parse.proofs.deep.deep.Given as goal

abbrev pub invariant-loop-index : goal.invariant-loop-index
invariant-loop-index l = record {
  opened : l.opened ≡ open_in (take l.index l.tokens);
  closed : l.closed ≡ closed_in (take l.index l.tokens);
  below : (j : ℕ) → j ≤ l.index → IsDeep (take j l.tokens) → ⊥;
}
