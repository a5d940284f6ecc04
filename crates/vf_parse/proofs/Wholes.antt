-- The design that tokens are, and what parsing answers.
use Rattle.std.proofs.Common.{◌≡◌, Some, None, Option, sym, ◌∙◌}
use Rattle.vf_base.specs.declared.names.Place.{Place}
use Rattle.vf_tree.specs.declared.modules.Source.{Source}
use Rattle.vf_expression.specs.Grammar.{Tokens}
use Rattle.vf_expression.proofs.CallerLemmas.{some_is}
use Rattle.vf_parse.specs.Grammar.{IsSource}
use Rattle.vf_parse.specs.Reading.{source_of}
use Rattle.vf_parse.specs.LeftOut.{NoneLeftOut}
use Rattle.vf_parse.specs.Deep.{IsNowhereDeep}
use Rattle.vf_parse.specs.Parsing.{IsTree, IsPlace, IsUnexpected, TreesAreOne}
use Rattle.vf_parse.proofs.Sound.{source_is}
use Rattle.vf_parse.proofs.Complete.{source_again}

pub one_tree : TreesAreOne
one_tree ts one other a b = some_is one other (sym (source_again ts one a.is) ∙ source_again ts other b.is)

pub no_tree : (ts : Tokens) → source_of ts ≡ None → (tree : Source) → IsSource ts tree → ⊥
no_tree ts e tree is = let both : ◌≡◌ {A = Option Source} None (Some tree) = sym e ∙ source_again ts tree is in absurd cc

pub answer_tree : (ts : Tokens) (tree : Source) → source_of ts ≡ Some tree → NoneLeftOut ts → IsNowhereDeep ts → NoneLeftOut ts × IsTree ts tree
answer_tree ts tree e none shallow = (none, record { shallow = shallow; is = source_is ts tree e })

pub answer_none : (ts : Tokens) (p : Place) → source_of ts ≡ None → IsPlace ts p → NoneLeftOut ts → IsNowhereDeep ts → IsUnexpected ts p
answer_none ts p e place none shallow = record { none = none; shallow = shallow; placed = place; never = no_tree ts e }
