-- What the grammar says is read.
use Rattle.std.proofs.Common.{◌≡◌, List, [], ◌∷◌, length, Option, Some, None, refl, codes, arith}
use Rattle.vf_base.specs.declared.names.Place.{Place}
use Rattle.vf_tree.specs.declared.modules.Ports.{Ports}
use Rattle.vf_tree.specs.declared.modules.Item.{Item}
use Rattle.vf_tree.specs.declared.modules.Module.{Module}
use Rattle.vf_tree.specs.declared.modules.Source.{Source}
use Rattle.vf_expression.specs.Grammar.{Tokens, sign, word}
use Rattle.vf_expression.specs.Reading.{after}
use Rattle.vf_expression.proofs.CallerLemmas.{after_again, after_other}
use Rattle.vf_statement.specs.Reading.{after_word}
use Rattle.vf_statement.proofs.CallerLemmas.{after_word_again, after_word_other, name_again}
use Rattle.vf_item.specs.Rows.{IsRow, row_from}
use Rattle.vf_item.specs.Grammar.{IsPortList, no_list, empty_list, port_list, IsItem}
use Rattle.vf_item.specs.Reading.{item_at}
use Rattle.vf_item.proofs.CallerLemmas.{readings_are, item_shorter, else_other, end_other, item_no_word, ReadsOne, row_reads}
use Rattle.vf_parse.specs.Grammar.{IsModule, one_module, IsSource, modules}
use Rattle.vf_parse.specs.Reading.{before_end, module_from, module_at, some_tokens, source_of}
use Rattle.vf_parse.proofs.Shorter.{module_shorter}

item_again : (ts rest : Tokens) (a : Item) → IsItem ts rest a → after_word (codes "else") rest ≡ None → ReadsOne before_end item_at ts rest a
item_again ts rest a is ends =
    record { from = ts; starts = rw (item_no_word (codes "endmodule") ts rest a end_other is) refl; reads = readings_are.items.complete ts rest a is ends }

item_follows : (ts rest : Tokens) (a : Item) → IsItem ts rest a → after_word (codes "else") ts ≡ None
item_follows ts rest a is = item_no_word (codes "else") ts rest a else_other is

items_again : (ts rest : Tokens) (s : Place) (items : List Item) → IsRow IsItem ts (word s (codes "endmodule") ∷ rest) items → row_from before_end item_at (length ts) [] ts ≡ Some (items, word s (codes "endmodule") ∷ rest)
items_again ts rest s items is =
    row_reads IsItem before_end item_at (λ vs. after_word (codes "else") vs ≡ None) item_shorter item_follows item_again ts (word s (codes "endmodule") ∷ rest) items is (length ts) [] (omega arith)
    (after_word_other (codes "else") (codes "endmodule") s rest refl) (rw (after_word_again (codes "endmodule") s rest) refl)

-- before the `;` of a header no `#` begins a port list
port_list_no_params : (ts ws : Tokens) (r : Place) (ports : Option (Option Ports)) → IsPortList ts (sign r (codes ";") ∷ ws) ports → after (codes "#") ts ≡ None
port_list_no_params ts ws r ports (no_list spelled t) = rw spelled (after_other (codes "#") (codes ";") r ws refl)
port_list_no_params ts ws r ports (empty_list p q spelled t) = rw spelled (after_other (codes "#") (codes "(") p (sign q (codes ")") ∷ sign r (codes ";") ∷ ws) refl)
port_list_no_params ts ws r ports (port_list p q us l is spelled t) = rw spelled (after_other (codes "#") (codes "(") p us refl)

module_again : (ts rest : Tokens) (tree : Module) → IsModule ts rest tree → module_at ts ≡ Some (tree, rest)
unfolding module_at module_from
module_again ts rest tree (one_module p q r s text us vs ws params ports items x y z spelled t) =
    rw (
      spelled,
      t,
      name_again q text us,
      readings_are.params.complete us vs params x (port_list_no_params vs ws r ports y),
      readings_are.port_lists.complete vs (sign r (codes ";") ∷ ws) ports y (after_other (codes "(") (codes ";") r ws refl),
      after_again (codes ";") r ws,
      items_again ws rest s items z,
      after_word_again (codes "endmodule") s rest,
    )
    refl

next_module_again : (ts rest : Tokens) (a : Module) → IsModule ts rest a → Unit {0} → ReadsOne some_tokens module_at ts rest a
next_module_again ts rest a (one_module p q r s text us vs ws params ports items x y z spelled t) ends =
    record { from = ts; starts = rw spelled refl; reads = module_again ts rest a (one_module p q r s text us vs ws params ports items x y z spelled t) }

pub source_again : (ts : Tokens) (tree : Source) → IsSource ts tree → source_of ts ≡ Some tree
unfolding source_of
source_again ts tree (modules us m others is more t) =
    let later : row_from some_tokens module_at (length us) (m ∷ []) us ≡ Some (m ∷ others, [])
    = row_reads IsModule some_tokens module_at (λ vs. Unit {0}) module_shorter (λ vs ws a one. tt) next_module_again us [] others more (length us) (m ∷ []) (omega arith) tt refl in
    rw (module_again ts us m is, later, t) refl
