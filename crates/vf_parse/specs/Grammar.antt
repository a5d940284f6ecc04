-- Modules and whole designs over tokens (docs/LANGUAGE.md, "Grammar"; IEEE Std 1364-2005, clause 12, Annex A.1).
use Rattle.std.specs.Prelude.{◌≡◌, ℕ, List, [], ◌∷◌, Option, codes}
use Rattle.vf_base.specs.declared.names.Place.{Place}
use Rattle.vf_tree.specs.declared.modules.Pparam.{Pparam}
use Rattle.vf_tree.specs.declared.modules.Ports.{Ports}
use Rattle.vf_tree.specs.declared.modules.Item.{Item}
use Rattle.vf_tree.specs.declared.modules.Module.{Module}
use Rattle.vf_tree.specs.declared.modules.Source.{Source}
use Rattle.vf_expression.specs.Grammar.{Tokens, sign, word, name}
use Rattle.vf_item.specs.Rows.{IsRow}
use Rattle.vf_item.specs.Grammar.{IsParams, IsPortList, IsItem}

-- module = "module" Name [ "#" "(" pparam { "," pparam } ")" ] [ "(" [ ports ] ")" ] ";" { item } "endmodule"
pub data IsModule (ts rest : Tokens) (tree : Module) : Type 0 where
  one_module : (p q r s : Place) (text : List ℕ) (us vs ws : Tokens) (params : Option (List Pparam)) (ports : Option (Option Ports)) (items : List Item) → IsParams us vs params → IsPortList vs (sign r (codes ";") ∷ ws) ports
      → IsRow IsItem ws (word s (codes "endmodule") ∷ rest) items → ts ≡ word p (codes "module") ∷ name q text ∷ us
      → tree ≡ record { place = p; name = record { text = text; place = q }; params = params; ports = ports; items = items } → IsModule ts rest tree

-- source = module { module }: all of the tokens are that design
pub data IsSource (ts : Tokens) (tree : Source) : Type 0 where
  modules : (us : Tokens) (m : Module) (others : List Module) → IsModule ts us m → IsRow IsModule us [] others → tree ≡ record { place = m.place; modules = m ∷ others } → IsSource ts tree
