-- What a module stands on is at least one token.
use Rattle.std.proofs.Common.{◌<◌, ◌∷◌, length, ap, codes, arith}
use Rattle.vf_tree.specs.declared.modules.Module.{Module}
use Rattle.vf_expression.specs.Grammar.{Tokens, sign, word}
use Rattle.vf_item.specs.Grammar.{IsItem}
use Rattle.vf_item.proofs.CallerLemmas.{item_shorter, params_within, port_list_within, row_shorter}
use Rattle.vf_parse.specs.Grammar.{IsModule, one_module}

pub module_shorter : (ts rest : Tokens) (tree : Module) → IsModule ts rest tree → length rest < length ts
module_shorter ts rest tree (one_module p q r s text us vs ws params ports items x y z spelled t) =
    omega (arith, ap length spelled, params_within us vs params x, port_list_within vs (sign r (codes ";") ∷ ws) ports y, row_shorter IsItem item_shorter ws (word s (codes "endmodule") ∷ rest) items z)
